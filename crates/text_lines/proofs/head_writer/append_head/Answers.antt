use Rattle.std.proofs.Common.{◌++◌, ap, ◌∙◌, decimal}
use Rattle.calculus.specs.DerivationText.{setting_text}
use Rattle.calculus.specs.Syntax.{Setting}
use Rattle.text_lines.proofs.HeadLaws.{head-by_steps}
use Rattle.text_lines.proofs.head_writer.append_head.Goals as goal

pub returns-clause-ok : goal.returns-clause-ok
returns-clause-ok c =
    head-by_steps c.args.first.now c.args.problem.now c.args.limit _ _ _ _ _ _ _ _ _ c.in_ok-write_bytes.ensures.ok c.in_ok-write_bytes-2.ensures.ok
    (c.in_ok-write_setting.ensures.ok ∙ ap (λ (s : Setting). c.write_bytes-2.new.out.items ++ setting_text s) c.setting.ensures.setting)
    c.in_ok-write_bytes-3.ensures.ok
    (rw (c.symbols.ensures.symbols, c.formula.ensures.formula) at c.in_ok-write_formula.ensures.ok)
    c.in_ok-write_bytes-4.ensures.ok (c.in_ok-write_number.ensures.ok ∙ ap (λ n. c.write_bytes-4.new.out.items ++ decimal n) c.from.ensures) c.in_ok-write_bytes-5.ensures.ok
