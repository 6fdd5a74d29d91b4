use Rattle.std.proofs.Common.{◌++◌, ◌∙◌, ap}
use Rattle.problem_gen.proofs.Texts.{next, shifted-text}
use Rattle.problem_gen.proofs.shift.append_goal.Goals as goal

pub returns : goal.returns
returns c =
    next _ _ _ _ _ (next _ _ _ _ _ (next _ _ _ _ _ (next _ _ _ _ _ c.in_ok-append_item.ensures c.in_ok-append_repeated.ensures) c.in_ok-append_bytes.ensures) c.in_ok-append_repeated-2.ensures) c.in_ok-append_bytes-2.ensures
    ∙ ap (λ l. c.args.out.now.items ++ l) (shifted-text c.args.word.now c.args.applications)
