use Rattle.std.proofs.Common.{◌≡◌, length, ap, arith, ◌∙◌, flat_map}
use Rattle.calculus.specs.FirstWrong.{line_bytes}
use Rattle.text_lines.specs.Head.{head_of}
use Rattle.derivation_text.proofs.FormulaLines.{formula-unique_in}
use Rattle.derivation_text.proofs.FaultLaws.{one-text}
use Rattle.derivation_text.proofs.WritingLaws.{tables-written, text-written}
use Rattle.logic_rules.proofs.ProblemFacts.{kept}
use Rattle.derivation_text.proofs.writer.write.Goals as goal

pub write_body-requires : goal.write_body-requires
write_body-requires c =
    let labels : c.count-labels.result ≡ length c.args.d.now.labels = c.count-labels.ensures ∙ ap length c.labels.ensures.list in
    let terms : c.count-terms.result ≡ length c.args.d.now.terms = c.count-terms.ensures ∙ ap length c.terms.ensures in
    record { written = tables-written c.args.problem.now c.args.d.now c.requires.printable c.requires.numbers (omega (arith, labels)) (omega (arith, terms)) }

pub returns-clause-text : goal.returns-clause-text
returns-clause-text c =
    let labels : c.count-labels.result ≡ length c.args.d.now.labels = c.count-labels.ensures ∙ ap length c.labels.ensures.list in
    let terms : c.count-terms.result ≡ length c.args.d.now.terms = c.count-terms.ensures ∙ ap length c.terms.ensures in
    text-written c.args.version c.args.problem.now c.args.d.now c.write_head.new.out.items c.write_body.new.out.items c.requires.printable c.requires.numbers (omega (arith, labels)) (omega (arith, terms))
    (rw c.new-out.ensures.items at c.in_ok-write_head.ensures.ok ∙ (λ i. flat_map line_bytes (head_of (c.first_line.ensures i) c.args.problem.now (c.limit.ensures i)))) c.in_ok-write_body.ensures

pub returns-clause-one : goal.returns-clause-one
returns-clause-one c = one-text c.args.problem.now (kept c.args.problem.now c.symbols-symbols.ensures.well).distinct _

pub returns-clause-formula : goal.returns-clause-formula
returns-clause-formula c = formula-unique_in c.args.problem.now c.symbols-symbols.ensures.well _
