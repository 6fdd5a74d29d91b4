use Rattle.std.proofs.Common.{◌≡◌, refl, sym, ◌∙◌, subst}
use Rattle.derivation_text.specs.Difference.{line_of_difference}
use Rattle.derivation_text.proofs.FaultLaws.{in-order_by_text, told-table, wrong-table}
use Rattle.derivation_text.proofs.StatedLaws.{stated-printable}
use Rattle.derivation_text.proofs.numbered_parser.check_order.Goals as goal

pub text_of_stated-requires : goal.text_of_stated-requires
text_of_stated-requires c = stated-printable c.args.problem.now c.args.d.now c.requires.form.printable

pub returns-in-None-clause-numbers : goal.returns-in-None-clause-numbers
returns-in-None-clause-numbers c = in-order_by_text c.args.problem.now c.requires.well c.args.d.now c.args.bytes.now c.in_ok-text.text.items c.requires.form c.in_ok-text.ensures (c.in-None.ensures.none refl ∙ c.as_slice.ensures.value)

pub returns-clause-fault : goal.returns-clause-fault
returns-clause-fault c = λ line why e.
    told-table c.args.problem.now c.args.bytes.now _ line _ why e
    (wrong-table c.args.problem.now c.requires.well c.args.bytes.now c.in_ok-text.text.items c.args.d.now c.in-Some.line c.requires.form c.in_ok-text.ensures
    (subst (λ s. c.in-Some.line ≡ line_of_difference 1 c.args.bytes.now s) c.as_slice.ensures.value c.in-Some.ensures.some) (λ k. c.in-Some.ensures.other (k ∙ sym c.as_slice.ensures.value)))
