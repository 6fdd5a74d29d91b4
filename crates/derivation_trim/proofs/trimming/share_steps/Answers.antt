use Rattle.std.proofs.Common.{◌≡◌, List, IfSome, Some, ◌∙◌, ap, arith, length, map, subst, sym}
use Rattle.std.proofs.lemmas.List.{length-map}
use Rattle.sequent_calc.specs.StepView.{the_step}
use Rattle.trim_theory.specs.Editing.{edited_in}
use Rattle.trim_theory.specs.Found.{same, steps_left}
use Rattle.trim_theory.specs.declared.edit.Edit.{Edit}
use Rattle.derivation_trim.proofs.TrimmedLaws.{replaced-by}
use Rattle.derivation_trim.proofs.trimming.share_steps.Goals as goal

pub returns-in_default : goal.returns-in_default
returns-in_default c = same

pub returns-else-items : goal.returns-else-items
returns-else-items c = same

pub returns-then-items : goal.returns-then-items
returns-then-items c =
    let P = c.args.problem.now in
    let found = subst (λ o. IfSome o (λ out. (es : List Edit) × (edited_in P es (map the_step c.items.result.now) ≡ Some out))) c.in-Some.is c.in_ok-edited.ensures in
    let left = ap length (sym c.items-3.ensures) ∙ length-map c.items-3.result.now the_step in
    let given = ap length (sym c.items-4.ensures) ∙ length-map c.items-4.result.now the_step in
    let less = c.if-items.true in
    replaced-by P c.args.steps c.in-Some.edited c.in_ok-left.left (found.0, ap (edited_in P found.0) (sym c.items.ensures) ∙ found.1)
    (c.in_ok-left.ensures ∙ ap (steps_left P) c.items-2.ensures) (omega (arith, left, given, less))
