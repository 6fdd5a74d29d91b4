use Rattle.std.proofs.Common.{◌∙◌, ap}
use Rattle.sequent_calc.specs.StepView.{the_step}
use Rattle.trim_theory.specs.Writing.{numbered}
use Rattle.derivation_trim.specs.PlaceView.{the_place}
use Rattle.derivation_trim.proofs.EditLaws.{kept-by}
use Rattle.derivation_trim.proofs.editing.keep.Goals as goal

pub returns : goal.returns
returns c = λ l xs go.
    let w = the_place c.args.branch.now.items c.args.parents.now.items c.args.table.now.items c.args.forks.now.items in
    kept-by l (the_step c.args.step.now) (the_step c.in_ok-made.made) xs w _ go c.args.out.now c.push.new.self
    (c.in_ok-made.ensures.step ∙ ap (λ t. numbered t (the_step c.args.step.now)) c.as_slice.ensures.value) c.in_ok-made.ensures.numbers c.in_ok-push.ensures.ok c.in_ok-go_on.ensures
