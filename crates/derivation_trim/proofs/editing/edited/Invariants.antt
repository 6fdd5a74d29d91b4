use Rattle.std.proofs.Common.{◌≡◌, map}
use Rattle.sequent_calc.specs.StepView.{the_step}
use Rattle.trim_theory.specs.Editing.{before_all, edited, first_place}
use Rattle.derivation_trim.specs.PlaceView.{the_place}
use Rattle.derivation_trim.proofs.EditLaws.{leads}
use Rattle.derivation_trim.proofs.editing.edited.Given as goal

abbrev pub invariant-loop-edit : goal.invariant-loop-edit
invariant-loop-edit l = before_all l.out (leads l.logic l.edits l.edit-index l.steps l.at (the_place l.branch.items l.parents.items l.table.items l.forks.items)) ≡ edited l.logic l.edits (map the_step l.steps) (first_place l.fn.problem)
