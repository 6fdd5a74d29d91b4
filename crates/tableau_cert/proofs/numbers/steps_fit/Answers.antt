use Rattle.std.proofs.Common.{arith, refl}
use Rattle.std.specs.List.{list_all}
use Rattle.tableau_text.specs.MovesView.{the_move}
use Rattle.tableau_cert.specs.Numbers.{move_has_numbers}
use Rattle.tableau_cert.proofs.NumberLaws.{move-rest, none-left}
use Rattle.tableau_cert.proofs.numbers.steps_fit.Goals as goal

pub loop-step-init : goal.loop-step-init
loop-step-init c = λ ls known r. r

pub loop-step-preserved : goal.loop-step-preserved
loop-step-preserved c = λ ls known r. c.loop-step.invariant ls known (move-rest ls c.args.steps.now c.loop-step.step-index _ _ (omega arith) c.step-item.is (c.move_fits.ensures ls known) r)

pub returns : goal.returns
returns c = λ ls known. c.loop-step.invariant ls known (none-left (the_move ls) (list_all move_has_numbers) c.args.steps.now c.loop-step.step-index refl (omega arith))
