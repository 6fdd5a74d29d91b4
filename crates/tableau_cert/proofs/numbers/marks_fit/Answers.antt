use Rattle.std.proofs.Common.{arith, refl}
use Rattle.calculus.specs.Ground.{marks_tree}
use Rattle.calculus.specs.TableauText.{marks_have_numbers}
use Rattle.formula_core.specs.GroundLists.{the_mark}
use Rattle.tableau_cert.proofs.NumberLaws.{none-left, rest-marks}
use Rattle.tableau_cert.proofs.numbers.marks_fit.Goals as goal

pub loop-mark-init : goal.loop-mark-init
loop-mark-init c = λ ls n known low r. r

pub loop-mark-preserved : goal.loop-mark-preserved
loop-mark-preserved c = λ ls n known low r.
    c.loop-mark.invariant ls n known low (rest-marks ls n c.args.marks.now c.loop-mark.mark-index _ _ (omega arith) refl (c.mark_fits.ensures ls n known) low r)

pub returns : goal.returns
returns c = λ ls n known low. c.loop-mark.invariant ls n known low (none-left (the_mark ls) (λ xs. marks_have_numbers (marks_tree xs)) c.args.marks.now c.loop-mark.mark-index refl (omega arith))
