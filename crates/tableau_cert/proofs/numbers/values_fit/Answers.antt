use Rattle.std.proofs.Common.{arith, refl}
use Rattle.calculus.specs.Ground.{values_tree}
use Rattle.calculus.specs.TableauText.{values_have_numbers}
use Rattle.formula_core.specs.GroundLists.{the_value}
use Rattle.tableau_cert.proofs.NumberLaws.{none-left, rest-values}
use Rattle.tableau_cert.proofs.numbers.values_fit.Goals as goal

pub loop-value-init : goal.loop-value-init
loop-value-init c = λ ls n known low r. r

pub loop-value-preserved : goal.loop-value-preserved
loop-value-preserved c = λ ls n known low r.
    c.loop-value.invariant ls n known low (rest-values ls n c.args.values.now c.loop-value.value-index _ _ (omega arith) refl (c.value_fits.ensures ls n known) low r)

pub returns : goal.returns
returns c = λ ls n known low. c.loop-value.invariant ls n known low (none-left (the_value ls) (λ xs. values_have_numbers (values_tree xs)) c.args.values.now c.loop-value.value-index refl (omega arith))
