use Rattle.std.proofs.Common.{◌≡◌, drop}
use Rattle.calculus.specs.Substitution.{any_leaf}
use Rattle.formula_text.specs.Rows.{any_item}
use Rattle.sequent_calc.specs.LeafView.{the_test}
use Rattle.sequent_calc.proofs.leaf.any_leaf_in_row.Given as goal

abbrev pub invariant-loop-item : goal.invariant-loop-item
invariant-loop-item l = any_item (the_test l.test) (drop l.item-index l.item-items) ≡ any_leaf (the_test l.test) l.row
