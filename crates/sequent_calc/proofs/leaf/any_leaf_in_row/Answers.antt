use Rattle.std.proofs.Common.{◌∙◌, ap}
use Rattle.formula_text.specs.Rows.{any_item}
use Rattle.formula_text.proofs.RowLaws.{any-row}
use Rattle.sequent_calc.specs.LeafView.{the_test}
use Rattle.sequent_calc.proofs.leaf.any_leaf_in_row.Goals as goal

pub loop-item-init : goal.loop-item-init
loop-item-init c = ap (any_item (the_test c.args.test.now)) c.items-item-items.ensures ∙ any-row (the_test c.args.test.now) c.args.row.now
