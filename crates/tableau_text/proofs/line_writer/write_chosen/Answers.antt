use Rattle.formula_core.specs.GroundLists.{the_values}
use Rattle.tableau_text.proofs.MovesText.{chosen-by_steps, tree-written}
use Rattle.tableau_text.specs.MovesView.{the_chosen}
use Rattle.tableau_text.proofs.line_writer.write_chosen.Goals as goal

pub write_values-requires : goal.write_values-requires
write_values-requires c = tree-written c.args.symbols.now (the_values c.args.table.now c.args.chosen.now.values) c.requires

pub returns : goal.returns
returns c = chosen-by_steps c.args.symbols.now (the_chosen c.args.table.now c.args.chosen.now) _ _ _ _ (rw c.items.ensures at c.in_ok-write_sides.ensures) c.in_ok-write_bytes.ensures.ok c.in_ok-write_values.ensures
