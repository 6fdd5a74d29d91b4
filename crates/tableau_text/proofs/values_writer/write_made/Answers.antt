use Rattle.tableau_text.proofs.PieceLaws.{wrote-behind}
use Rattle.tableau_text.proofs.values_writer.write_made.Goals as goal

pub returns : goal.returns
returns c = wrote-behind c.args.symbols.now c.args.table.now _ _ _ _ _ _ _ c.in_ok-write_numbered.ensures c.in_ok-open_values.ensures
