use Rattle.tableau_text.proofs.WriteLaws.{values-open}
use Rattle.tableau_text.proofs.values_writer.open_values.Goals as goal

pub returns-in_ok-push_two-in-Some : goal.returns-in_ok-push_two-in-Some
returns-in_ok-push_two-in-Some c = values-open c.args.symbols.now c.args.table.now c.args.list c.values.result.now _ c.in-Some.first.now c.item_of.result _ _ _ _ c.values.ensures.list c.in-Some.ensures.cases.0 (c.item_of.ensures c.args.table.now) c.requires c.in_ok-write_bytes-in-Some.ensures.ok c.in_ok-push_two-in-Some.ensures
