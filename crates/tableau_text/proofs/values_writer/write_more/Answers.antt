use Rattle.std.proofs.Common.{◌+◌, arith, refl}
use Rattle.tableau_text.proofs.WriteLaws.{values-next}
use Rattle.tableau_text.proofs.values_writer.write_more.Goals as goal

pub returns-then-from-values : goal.returns-then-from-values
returns-then-from-values c =
    values-next c.args.symbols.now c.args.table.now c.args.list c.values-values.result.now c.args.from (c.args.from + 1) _ _ c.item_of.result _ _ _ _ c.values-values.ensures.list c.if-from-values.true (omega arith) refl (c.item_of.ensures c.args.table.now) c.requires c.in_ok-write_bytes.ensures.ok c.in_ok-push_two.ensures
