use Rattle.std.proofs.Common.{refl}
use Rattle.sequent_convert.proofs.ByNumber.MadeNames.{made_name, none-by, none-number, found-by}
use Rattle.sequent_convert.proofs.names.number_among.Goals as goal

pub loop-name-preserved : goal.loop-name-preserved
loop-name-preserved c = none-by c.args.named.now.lists c.table-table.result.now c.table-table.ensures c.args.position.0 c.args.taken.now c.names-name-items.result.now c.loop-name.name-index _ _ c.is_made.result c.loop-name-test.true refl c.if-is_made.false c.is_made.ensures c.loop-name.invariant

pub returns-then-is_made : goal.returns-then-is_made
returns-then-is_made c = found-by c.args.named.now.lists c.table-table.result.now c.table-table.ensures c.args.position.0 c.args.taken.now c.args.named.now.names _ c.is_made.result c.number_by.result c.if-is_made.true c.is_made.ensures c.number_by.ensures

pub returns : goal.returns
returns c = none-number c.args.named.now.lists c.names-name-items.result.now c.args.named.now.names c.loop-name.name-index (made_name c.args.named.now.lists c.args.position.0 c.args.taken.now) c.names-name-items.ensures.names c.loop-name-test.false c.loop-name.invariant
