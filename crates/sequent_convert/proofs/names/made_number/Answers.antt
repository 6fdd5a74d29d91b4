use Rattle.std.proofs.Common.{◌∙◌}
use Rattle.sequent_convert.proofs.ByNumber.MadeNames.{mark-by}
use Rattle.sequent_convert.proofs.names.made_number.Goals as goal

pub returns-then-are_same_values : goal.returns-then-are_same_values
returns-then-are_same_values c = c.unwrap_or.ensures ∙ mark-by c.args.named.now.lists c.table-table.result.now c.table-table.ensures c.args.position.0 c.args.taken.now c.args.named.now.names c.in_ok-list.list c.values.result.now c.are_same_values.result c.mark.result c.if-are_same_values.true c.are_same_values.ensures c.values.ensures.list c.mark.ensures
