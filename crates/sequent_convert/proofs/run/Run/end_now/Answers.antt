use Rattle.sequent_convert.specs.ByNumber.RunView.{the_lists}
use Rattle.sequent_convert.proofs.ByNumber.PairsAt.{no-pair-by, pair-by}
use Rattle.sequent_convert.proofs.run.Run.end_now.Goals as goal

pub close-requires-clause-pair : goal.close-requires-clause-pair
close-requires-clause-pair c = pair-by (the_lists c.args.source.now) c.table.result.now c.table.ensures c.args.self.now.branch.nodes.items c.as_slice.result.now c.as_slice.ensures.value c.in-Some.pair (rw c.in-Some.is at c.in_ok-pair.ensures)

pub unreachable-requires : goal.unreachable-requires
unreachable-requires c = c.requires.pair (no-pair-by (the_lists c.args.source.now) c.table.result.now c.table.ensures c.args.self.now.branch.nodes.items c.as_slice.result.now c.as_slice.ensures.value (rw c.in-None.is at c.in_ok-pair.ensures))
