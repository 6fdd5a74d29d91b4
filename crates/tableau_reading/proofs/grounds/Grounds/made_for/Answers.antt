use Rattle.std.proofs.Common.{length, map}
use Rattle.term_store.specs.RefView.{the_place}
use Rattle.tableau_reading.proofs.ReadingLaws.{cell-below}
use Rattle.tableau_reading.proofs.MakingLaws.{end-there, made-for}
use Rattle.tableau_reading.proofs.grounds.Grounds.made_for.Goals as goal

pub walk-end-requires : goal.walk-end-requires
walk-end-requires c = cell-below (length c.args.store.now.store.cells) (map the_place c.args.refs.now) c.args.i c.reference_at.result.0 c.requires.below c.reference_at.ensures

pub returns : goal.returns
returns c = made-for c.args.store.now.store c.args.self.now.table c.args.self.now.made.items (map the_place c.args.refs.now) c.args.i c.reference_at.result.0 c.walk-end.result.0 c.at.result c.in-Some.ground c.reference_at.ensures c.walk-end.ensures.ends c.in-Some.is c.at.ensures

pub unreachable-requires : goal.unreachable-requires
unreachable-requires c = end-there c.args.self.now c.walk-end.result.0 c.at.result c.in-None.is c.at.ensures (c.requires.made c.args.i c.reference_at.result.0 c.walk-end.result.0 c.reference_at.ensures c.walk-end.ensures.ends)
