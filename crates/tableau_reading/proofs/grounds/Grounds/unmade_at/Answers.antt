use Rattle.std.proofs.Common.{length, map}
use Rattle.term_store.specs.RefView.{the_place}
use Rattle.tableau_reading.proofs.ReadingLaws.{cell-below}
use Rattle.tableau_reading.proofs.MakingLaws.{made-there, unmade-there}
use Rattle.tableau_reading.proofs.grounds.Grounds.unmade_at.Goals as goal

pub walk-end-requires : goal.walk-end-requires
walk-end-requires c = cell-below (length c.args.store.now.store.cells) (map the_place c.args.refs.now) c.args.i c.reference_at.result.0 c.requires.below c.reference_at.ensures

pub returns-in-Some : goal.returns-in-Some
returns-in-Some c = made-there c.args.store.now.store c.args.self.now.made.items (map the_place c.args.refs.now) c.args.i c.reference_at.result.0 c.walk-end.result.0 c.at.result _ c.reference_at.ensures c.walk-end.ensures.ends c.in-Some.is c.at.ensures

pub returns-in-None : goal.returns-in-None
returns-in-None c = unmade-there c.args.store.now.store c.args.self.now.made.items (map the_place c.args.refs.now) c.args.i c.reference_at.result.0 c.walk-end.result.0 c.at.result c.reference_at.ensures c.walk-end.ensures.ends c.in-None.is c.at.ensures
