use Rattle.std.proofs.Common.{arith, length, map}
use Rattle.formula_core.proofs.GrownLaws.{grown-both}
use Rattle.term_store.specs.RefView.{the_place}
use Rattle.tableau_reading.proofs.GroundLaws.{grown-self}
use Rattle.tableau_reading.proofs.MakingLaws.{all-made, made-ends, made-still, made-to, none-made_to}
use Rattle.tableau_reading.proofs.ReadingLaws.{cell-below}
use Rattle.tableau_reading.proofs.reading.make_all.Goals as goal

pub loop-i-init : goal.loop-i-init
loop-i-init c = record {
  reading = c.requires.reading;
  grown = grown-self c.args.grounds.now.table c.requires.reading.most;
  made = none-made_to c.args.from.now.store.now.store c.args.grounds.now.made.items (map the_place c.args.refs.now);
}

pub ground_of-requires-clause-cell : goal.ground_of-requires-clause-cell
ground_of-requires-clause-cell c = cell-below (length c.args.from.now.store.now.store.cells) (map the_place c.args.refs.now) c.loop-i.i c.reference_at.result.0 c.requires.below c.reference_at.ensures

pub loop-i-preserved : goal.loop-i-preserved
loop-i-preserved c = record {
  reading = c.in_ok-_made.ensures.reading;
  grown = grown-both _ _ _ c.loop-i.invariant.grown c.in_ok-_made.ensures.grown;
  made = made-to c.args.from.now.store.now.store c.ground_of.new.self.made.items (map the_place c.args.refs.now) c.loop-i.i
      (made-still c.args.from.now.store.now.store c.loop-i.grounds.made.items c.ground_of.new.self.made.items (map the_place c.args.refs.now) c.loop-i.i c.loop-i.invariant.made c.in_ok-_made.ensures.kept)
      (made-ends c.args.from.now.store.now.store c.ground_of.new.self.made.items (map the_place c.args.refs.now) c.loop-i.i c.reference_at.result.0 c.reference_at.ensures c.in_ok-_made.ensures.made);
}

pub returns-clause-made : goal.returns-clause-made
returns-clause-made c = all-made c.args.from.now.store.now.store c.loop-i.grounds.made.items c.args.refs.now c.loop-i.i (omega arith) c.loop-i.invariant.made
