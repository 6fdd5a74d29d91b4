use Rattle.std.proofs.Common.{refl, arith}
use Rattle.std.specs.Vec.Iter.{into_iter_items}
use Rattle.finite_model.proofs.MakingLaws.{taken-all, taken-next}
use Rattle.finite_model.proofs.making.take_entries.Goals as goal

pub loop-entry-init : goal.loop-entry-init
loop-entry-init c = record { taken = record { front = c.new-taken.ensures.items; behind = refl }; len = c.requires }

pub loop-entry-preserved : goal.loop-entry-preserved
loop-entry-preserved c = record {
  taken = taken-next (into_iter_items c.args.entries.now) c.loop-entry.taken.items (into_iter_items c.loop-entry.entries) _ _ c.loop-entry._entry c.loop-entry.invariant.taken c.in_ok-take_entry.ensures.taken c.in_ok-take_entry.ensures.rest;
  len = c.in_ok-take_entry.ensures.len;
}

pub returns-clause-taken : goal.returns-clause-taken
returns-clause-taken c = (taken-all (into_iter_items c.args.entries.now) c.loop-entry.taken.items (into_iter_items c.loop-entry.entries) c.loop-entry._entry c.args.count c.loop-entry.invariant.taken (omega arith)).0

pub returns-clause-rest : goal.returns-clause-rest
returns-clause-rest c = (taken-all (into_iter_items c.args.entries.now) c.loop-entry.taken.items (into_iter_items c.loop-entry.entries) c.loop-entry._entry c.args.count c.loop-entry.invariant.taken (omega arith)).1
