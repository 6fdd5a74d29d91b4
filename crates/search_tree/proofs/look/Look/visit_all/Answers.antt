use Rattle.std.proofs.Common.{length, subst}
use Rattle.search_tree.specs.Looking.{AreBelow, bound_in, waiting_in}
use Rattle.search_tree.proofs.LookingLaws.{below-popped, goes-popped, waiting-popped}
use Rattle.search_tree.proofs.look.Look.visit_all.Goals as goal

pub visit-requires : goal.visit-requires
visit-requires c = below-popped (length c.args.store.now.store.cells) c.loop-i.self.places.items c.pop.new.self.items c.in-Some.r c.in-Some.ensures.items c.loop-i.invariant.below

pub loop-i-preserved : goal.loop-i-preserved
loop-i-preserved c = record {
  goes = goes-popped c.args.store.now.store (bound_in c.args.self.now) (waiting_in c.args.self.now) (bound_in c.loop-i.self) (bound_in c.visit.new.self) (waiting_in c.visit.new.self) c.loop-i.self.places.items c.pop.new.self.items c.in-Some.r c.in-Some.ensures.items c.loop-i.invariant.goes c.in_ok-visit-in-Some.ensures;
  below = c.in_ok-visit-in-Some.ensures.below (subst (AreBelow (length c.args.store.now.store.cells)) (waiting-popped c.loop-i.self.places.items c.pop.new.self.items c.in-Some.r c.in-Some.ensures.items) c.loop-i.invariant.below);
}
