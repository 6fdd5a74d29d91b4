use Rattle.std.proofs.Common.{map}
use Rattle.term_store.specs.RefView.{the_place}
use Rattle.search_tree.specs.Looking.{bound_in, waiting_in}
use Rattle.search_tree.proofs.LookingLaws.{visits-bound, visits-parts, waiting-popped}
use Rattle.search_tree.proofs.look.Look.visit.Goals as goal

pub returns-in_ok-add_parts-in-None : goal.returns-in_ok-add_parts-in-None
returns-in_ok-add_parts-in-None c = visits-parts c.args.store.now.store (bound_in c.args.self.now) (bound_in c.add_parts.new.self) (waiting_in c.args.self.now) (waiting_in c.add_parts.new.self) c.args.r.0 c.binding.ensures.well c.in-None.ensures.binding c.in_ok-add_parts-in-None.ensures.bound c.in_ok-add_parts-in-None.ensures.parts

pub returns-in_ok-push-in-Some-2 : goal.returns-in_ok-push-in-Some-2
returns-in_ok-push-in-Some-2 c = visits-bound c.args.store.now.store (bound_in c.args.self.now) (map the_place c.push.new.self.items) (waiting_in c.args.self.now) (map the_place c.push-in-Some.new.self.items) c.args.r.0 c.in-Some.to.0 c.in-Some.ensures.binding.0 c.binding.ensures.well c.in-Some.ensures.binding.1 (waiting-popped c.push.new.self.items c.args.self.now.bound.items c.args.r c.in_ok-push-in-Some.ensures.items) (waiting-popped c.push-in-Some.new.self.items c.args.self.now.places.items c.in-Some.to c.in_ok-push-in-Some-2.ensures.items)
