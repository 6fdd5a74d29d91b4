use Rattle.std.proofs.Common.{◌∙◌, ap, map}
use Rattle.plain_laws.proofs.Lists.{map-last}
use Rattle.term_unify.specs.PairView.{the_pair}
use Rattle.term_unify.proofs.PairLaws.{comes-apart, comes-binding, comes-ends, comes-pair, comes-rest, pairs-less, parts-less}
use Rattle.term_unify.proofs.VisitLaws.{parts-wait, past-waits, same-waits}
use Rattle.term_unify.proofs.solve.next_binding.Goals as goal

pub compare-requires-clause-left : goal.compare-requires-clause-left
compare-requires-clause-left c = (comes-pair c.args.store.now.store (map the_pair c.args.pairs.now.items) (map the_pair c.loop-a.pairs.items) (map the_pair c.pop.new.self.items) c.in-Some.a.0 c.in-Some.b.0 c.loop-a.invariant.comes (ap (map the_pair) c.in-Some.ensures.items ∙ map-last the_pair c.pop.new.self.items (c.in-Some.a, c.in-Some.b))).0

pub compare-requires-clause-right : goal.compare-requires-clause-right
compare-requires-clause-right c = (comes-pair c.args.store.now.store (map the_pair c.args.pairs.now.items) (map the_pair c.loop-a.pairs.items) (map the_pair c.pop.new.self.items) c.in-Some.a.0 c.in-Some.b.0 c.loop-a.invariant.comes (ap (map the_pair) c.in-Some.ensures.items ∙ map-last the_pair c.pop.new.self.items (c.in-Some.a, c.in-Some.b))).1

pub loop-a-smaller-in-Same : goal.loop-a-smaller-in-Same
loop-a-smaller-in-Same c = pairs-less c.args.store.now.store (map the_pair c.loop-a.pairs.items) (map the_pair c.pop.new.self.items) c.in-Some.a.0 c.in-Some.b.0 (ap (map the_pair) c.in-Some.ensures.items ∙ map-last the_pair c.pop.new.self.items (c.in-Some.a, c.in-Some.b))

pub loop-a-preserved-in-Same : goal.loop-a-preserved-in-Same
loop-a-preserved-in-Same c = same-waits c.args.store.now.store (map the_pair c.args.pairs.now.items) (map the_pair c.loop-a.pairs.items) (map the_pair c.pop.new.self.items) c.loop-a.visited.pairs.keys c.in-Some.a.0 c.in-Some.b.0 c.loop-a.invariant (ap (map the_pair) c.in-Some.ensures.items ∙ map-last the_pair c.pop.new.self.items (c.in-Some.a, c.in-Some.b)) c.in-Same.ensures.step

pub returns-in-Apart-clause-next : goal.returns-in-Apart-clause-next
returns-in-Apart-clause-next c = comes-apart c.args.store.now.store (map the_pair c.args.pairs.now.items) (map the_pair c.loop-a.pairs.items) (map the_pair c.pop.new.self.items) c.in-Some.a.0 c.in-Some.b.0 c.loop-a.invariant.comes (ap (map the_pair) c.in-Some.ensures.items ∙ map-last the_pair c.pop.new.self.items (c.in-Some.a, c.in-Some.b)) c.in-Apart.ensures.step

pub returns-in-Apart-clause-cells : goal.returns-in-Apart-clause-cells
returns-in-Apart-clause-cells c = comes-rest c.args.store.now.store (map the_pair c.args.pairs.now.items) (map the_pair c.loop-a.pairs.items) (map the_pair c.pop.new.self.items) c.in-Some.a.0 c.in-Some.b.0 c.loop-a.invariant.comes (ap (map the_pair) c.in-Some.ensures.items ∙ map-last the_pair c.pop.new.self.items (c.in-Some.a, c.in-Some.b))

pub returns-in-Bind-clause-next : goal.returns-in-Bind-clause-next
returns-in-Bind-clause-next c = (
  c.in-Bind.ensures.step.0,
  comes-binding c.args.store.now.store (map the_pair c.args.pairs.now.items) (map the_pair c.loop-a.pairs.items) (map the_pair c.pop.new.self.items) c.in-Some.a.0 c.in-Some.b.0 c.in-Bind.v.0 c.in-Bind.to.0 c.loop-a.invariant.comes (ap (map the_pair) c.in-Some.ensures.items ∙ map-last the_pair c.pop.new.self.items (c.in-Some.a, c.in-Some.b)) c.in-Bind.ensures.step.1,
  comes-ends c.args.store.now.store (map the_pair c.args.pairs.now.items) (map the_pair c.loop-a.pairs.items) (map the_pair c.pop.new.self.items) c.in-Some.a.0 c.in-Some.b.0 c.in-Bind.v.0 c.in-Bind.to.0 c.loop-a.invariant.comes (ap (map the_pair) c.in-Some.ensures.items ∙ map-last the_pair c.pop.new.self.items (c.in-Some.a, c.in-Some.b)) c.in-Bind.ensures.step.2,
)

pub returns-in-Bind-clause-cells : goal.returns-in-Bind-clause-cells
returns-in-Bind-clause-cells c = comes-rest c.args.store.now.store (map the_pair c.args.pairs.now.items) (map the_pair c.loop-a.pairs.items) (map the_pair c.pop.new.self.items) c.in-Some.a.0 c.in-Some.b.0 c.loop-a.invariant.comes (ap (map the_pair) c.in-Some.ensures.items ∙ map-last the_pair c.pop.new.self.items (c.in-Some.a, c.in-Some.b))

pub loop-a-smaller-in-Continue-branch-2 : goal.loop-a-smaller-in-Continue-branch-2
loop-a-smaller-in-Continue-branch-2 c = parts-less c.args.store.now.store (map the_pair c.loop-a.pairs.items) (map the_pair c.pop.new.self.items) (map the_pair c.push_parts.new.pairs.items) c.in-Some.a.0 c.in-Some.b.0 c.in-Parts.left.0 c.in-Parts.right.0 c.in-Parts.ensures.well (ap (map the_pair) c.in-Some.ensures.items ∙ map-last the_pair c.pop.new.self.items (c.in-Some.a, c.in-Some.b)) c.in-Parts.ensures.step c.in_ok-push_parts-in-Parts.ensures.added

pub loop-a-preserved-in-Continue-branch-2 : goal.loop-a-preserved-in-Continue-branch-2
loop-a-preserved-in-Continue-branch-2 c = parts-wait c.args.store.now.store (map the_pair c.args.pairs.now.items) (map the_pair c.loop-a.pairs.items) (map the_pair c.pop.new.self.items) (map the_pair c.push_parts.new.pairs.items) c.loop-a.visited.pairs.keys c.visit.new.self.pairs.keys c.in-Some.a.0 c.in-Some.b.0 c.in-Parts.left.0 c.in-Parts.right.0 c.in-Parts.ensures.well c.loop-a.invariant (ap (map the_pair) c.in-Some.ensures.items ∙ map-last the_pair c.pop.new.self.items (c.in-Some.a, c.in-Some.b)) c.in-Parts.ensures.step c.in_ok-push_parts-in-Parts.ensures.added c.in_ok-visit-in-Parts.ensures.noted

pub loop-a-smaller : goal.loop-a-smaller
loop-a-smaller c = pairs-less c.args.store.now.store (map the_pair c.loop-a.pairs.items) (map the_pair c.pop.new.self.items) c.in-Some.a.0 c.in-Some.b.0 (ap (map the_pair) c.in-Some.ensures.items ∙ map-last the_pair c.pop.new.self.items (c.in-Some.a, c.in-Some.b))

pub loop-a-preserved : goal.loop-a-preserved
loop-a-preserved c = past-waits c.args.store.now.store (map the_pair c.args.pairs.now.items) (map the_pair c.loop-a.pairs.items) (map the_pair c.pop.new.self.items) c.loop-a.visited.pairs.keys c.visit.new.self.pairs.keys c.in-Some.a.0 c.in-Some.b.0 c.in-Parts.left.0 c.in-Parts.right.0 c.in-Parts.ensures.well c.loop-a.invariant (ap (map the_pair) c.in-Some.ensures.items ∙ map-last the_pair c.pop.new.self.items (c.in-Some.a, c.in-Some.b)) c.in-Parts.ensures.step (c.in_ok-visit-in-Parts.ensures.again c.if-branch.false) c.in_ok-visit-in-Parts.ensures.noted
