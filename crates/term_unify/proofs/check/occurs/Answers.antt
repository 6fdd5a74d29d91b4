use Rattle.std.proofs.Common.{◌∙◌, ap, map}
use Rattle.plain_laws.proofs.Lists.{map-last}
use Rattle.term_store.specs.RefView.{the_place}
use Rattle.term_unify.proofs.InnerLaws.{inside-first, inside-found, inside-less, inside-next, inside-on, inside-past}
use Rattle.term_unify.proofs.VisitLaws.{looks-rest}
use Rattle.term_unify.proofs.check.occurs.Goals as goal

pub loop-place-init : goal.loop-place-init
loop-place-init c = inside-first c.args.store.now.store c.args.v.0 c.args.r.0 (map the_place c.clear.new.self.items) (map the_place c.push_inner.new.places.items) c.clear-2.new.self.pairs.keys c.push_inner.ensures.well c.requires.variable c.requires.end c.requires.other (ap (map the_place) c.clear.ensures.items) (c.in_ok-push_inner.ensures.added c.if-branch.false) c.clear-2.ensures

pub push_inner-requires-then-branch-2-clause-end : goal.push_inner-requires-then-branch-2-clause-end
push_inner-requires-then-branch-2-clause-end c = (inside-next c.args.store.now.store c.args.v.0 c.args.r.0 c.in-Some.place.0 (map the_place c.pop.new.self.items) (map the_place c.loop-place.places.items) c.loop-place.visited.pairs.keys c.loop-place.invariant (ap (map the_place) c.in-Some.ensures.items ∙ map-last the_place c.pop.new.self.items c.in-Some.place)).1

pub returns-then-branch-3-clause-yes : goal.returns-then-branch-3-clause-yes
returns-then-branch-3-clause-yes c = λ t. inside-found c.args.store.now.store c.args.v.0 c.args.r.0 c.in-Some.place.0 (map the_place c.pop.new.self.items) (map the_place c.loop-place.places.items) c.loop-place.visited.pairs.keys c.loop-place.invariant (ap (map the_place) c.in-Some.ensures.items ∙ map-last the_place c.pop.new.self.items c.in-Some.place) (c.in_ok-push_inner-2.ensures.found c.if-branch-3.true)

pub loop-place-smaller-else-branch-3 : goal.loop-place-smaller-else-branch-3
loop-place-smaller-else-branch-3 c = inside-less c.args.store.now.store c.args.v.0 c.args.r.0 c.in-Some.place.0 (map the_place c.pop.new.self.items) (map the_place c.loop-place.places.items) (map the_place c.push_inner-then-branch-2.new.places.items) c.loop-place.visited.pairs.keys c.push_inner.ensures.well c.loop-place.invariant (ap (map the_place) c.in-Some.ensures.items ∙ map-last the_place c.pop.new.self.items c.in-Some.place) (c.in_ok-push_inner-2.ensures.added c.if-branch-3.false)

pub loop-place-preserved-else-branch-3 : goal.loop-place-preserved-else-branch-3
loop-place-preserved-else-branch-3 c = inside-on c.args.store.now.store c.args.v.0 c.args.r.0 c.in-Some.place.0 (map the_place c.pop.new.self.items) (map the_place c.loop-place.places.items) (map the_place c.push_inner-then-branch-2.new.places.items) c.loop-place.visited.pairs.keys c.visit.new.self.pairs.keys c.push_inner.ensures.well c.requires.variable c.loop-place.invariant (ap (map the_place) c.in-Some.ensures.items ∙ map-last the_place c.pop.new.self.items c.in-Some.place) (c.in_ok-push_inner-2.ensures.added c.if-branch-3.false) c.in_ok-visit.ensures.noted

pub loop-place-smaller : goal.loop-place-smaller
loop-place-smaller c = looks-rest c.args.store.now.store c.in-Some.place.0 (map the_place c.pop.new.self.items) _ (ap (map the_place) c.in-Some.ensures.items ∙ map-last the_place c.pop.new.self.items c.in-Some.place)

pub loop-place-preserved : goal.loop-place-preserved
loop-place-preserved c = inside-past c.args.store.now.store c.args.v.0 c.args.r.0 c.in-Some.place.0 (map the_place c.pop.new.self.items) (map the_place c.loop-place.places.items) c.loop-place.visited.pairs.keys c.visit.new.self.pairs.keys c.push_inner.ensures.well c.requires.variable c.loop-place.invariant (ap (map the_place) c.in-Some.ensures.items ∙ map-last the_place c.pop.new.self.items c.in-Some.place) (c.in_ok-visit.ensures.again c.if-branch-2.false) c.in_ok-visit.ensures.noted
