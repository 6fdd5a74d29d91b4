use Rattle.std.proofs.Common.{◌∙◌, subst, sym}
use Rattle.search_tree.specs.Points.{IsNextAncestor}
use Rattle.search_tree.specs.Running.{GoalStands}
use Rattle.search_tree.proofs.MoveLaws.{goal-here}
use Rattle.connection_search.proofs.PassingOver.{left-ancestor, left-extension, left-none}
use Rattle.search_tree.proofs.PointLaws.{ancestor-falls, extensions-moved}
use Rattle.connection_search.proofs.limit_search.LimitSearch.next_choice.Goals as goal

pub next_ancestor-requires : goal.next_ancestor-requires
next_ancestor-requires c =
    let (P, base, p, g, untried, tm, at, has) = c.requires in
    (g, goal-here P c.args.self.now.matrix.now base c.args.self.now.limit p c.args.store.now.store c.args.tree.now.steps.items c.args.tree.now.goals.items c.args.point.now.goal g at, has.above)

pub returns-in-Some-clause-next : goal.returns-in-Some-clause-next
returns-in-Some-clause-next c = λ P base p g untried tm at has.
    let there = goal-here P c.args.self.now.matrix.now base c.args.self.now.limit p c.args.store.now.store c.args.tree.now.steps.items c.args.tree.now.goals.items c.args.point.now.goal g at in
    let n = subst (λ o. IsNextAncestor c.args.tree.now.steps.items c.args.tree.now.goals.items g c.args.point.now c.next_ancestor.new.self o) c.in-Some.is (c.in_ok-step.ensures.next g there has.above) in
    left-ancestor P c.args.self.now.matrix.now c.args.self.now.limit p c.args.tree.now.steps.items c.args.tree.now.goals.items c.args.point.now c.next_ancestor.new.self g untried c.args.left c.in-Some.step has n c.next_ancestor.ensures.places.0 c.next_ancestor.ensures.places.1 c.next_ancestor.ensures.same.depth

pub returns-in-Some-clause-falls : goal.returns-in-Some-clause-falls
returns-in-Some-clause-falls c =
    let (P, base, p, g, untried, tm, at, has) = c.requires in
    let there = goal-here P c.args.self.now.matrix.now base c.args.self.now.limit p c.args.store.now.store c.args.tree.now.steps.items c.args.tree.now.goals.items c.args.point.now.goal g at in
    let n = subst (λ o. IsNextAncestor c.args.tree.now.steps.items c.args.tree.now.goals.items g c.args.point.now c.next_ancestor.new.self o) c.in-Some.is (c.in_ok-step.ensures.next g there has.above) in
    ancestor-falls c.args.self.now.matrix.now c.args.self.now.limit c.args.tree.now.steps.items c.args.tree.now.goals.items c.args.point.now c.next_ancestor.new.self g untried c.in-Some.step has n c.next_ancestor.ensures.places.0 c.next_ancestor.ensures.places.1 c.next_ancestor.ensures.same.depth

pub next_place-requires : goal.next_place-requires
next_place-requires c =
    let (P, base, p, g, untried, tm, at, has) = c.requires in
    (P, base, p, g, has.later, tm, subst (λ n. GoalStands P c.args.self.now.matrix.now base c.args.self.now.limit p c.args.store.now c.args.tree.now n g) (sym c.next_ancestor.ensures.same.goal) at, extensions-moved c.args.self.now.matrix.now c.args.self.now.limit c.args.point.now c.next_ancestor.new.self g has.later has.extensions c.next_ancestor.ensures.places.0 c.next_ancestor.ensures.places.1)

pub returns-in-Some-next_place-clause-next : goal.returns-in-Some-next_place-clause-next
returns-in-Some-next_place-clause-next c = λ P base p g untried tm at has.
    let there = goal-here P c.args.self.now.matrix.now base c.args.self.now.limit p c.args.store.now.store c.args.tree.now.steps.items c.args.tree.now.goals.items c.args.point.now.goal g at in
    let n = subst (λ o. IsNextAncestor c.args.tree.now.steps.items c.args.tree.now.goals.items g c.args.point.now c.next_ancestor.new.self o) c.in_default.is (c.in_ok-step.ensures.next g there has.above) in
    let w = c.in-Some-next_place.ensures.next P base p g has.later tm (subst (λ n. GoalStands P c.args.self.now.matrix.now base c.args.self.now.limit p c.args.store.now c.args.tree.now n g) (sym c.next_ancestor.ensures.same.goal) at) (extensions-moved c.args.self.now.matrix.now c.args.self.now.limit c.args.point.now c.next_ancestor.new.self g has.later has.extensions c.next_ancestor.ensures.places.0 c.next_ancestor.ensures.places.1) in
    left-extension P c.args.self.now.matrix.now c.args.self.now.limit p c.args.tree.now.steps.items c.args.tree.now.goals.items c.args.point.now c.next_ancestor.new.self c.next_place.new.point g untried c.args.left c.in-Some-next_place.place has n w c.next_place.ensures.way.0 c.next_place.ensures.way.1 (c.next_place.ensures.same.depth ∙ c.next_ancestor.ensures.same.depth)

pub returns-in-None-clause-next : goal.returns-in-None-clause-next
returns-in-None-clause-next c = λ P base p g untried tm at has.
    let there = goal-here P c.args.self.now.matrix.now base c.args.self.now.limit p c.args.store.now.store c.args.tree.now.steps.items c.args.tree.now.goals.items c.args.point.now.goal g at in
    let n = subst (λ o. IsNextAncestor c.args.tree.now.steps.items c.args.tree.now.goals.items g c.args.point.now c.next_ancestor.new.self o) c.in_default.is (c.in_ok-step.ensures.next g there has.above) in
    left-none P c.args.self.now.matrix.now c.args.self.now.limit p c.args.tree.now.steps.items c.args.tree.now.goals.items c.args.point.now c.next_ancestor.new.self c.next_place.new.point g untried c.args.left has n (c.in-None.ensures.next P base p g has.later tm (subst (λ n. GoalStands P c.args.self.now.matrix.now base c.args.self.now.limit p c.args.store.now c.args.tree.now n g) (sym c.next_ancestor.ensures.same.goal) at) (extensions-moved c.args.self.now.matrix.now c.args.self.now.limit c.args.point.now c.next_ancestor.new.self g has.later has.extensions c.next_ancestor.ensures.places.0 c.next_ancestor.ensures.places.1))
