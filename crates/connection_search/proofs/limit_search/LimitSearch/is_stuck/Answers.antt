use Rattle.std.proofs.Common.{arith}
use Rattle.std.proofs.lemmas.Option.{slice_get_within}
use Rattle.search_tree.proofs.AheadLaws.{goal-cells, leftmost-open}
use Rattle.search_tree.proofs.GivenUpLaws.{lost-cannot}
use Rattle.search_tree.proofs.Places.{read-there}
use Rattle.connection_search.proofs.limit_search.LimitSearch.is_stuck.Goals as goal

pub loop-i-init : goal.loop-i-init
loop-i-init c = (c.requires.2.1.open_goals, c.requires.2.2.tree.open_goals)

pub index-at-requires : goal.index-at-requires
index-at-requires c =
    let w = leftmost-open c.args.tree.now.steps.items c.args.tree.now.goals.items c.loop-i.next c.in-Some-next.goal c.loop-i.invariant.0 c.loop-i.invariant.1 c.in-Some-next.is in
    let l = slice_get_within c.args.tree.now.goals.items c.in-Some-next.goal w.at.goal w.at.stands in
    let n = c.args.tree.now.goals.ok.0 in
    omega (arith, l, n)

pub is_lost-requires : goal.is_lost-requires
is_lost-requires c =
    let w = leftmost-open c.args.tree.now.steps.items c.args.tree.now.goals.items c.loop-i.next c.in-Some-next.goal c.loop-i.invariant.0 c.loop-i.invariant.1 c.in-Some-next.is in
    goal-cells c.args.self.now.problem.now c.args.self.now.matrix.now c.requires.0 c.args.self.now.limit c.requires.1 c.args.store.now.store c.args.tree.now.steps.items c.args.tree.now.goals.items c.args.tree.now.open c.in-Some-next.goal w.x c.requires.2 w.at

pub returns-then-is_lost : goal.returns-then-is_lost
returns-then-is_lost c = λ t base n p tm h.
    let w = leftmost-open c.args.tree.now.steps.items c.args.tree.now.goals.items c.loop-i.next c.in-Some-next.goal c.loop-i.invariant.0 c.loop-i.invariant.1 c.in-Some-next.is in
    lost-cannot c.args.self.now.problem.now c.args.self.now.matrix.now base c.args.self.now.limit p c.args.store.now.store c.args.tree.now.steps.items c.args.tree.now.goals.items c.args.tree.now.open n _ c.in-Some-next.goal w.at.goal tm h c.in-Some.is (omega arith) w.at.stands (c.is_lost.ensures c.if-is_lost.true)

pub loop-i-preserved : goal.loop-i-preserved
loop-i-preserved c =
    let w = leftmost-open c.args.tree.now.steps.items c.args.tree.now.goals.items c.loop-i.next c.in-Some-next.goal c.loop-i.invariant.0 c.loop-i.invariant.1 c.in-Some-next.is in
    w.rest c.index-at.result.now (read-there c.args.tree.now.goals.items c.in-Some-next.goal c.index-at.result.now w.at.goal w.at.stands c.index-at.ensures)
