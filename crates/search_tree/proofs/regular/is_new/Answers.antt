use Rattle.std.proofs.Common.{arith, length}
use Rattle.std.proofs.lemmas.Option.{slice_get_within}
use Rattle.search_tree.proofs.Places.{read-there}
use Rattle.search_tree.proofs.SeenLaws.{ancestor-below, depth-passed, goal-below, seen-ancestor, seen-at, seen-next, seen-none, seen-repeated}
use Rattle.search_tree.proofs.TreeLaws.{looks-all}
use Rattle.search_tree.proofs.regular.is_new.Goals as goal

pub returns-in-None-clause-new : goal.returns-in-None-clause-new
returns-in-None-clause-new c = λ t P base x g q h. seen-none c.args.store.now.store c.args.tree.now.steps.items c.args.tree.now.goals.items c.args.goal c.loop-i.above c.loop-i._i c.in-None.is c.loop-i.invariant P base x g q h

pub atom-requires : goal.atom-requires
atom-requires c =
    let w = seen-ancestor c.args.store.now.store c.args.tree.now.steps.items c.args.tree.now.goals.items c.args.goal c.in-Some.ancestor c.loop-i._i c.requires.0 (seen-at c.args.store.now.store c.args.tree.now.steps.items c.args.tree.now.goals.items c.args.goal c.loop-i.above c.in-Some.ancestor c.loop-i._i c.in-Some.is c.loop-i.invariant) c.requires.1 in
    (w.goal, w.atom, w.stands, w.is_atom)

pub are_same-requires-clause-left : goal.are_same-requires-clause-left
are_same-requires-clause-left c = goal-below (length c.args.store.now.store.cells) c.args.tree.now.steps.items c.args.tree.now.goals.items c.args.goal c.requires.0 _ c.requires.1 c.requires.2 c.atom-signed.ensures

pub are_same-requires-clause-right : goal.are_same-requires-clause-right
are_same-requires-clause-right c =
    let w = seen-ancestor c.args.store.now.store c.args.tree.now.steps.items c.args.tree.now.goals.items c.args.goal c.in-Some.ancestor c.loop-i._i c.requires.0 (seen-at c.args.store.now.store c.args.tree.now.steps.items c.args.tree.now.goals.items c.args.goal c.loop-i.above c.in-Some.ancestor c.loop-i._i c.in-Some.is c.loop-i.invariant) c.requires.1 in
    ancestor-below (length c.args.store.now.store.cells) c.args.tree.now.steps.items c.args.tree.now.goals.items c.requires.0 c.in-Some.ancestor c.loop-i._i _ w c.requires.2 c.atom.ensures

pub returns-then-branch-clause-repeated : goal.returns-then-branch-clause-repeated
returns-then-branch-clause-repeated c = λ t x g.
    seen-repeated c.args.store.now.store c.args.tree.now.steps.items c.args.tree.now.goals.items c.args.goal c.in-Some.ancestor c.loop-i._i _ _ (seen-at c.args.store.now.store c.args.tree.now.steps.items c.args.tree.now.goals.items c.args.goal c.loop-i.above c.in-Some.ancestor c.loop-i._i c.in-Some.is c.loop-i.invariant) c.atom-signed.ensures c.atom.ensures (c.in_ok-are_same-in-Some.ensures.same c.if-branch.true) x g

pub index-requires : goal.index-requires
index-requires c =
    let w = seen-ancestor c.args.store.now.store c.args.tree.now.steps.items c.args.tree.now.goals.items c.args.goal c.in-Some.ancestor c.loop-i._i c.requires.0 (seen-at c.args.store.now.store c.args.tree.now.steps.items c.args.tree.now.goals.items c.args.goal c.loop-i.above c.in-Some.ancestor c.loop-i._i c.in-Some.is c.loop-i.invariant) c.requires.1 in
    let l = slice_get_within c.args.tree.now.goals.items c.in-Some.ancestor w.goal w.stands in
    let n = c.args.tree.now.goals.ok.0 in
    omega (arith, l, n)

pub loop-i-preserved : goal.loop-i-preserved
loop-i-preserved c =
    let h = seen-at c.args.store.now.store c.args.tree.now.steps.items c.args.tree.now.goals.items c.args.goal c.loop-i.above c.in-Some.ancestor c.loop-i._i c.in-Some.is c.loop-i.invariant in
    let w = seen-ancestor c.args.store.now.store c.args.tree.now.steps.items c.args.tree.now.goals.items c.args.goal c.in-Some.ancestor c.loop-i._i c.requires.0 h c.requires.1 in
    seen-next c.args.store.now.store c.args.tree.now.steps.items c.args.tree.now.goals.items c.args.goal c.in-Some.ancestor c.loop-i._i c.index.result.now _ _ h (read-there c.args.tree.now.goals.items c.in-Some.ancestor c.index.result.now w.goal w.stands c.index.ensures) c.atom-signed.ensures c.atom.ensures (c.in_ok-are_same-in-Some.ensures.different c.if-branch.false)

pub returns-clause-new : goal.returns-clause-new
returns-clause-new c = λ t P base x g q h.
    let k = c.loop-i.invariant.others P base x g q h in
    let at = read-there c.args.tree.now.goals.items c.args.goal c.index-at.result.now g.goal g.stands c.index-at.ensures in
    looks-all c.args.store.now.store c.args.tree.now.steps.items c.args.tree.now.goals.items x c.loop-i.above c.loop-i._i k (depth-passed c.args.tree.now.steps.items c.args.tree.now.goals.items c.args.goal x c.index-at.result.now c.loop-i._i g at (omega arith))
