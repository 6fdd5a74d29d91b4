use Rattle.std.proofs.Common.{arith, length}
use Rattle.std.proofs.lemmas.Option.{slice_get_within}
use Rattle.term_store.specs.ClauseView.{the_atom}
use Rattle.search_tree.proofs.AheadLaws.{IsApartIn, apart-literal}
use Rattle.search_tree.proofs.Places.{read-there}
use Rattle.search_tree.proofs.SeenLaws.{ancestor-below, goal-below}
use Rattle.search_tree.proofs.WayUpLaws.{up-all, up-ancestor, up-first, up-next, up-none}
use Rattle.connection_search.proofs.ahead.may_reduce.Goals as goal

pub loop-i-init : goal.loop-i-init
loop-i-init c = up-first (IsApartIn c.args.store.now.store) c.args.tree.now.steps.items c.args.tree.now.goals.items c.args.goal c.index-at.result.now (read-there c.args.tree.now.goals.items c.args.goal c.index-at.result.now c.requires.1.goal c.requires.1.stands c.index-at.ensures)

pub returns-in-None : goal.returns-in-None
returns-in-None c = λ f x g. up-none (IsApartIn c.args.store.now.store) c.args.tree.now.steps.items c.args.tree.now.goals.items c.args.goal c.loop-i.above c.loop-i._i c.loop-i.invariant c.in-None.is x g

pub atom-requires : goal.atom-requires
atom-requires c =
    let w = up-ancestor (IsApartIn c.args.store.now.store) c.args.tree.now.steps.items c.args.tree.now.goals.items c.args.goal c.loop-i.above c.in-Some.ancestor c.loop-i._i c.requires.0 c.loop-i.invariant c.in-Some.is c.requires.1 in
    (w.goal, w.atom, w.stands, w.is_atom)

pub may_meet-requires-clause-left : goal.may_meet-requires-clause-left
may_meet-requires-clause-left c = goal-below (length c.args.store.now.store.cells) c.args.tree.now.steps.items c.args.tree.now.goals.items c.args.goal c.requires.0 _ c.requires.1 c.requires.2 c.atom-signed.ensures

pub may_meet-requires-clause-right : goal.may_meet-requires-clause-right
may_meet-requires-clause-right c =
    let w = up-ancestor (IsApartIn c.args.store.now.store) c.args.tree.now.steps.items c.args.tree.now.goals.items c.args.goal c.loop-i.above c.in-Some.ancestor c.loop-i._i c.requires.0 c.loop-i.invariant c.in-Some.is c.requires.1 in
    ancestor-below (length c.args.store.now.store.cells) c.args.tree.now.steps.items c.args.tree.now.goals.items c.requires.0 c.in-Some.ancestor c.loop-i._i _ w c.requires.2 c.atom.ensures

pub index-requires : goal.index-requires
index-requires c =
    let w = up-ancestor (IsApartIn c.args.store.now.store) c.args.tree.now.steps.items c.args.tree.now.goals.items c.args.goal c.loop-i.above c.in-Some.ancestor c.loop-i._i c.requires.0 c.loop-i.invariant c.in-Some.is c.requires.1 in
    let l = slice_get_within c.args.tree.now.goals.items c.in-Some.ancestor w.goal w.stands in
    let n = c.args.tree.now.goals.ok.0 in
    omega (arith, l, n)

pub loop-i-preserved : goal.loop-i-preserved
loop-i-preserved c =
    let w = up-ancestor (IsApartIn c.args.store.now.store) c.args.tree.now.steps.items c.args.tree.now.goals.items c.args.goal c.loop-i.above c.in-Some.ancestor c.loop-i._i c.requires.0 c.loop-i.invariant c.in-Some.is c.requires.1 in
    up-next (IsApartIn c.args.store.now.store) (IsApartIn c.args.store.now.store) c.args.tree.now.steps.items c.args.tree.now.goals.items c.args.goal c.loop-i.above c.in-Some.ancestor c.loop-i._i c.index.result.now (the_atom c.atom.result.now) c.loop-i.invariant c.in-Some.is (read-there c.args.tree.now.goals.items c.in-Some.ancestor c.index.result.now w.goal w.stands c.index.ensures) c.atom.ensures (λ x g. apart-literal c.args.store.now.store c.args.tree.now.steps.items c.args.tree.now.goals.items c.args.goal (the_atom c.atom-signed.result.now) (the_atom c.atom.result.now) x g c.atom-signed.ensures (c.may_meet.ensures c.if-may_meet.false)) (λ x a h. h)

pub returns : goal.returns
returns c = λ f x g. up-all (IsApartIn c.args.store.now.store) c.args.tree.now.steps.items c.args.tree.now.goals.items c.args.goal c.loop-i.above c.loop-i._i c.index-at.result.now c.loop-i.invariant (read-there c.args.tree.now.goals.items c.args.goal c.index-at.result.now g.goal g.stands c.index-at.ensures) (omega arith) x g
