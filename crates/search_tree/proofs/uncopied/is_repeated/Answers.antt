use Rattle.std.proofs.Common.{arith, length}
use Rattle.std.proofs.lemmas.Option.{slice_get_within}
use Rattle.term_store.specs.ClauseView.{the_atom, the_pattern_atom}
use Rattle.term_store.specs.RefView.{the_places}
use Rattle.search_tree.proofs.Places.{read-there}
use Rattle.search_tree.proofs.SeenLaws.{ancestor-below, goal-below}
use Rattle.search_tree.proofs.LookingOver.{IsAny, repeats-ancestor, repeats-goal}
use Rattle.search_tree.proofs.WayUpLaws.{up-ancestor, up-first, up-next}
use Rattle.search_tree.proofs.uncopied.is_repeated.Goals as goal

pub is_same-requires-clause-atom : goal.is_same-requires-clause-atom
is_same-requires-clause-atom c = goal-below (length c.args.store.now.store.cells) c.args.tree.now.steps.items c.args.tree.now.goals.items c.args.goal c.requires.goal.0 (the_atom c.atom.result.now) c.requires.goal.1 c.requires.goal.2 c.atom.ensures

pub returns-then-branch : goal.returns-then-branch
returns-then-branch c = λ t. repeats-goal c.args.store.now.store (the_places c.args.variables) (the_pattern_atom c.args.literal.now) c.args.tree.now.steps.items c.args.tree.now.goals.items c.args.goal (the_atom c.atom.result.now) c.atom.ensures (c.in_ok-is_same.ensures c.if-branch.true)

pub loop-i-init : goal.loop-i-init
loop-i-init c = up-first IsAny c.args.tree.now.steps.items c.args.tree.now.goals.items c.args.goal c.index-at.result.now (read-there c.args.tree.now.goals.items c.args.goal c.index-at.result.now c.requires.goal.1.goal c.requires.goal.1.stands c.index-at.ensures)

pub atom-requires-in-Some : goal.atom-requires-in-Some
atom-requires-in-Some c =
    let w = up-ancestor IsAny c.args.tree.now.steps.items c.args.tree.now.goals.items c.args.goal c.loop-i.above c.in-Some.ancestor c.loop-i._i c.requires.goal.0 c.loop-i.invariant c.in-Some.is c.requires.goal.1 in
    (w.goal, w.atom, w.stands, w.is_atom)

pub is_same-requires-in-Some-clause-atom : goal.is_same-requires-in-Some-clause-atom
is_same-requires-in-Some-clause-atom c =
    let w = up-ancestor IsAny c.args.tree.now.steps.items c.args.tree.now.goals.items c.args.goal c.loop-i.above c.in-Some.ancestor c.loop-i._i c.requires.goal.0 c.loop-i.invariant c.in-Some.is c.requires.goal.1 in
    ancestor-below (length c.args.store.now.store.cells) c.args.tree.now.steps.items c.args.tree.now.goals.items c.requires.goal.0 c.in-Some.ancestor c.loop-i._i (the_atom c.atom-in-Some.result.now) w c.requires.goal.2 c.atom-in-Some.ensures

pub returns-then-branch-2 : goal.returns-then-branch-2
returns-then-branch-2 c = λ t x g. repeats-ancestor c.args.store.now.store (the_places c.args.variables) (the_pattern_atom c.args.literal.now) c.args.tree.now.steps.items c.args.tree.now.goals.items c.in-Some.ancestor c.loop-i._i (the_atom c.atom-in-Some.result.now) x (up-ancestor IsAny c.args.tree.now.steps.items c.args.tree.now.goals.items c.args.goal c.loop-i.above c.in-Some.ancestor c.loop-i._i x c.loop-i.invariant c.in-Some.is g) c.atom-in-Some.ensures (c.in_ok-is_same-in-Some.ensures c.if-branch-2.true)

pub index-requires : goal.index-requires
index-requires c =
    let w = up-ancestor IsAny c.args.tree.now.steps.items c.args.tree.now.goals.items c.args.goal c.loop-i.above c.in-Some.ancestor c.loop-i._i c.requires.goal.0 c.loop-i.invariant c.in-Some.is c.requires.goal.1 in
    let l = slice_get_within c.args.tree.now.goals.items c.in-Some.ancestor w.goal w.stands in
    let n = c.args.tree.now.goals.ok.0 in
    omega (arith, l, n)

pub loop-i-preserved : goal.loop-i-preserved
loop-i-preserved c =
    let w = up-ancestor IsAny c.args.tree.now.steps.items c.args.tree.now.goals.items c.args.goal c.loop-i.above c.in-Some.ancestor c.loop-i._i c.requires.goal.0 c.loop-i.invariant c.in-Some.is c.requires.goal.1 in
    up-next IsAny IsAny c.args.tree.now.steps.items c.args.tree.now.goals.items c.args.goal c.loop-i.above c.in-Some.ancestor c.loop-i._i c.index.result.now (the_atom c.atom-in-Some.result.now) c.loop-i.invariant c.in-Some.is (read-there c.args.tree.now.goals.items c.in-Some.ancestor c.index.result.now w.goal w.stands c.index.ensures) c.atom-in-Some.ensures (λ x g. tt) (λ x a h. h)
