use Rattle.std.proofs.Common.{arith, length}
use Rattle.std.proofs.lemmas.Option.{slice_get_within}
use Rattle.term_store.specs.ClauseView.{the_atom, the_pattern_atom}
use Rattle.term_store.specs.RefView.{the_places}
use Rattle.search_tree.proofs.Places.{read-there}
use Rattle.search_tree.proofs.SeenLaws.{ancestor-below, goal-below}
use Rattle.search_tree.proofs.LookingOver.{IsApartFrom, apart-goal, no-reduction}
use Rattle.search_tree.proofs.WayUpLaws.{up-all, up-ancestor, up-first, up-next, up-none}
use Rattle.search_tree.proofs.uncopied.may_reduce.Goals as goal

pub may_meet-requires-clause-atom : goal.may_meet-requires-clause-atom
may_meet-requires-clause-atom c = goal-below (length c.args.store.now.store.cells) c.args.tree.now.steps.items c.args.tree.now.goals.items c.args.goal c.requires.goal.0 (the_atom c.atom.result.now) c.requires.goal.1 c.requires.goal.2 c.atom.ensures

pub loop-i-init : goal.loop-i-init
loop-i-init c = record {
  up = up-first (IsApartFrom c.args.store.now.store (the_places c.args.variables) (the_pattern_atom c.args.literal.now)) c.args.tree.now.steps.items c.args.tree.now.goals.items c.args.goal c.index-at.result.now (read-there c.args.tree.now.goals.items c.args.goal c.index-at.result.now c.requires.goal.1.goal c.requires.goal.1.stands c.index-at.ensures);
  own = λ x g. apart-goal c.args.store.now.store (the_places c.args.variables) (the_pattern_atom c.args.literal.now) c.args.tree.now.steps.items c.args.tree.now.goals.items c.args.goal (the_atom c.atom.result.now) x g c.atom.ensures (c.may_meet.ensures c.if-may_meet.false);
}

pub returns-in-None : goal.returns-in-None
returns-in-None c = λ f x g. no-reduction c.args.store.now.store (the_places c.args.variables) (the_pattern_atom c.args.literal.now) x (c.loop-i.invariant.own x g) (up-none (IsApartFrom c.args.store.now.store (the_places c.args.variables) (the_pattern_atom c.args.literal.now)) c.args.tree.now.steps.items c.args.tree.now.goals.items c.args.goal c.loop-i.above c.loop-i._i c.loop-i.invariant.up c.in-None.is x g)

pub atom-requires-in-Some : goal.atom-requires-in-Some
atom-requires-in-Some c =
    let w = up-ancestor (IsApartFrom c.args.store.now.store (the_places c.args.variables) (the_pattern_atom c.args.literal.now)) c.args.tree.now.steps.items c.args.tree.now.goals.items c.args.goal c.loop-i.above c.in-Some.ancestor c.loop-i._i c.requires.goal.0 c.loop-i.invariant.up c.in-Some.is c.requires.goal.1 in
    (w.goal, w.atom, w.stands, w.is_atom)

pub may_meet-requires-in-Some-clause-atom : goal.may_meet-requires-in-Some-clause-atom
may_meet-requires-in-Some-clause-atom c =
    let w = up-ancestor (IsApartFrom c.args.store.now.store (the_places c.args.variables) (the_pattern_atom c.args.literal.now)) c.args.tree.now.steps.items c.args.tree.now.goals.items c.args.goal c.loop-i.above c.in-Some.ancestor c.loop-i._i c.requires.goal.0 c.loop-i.invariant.up c.in-Some.is c.requires.goal.1 in
    ancestor-below (length c.args.store.now.store.cells) c.args.tree.now.steps.items c.args.tree.now.goals.items c.requires.goal.0 c.in-Some.ancestor c.loop-i._i (the_atom c.atom-in-Some.result.now) w c.requires.goal.2 c.atom-in-Some.ensures

pub index-requires : goal.index-requires
index-requires c =
    let w = up-ancestor (IsApartFrom c.args.store.now.store (the_places c.args.variables) (the_pattern_atom c.args.literal.now)) c.args.tree.now.steps.items c.args.tree.now.goals.items c.args.goal c.loop-i.above c.in-Some.ancestor c.loop-i._i c.requires.goal.0 c.loop-i.invariant.up c.in-Some.is c.requires.goal.1 in
    let l = slice_get_within c.args.tree.now.goals.items c.in-Some.ancestor w.goal w.stands in
    let n = c.args.tree.now.goals.ok.0 in
    omega (arith, l, n)

pub loop-i-preserved : goal.loop-i-preserved
loop-i-preserved c =
    let w = up-ancestor (IsApartFrom c.args.store.now.store (the_places c.args.variables) (the_pattern_atom c.args.literal.now)) c.args.tree.now.steps.items c.args.tree.now.goals.items c.args.goal c.loop-i.above c.in-Some.ancestor c.loop-i._i c.requires.goal.0 c.loop-i.invariant.up c.in-Some.is c.requires.goal.1 in
    record {
      up = up-next (IsApartFrom c.args.store.now.store (the_places c.args.variables) (the_pattern_atom c.args.literal.now)) (IsApartFrom c.args.store.now.store (the_places c.args.variables) (the_pattern_atom c.args.literal.now)) c.args.tree.now.steps.items c.args.tree.now.goals.items c.args.goal c.loop-i.above c.in-Some.ancestor c.loop-i._i c.index.result.now (the_atom c.atom-in-Some.result.now) c.loop-i.invariant.up c.in-Some.is (read-there c.args.tree.now.goals.items c.in-Some.ancestor c.index.result.now w.goal w.stands c.index.ensures) c.atom-in-Some.ensures (λ x g. c.may_meet-in-Some.ensures c.if-may_meet-2.false) (λ x a h. h);
      own = c.loop-i.invariant.own;
    }

pub returns : goal.returns
returns c = λ f x g. no-reduction c.args.store.now.store (the_places c.args.variables) (the_pattern_atom c.args.literal.now) x (c.loop-i.invariant.own x g) (up-all (IsApartFrom c.args.store.now.store (the_places c.args.variables) (the_pattern_atom c.args.literal.now)) c.args.tree.now.steps.items c.args.tree.now.goals.items c.args.goal c.loop-i.above c.loop-i._i c.index-at.result.now c.loop-i.invariant.up (read-there c.args.tree.now.goals.items c.args.goal c.index-at.result.now g.goal g.stands c.index-at.ensures) (omega arith) x g)
