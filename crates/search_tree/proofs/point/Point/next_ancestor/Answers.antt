use Rattle.std.proofs.Common.{◌∙◌, arith, refl, subst, sym}
use Rattle.std.proofs.lemmas.Option.{slice_get_within}
use Rattle.term_store.specs.ClauseView.{the_atom}
use Rattle.search_tree.specs.Trees.{IsGoalAt}
use Rattle.search_tree.proofs.Places.{read-there}
use Rattle.search_tree.proofs.PointLaws.{ancestor-met, ancestor-passed, ancestor-there, ancestors-all, ancestors-none, depth-of}
use Rattle.search_tree.proofs.TreeLaws.{atom-found}
use Rattle.search_tree.proofs.point.Point.next_ancestor.Goals as goal

pub returns-in-None-clause-next : goal.returns-in-None-clause-next
returns-in-None-clause-next c = λ g at path. ancestors-none c.args.tree.now.steps.items c.args.tree.now.goals.items g c.args.self.now c.loop-i.self c.loop-i._i (c.loop-i.invariant.passed g at path) c.in-None.is

pub index-requires-in-Some : goal.index-requires-in-Some
index-requires-in-Some c =
    let w = (ancestor-there c.args.tree.now.steps.items c.args.tree.now.goals.items c.requires.0 c.args.self.now c.loop-i.self c.loop-i._i c.in-Some.ancestor (c.loop-i.invariant.passed c.requires.0 c.requires.1 c.requires.2) c.in-Some.is) in
    let l = slice_get_within c.args.tree.now.goals.items c.in-Some.ancestor w.goal w.stands in
    let n = c.args.tree.now.goals.ok.0 in
    omega (arith, l, n)

pub atom-requires-in-Some : goal.atom-requires-in-Some
atom-requires-in-Some c = let w = (ancestor-there c.args.tree.now.steps.items c.args.tree.now.goals.items c.requires.0 c.args.self.now c.loop-i.self c.loop-i._i c.in-Some.ancestor (c.loop-i.invariant.passed c.requires.0 c.requires.1 c.requires.2) c.in-Some.is) in (w.goal, w.atom, w.stands, w.is_atom)

pub overflow_add-self : goal.overflow_add-self
overflow_add-self c =
    let w = ancestor-there c.args.tree.now.steps.items c.args.tree.now.goals.items c.requires.0 c.args.self.now c.loop-i.self c.loop-i._i c.in-Some.ancestor (c.loop-i.invariant.passed c.requires.0 c.requires.1 c.requires.2) c.in-Some.is in
    let up = slice_get_within c.requires.0.path c.loop-i.self.up w.atom w.on_path in
    let depth = depth-of c.args.tree.now.steps.items c.args.tree.now.goals.items c.args.self.now.goal c.requires.0 c.index.result.now c.requires.1 (read-there c.args.tree.now.goals.items c.args.self.now.goal c.index.result.now c.requires.1.goal c.requires.1.stands c.index.ensures) in
    omega (arith, up, depth)

pub returns-then-meets-clause-next : goal.returns-then-meets-clause-next
returns-then-meets-clause-next c = λ g at path. ancestor-met c.args.tree.now.steps.items c.args.tree.now.goals.items g c.args.self.now c.loop-i.self _ c.loop-i._i c.in-Some.ancestor (the_atom c.atom.result.now) (the_atom c.atom-in-Some.result.now) c.index-in-Some.result.now (c.loop-i.invariant.passed g at path) c.in-Some.is refl (let w = ancestor-there c.args.tree.now.steps.items c.args.tree.now.goals.items g c.args.self.now c.loop-i.self c.loop-i._i c.in-Some.ancestor (c.loop-i.invariant.passed g at path) c.in-Some.is in read-there c.args.tree.now.goals.items c.in-Some.ancestor c.index-in-Some.result.now w.goal w.stands c.index-in-Some.ensures) refl (atom-found c.args.tree.now.steps.items c.args.tree.now.goals.items c.loop-i.self.goal g (the_atom c.atom.result.now) (subst (λ n. IsGoalAt c.args.tree.now.steps.items c.args.tree.now.goals.items n g) (sym c.loop-i.invariant.same.goal) at) c.atom.ensures) c.atom-in-Some.ensures (sym c.meets.ensures ∙ c.if-meets.true)

pub loop-i-preserved : goal.loop-i-preserved
loop-i-preserved c = record {
  passed = λ g at path. ancestor-passed c.args.tree.now.steps.items c.args.tree.now.goals.items g c.args.self.now c.loop-i.self _ c.loop-i._i c.in-Some.ancestor (the_atom c.atom.result.now) (the_atom c.atom-in-Some.result.now) c.index-in-Some.result.now (c.loop-i.invariant.passed g at path) c.in-Some.is refl (let w = ancestor-there c.args.tree.now.steps.items c.args.tree.now.goals.items g c.args.self.now c.loop-i.self c.loop-i._i c.in-Some.ancestor (c.loop-i.invariant.passed g at path) c.in-Some.is in read-there c.args.tree.now.goals.items c.in-Some.ancestor c.index-in-Some.result.now w.goal w.stands c.index-in-Some.ensures) refl (atom-found c.args.tree.now.steps.items c.args.tree.now.goals.items c.loop-i.self.goal g (the_atom c.atom.result.now) (subst (λ n. IsGoalAt c.args.tree.now.steps.items c.args.tree.now.goals.items n g) (sym c.loop-i.invariant.same.goal) at) c.atom.ensures) c.atom-in-Some.ensures (sym c.meets.ensures ∙ c.if-meets.false);
  same = record { mark = c.loop-i.invariant.same.mark; steps = c.loop-i.invariant.same.steps; goals = c.loop-i.invariant.same.goals; goal = c.loop-i.invariant.same.goal; depth = c.loop-i.invariant.same.depth; lowest = c.loop-i.invariant.same.lowest };
  next = c.loop-i.invariant.next;
  end = c.loop-i.invariant.end;
}

pub returns-clause-next : goal.returns-clause-next
returns-clause-next c = λ g at path.
    let e = depth-of c.args.tree.now.steps.items c.args.tree.now.goals.items c.args.self.now.goal g c.index.result.now at (read-there c.args.tree.now.goals.items c.args.self.now.goal c.index.result.now at.goal at.stands c.index.ensures) in
    let l = c.loop-i-test.false in
    ancestors-all c.args.tree.now.steps.items c.args.tree.now.goals.items g c.args.self.now c.loop-i.self c.loop-i._i (c.loop-i.invariant.passed g at path) (omega (arith, e, l))
