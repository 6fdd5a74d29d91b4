use Rattle.std.proofs.Common.{◌++◌, ◌∷◌, [], inl, length, map, sym, subst}
use Rattle.calculus.specs.Choices.{reduction}
use Rattle.term_store.specs.ClauseView.{the_atom}
use Rattle.term_store.specs.RefView.{the_place}
use Rattle.search_tree.specs.Running.{StandsFor}
use Rattle.search_tree.specs.declared.tree.Tree.{Tree}
use Rattle.search_tree.proofs.MoveLaws.{ancestor-sorted, ancestor-terms, at-reduced, goal-sorted, goal-terms, goal-within, reduction-cannot}
use Rattle.search_tree.proofs.GivenUpLaws.{given-up}
use Rattle.search_theory.specs.DeadEnds.{refused}
use Rattle.term_unify.proofs.ClosedLaws.{closed-none}
use Rattle.search_tree.proofs.state.SearchState.reduce.Goals as goal

pub unify_all-requires-clause-closed : goal.unify_all-requires-clause-closed
unify_all-requires-clause-closed c = closed-none c.args.store.now.store

pub unify_all-requires-clause-left : goal.unify_all-requires-clause-left
unify_all-requires-clause-left c = goal-sorted c.requires.0 c.requires.1 c.requires.2 c.requires.3 c.requires.4 c.args.store.now.store c.args.self.now.tree.steps.items c.args.self.now.tree.goals.items c.args.goal c.requires.5 (map the_place c.items-xs.result.now) c.requires.6 (goal-terms c.requires.0 c.requires.1 c.requires.2 c.requires.3 c.requires.4 c.args.store.now.store c.args.self.now.tree.steps.items c.args.self.now.tree.goals.items c.args.goal c.requires.5 (the_atom c.atom.result.now) (map the_place c.items-xs.result.now) c.requires.6 c.atom.ensures c.items-xs.ensures)

pub unify_all-requires-clause-right : goal.unify_all-requires-clause-right
unify_all-requires-clause-right c = ancestor-sorted c.requires.0 c.requires.1 c.requires.2 c.requires.3 c.requires.4 c.args.store.now.store c.args.self.now.tree.steps.items c.args.self.now.tree.goals.items c.args.goal c.args.up c.args.ancestor c.requires.5 (map the_place c.items-ys.result.now) c.requires.6 c.requires.7 (ancestor-terms c.args.self.now.tree.steps.items c.args.self.now.tree.goals.items c.requires.5 c.args.up c.args.ancestor (the_atom c.atom-2.result.now) (map the_place c.items-ys.result.now) c.requires.7 c.atom-2.ensures c.items-ys.ensures)

pub returns-then-not-branch-clause-refused : goal.returns-then-not-branch-clause-refused
returns-then-not-branch-clause-refused c = λ f P m base d p g h r. refused (reduction-cannot P m base d p c.args.store.now.store c.args.self.now.tree.steps.items c.args.self.now.tree.goals.items c.args.goal c.args.up c.args.ancestor g (map the_place c.items-xs.result.now) (map the_place c.items-ys.result.now) h r (goal-terms P m base d p c.args.store.now.store c.args.self.now.tree.steps.items c.args.self.now.tree.goals.items c.args.goal g (the_atom c.atom.result.now) (map the_place c.items-xs.result.now) h c.atom.ensures c.items-xs.ensures) (ancestor-terms c.args.self.now.tree.steps.items c.args.self.now.tree.goals.items g c.args.up c.args.ancestor (the_atom c.atom-2.result.now) (map the_place c.items-ys.result.now) r c.atom-2.ensures c.items-ys.ensures) (c.in_ok-unify_all.ensures.clash c.if-not-branch.true))

pub reduce-requires : goal.reduce-requires
reduce-requires c = record { goal = goal-within c.requires.0 c.requires.1 c.requires.2 c.requires.3 c.requires.4 c.args.store.now.store c.args.self.now.tree.steps.items c.args.self.now.tree.goals.items c.args.goal c.requires.5 c.requires.6 }

pub is_leftmost_new-requires : goal.is_leftmost_new-requires
is_leftmost_new-requires c = (c.requires.0, c.requires.1, c.requires.2, c.requires.3, c.requires.4 ++ reduction c.args.up ∷ [], (at-reduced c.requires.0 c.requires.1 c.requires.2 c.requires.3 c.requires.4 c.args.store.now.store c.unify_all.new.store.store c.args.self.now.tree.steps.items c.reduce.new.self.steps.items c.args.self.now.tree.goals.items c.reduce.new.self.goals.items c.args.goal c.args.up c.args.ancestor c.reduce.new.self.open c.requires.5 (map the_place c.items-xs.result.now) (map the_place c.items-ys.result.now) c.requires.6 c.requires.7 (goal-terms c.requires.0 c.requires.1 c.requires.2 c.requires.3 c.requires.4 c.args.store.now.store c.args.self.now.tree.steps.items c.args.self.now.tree.goals.items c.args.goal c.requires.5 (the_atom c.atom.result.now) (map the_place c.items-xs.result.now) c.requires.6 c.atom.ensures c.items-xs.ensures) (ancestor-terms c.args.self.now.tree.steps.items c.args.self.now.tree.goals.items c.requires.5 c.args.up c.args.ancestor (the_atom c.atom-2.result.now) (map the_place c.items-ys.result.now) c.requires.7 c.atom-2.ensures c.items-ys.ensures) (c.in_ok-unify_all.ensures.unified c.if-not-branch.false) c.unify_all.ensures.binds c.unify_all.ensures.names c.mark-met.ensures.well c.in_ok-reduce.ensures.tree c.in_ok-reduce.ensures.system))

pub returns-clause-made : goal.returns-clause-made
returns-clause-made c = λ t P m base d p g h r. subst (λ (z : Tree). StandsFor P m base d (p ++ reduction c.args.up ∷ []) c.unify_all.new.store.store z.steps.items z.goals.items z.open) (sym c.in_ok-new.ensures.tree) (at-reduced P m base d p c.args.store.now.store c.unify_all.new.store.store c.args.self.now.tree.steps.items c.reduce.new.self.steps.items c.args.self.now.tree.goals.items c.reduce.new.self.goals.items c.args.goal c.args.up c.args.ancestor c.reduce.new.self.open g (map the_place c.items-xs.result.now) (map the_place c.items-ys.result.now) h r (goal-terms P m base d p c.args.store.now.store c.args.self.now.tree.steps.items c.args.self.now.tree.goals.items c.args.goal g (the_atom c.atom.result.now) (map the_place c.items-xs.result.now) h c.atom.ensures c.items-xs.ensures) (ancestor-terms c.args.self.now.tree.steps.items c.args.self.now.tree.goals.items g c.args.up c.args.ancestor (the_atom c.atom-2.result.now) (map the_place c.items-ys.result.now) r c.atom-2.ensures c.items-ys.ensures) (c.in_ok-unify_all.ensures.unified c.if-not-branch.false) c.unify_all.ensures.binds c.unify_all.ensures.names c.mark-met.ensures.well c.in_ok-reduce.ensures.tree c.in_ok-reduce.ensures.system)

pub returns-clause-refused : goal.returns-clause-refused
returns-clause-refused c = λ f P m base d p g h r. c.in_ok-new.ensures.repeated f P m base d (p ++ reduction c.args.up ∷ []) (at-reduced P m base d p c.args.store.now.store c.unify_all.new.store.store c.args.self.now.tree.steps.items c.reduce.new.self.steps.items c.args.self.now.tree.goals.items c.reduce.new.self.goals.items c.args.goal c.args.up c.args.ancestor c.reduce.new.self.open g (map the_place c.items-xs.result.now) (map the_place c.items-ys.result.now) h r (goal-terms P m base d p c.args.store.now.store c.args.self.now.tree.steps.items c.args.self.now.tree.goals.items c.args.goal g (the_atom c.atom.result.now) (map the_place c.items-xs.result.now) h c.atom.ensures c.items-xs.ensures) (ancestor-terms c.args.self.now.tree.steps.items c.args.self.now.tree.goals.items g c.args.up c.args.ancestor (the_atom c.atom-2.result.now) (map the_place c.items-ys.result.now) r c.atom-2.ensures c.items-ys.ensures) (c.in_ok-unify_all.ensures.unified c.if-not-branch.false) c.unify_all.ensures.binds c.unify_all.ensures.names c.mark-met.ensures.well c.in_ok-reduce.ensures.tree c.in_ok-reduce.ensures.system)

pub returns-then-not-branch-clause-given_up : goal.returns-then-not-branch-clause-given_up
returns-then-not-branch-clause-given_up c = λ f P m base d p g h r. inl (reduction-cannot P m base d p c.args.store.now.store c.args.self.now.tree.steps.items c.args.self.now.tree.goals.items c.args.goal c.args.up c.args.ancestor g (map the_place c.items-xs.result.now) (map the_place c.items-ys.result.now) h r (goal-terms P m base d p c.args.store.now.store c.args.self.now.tree.steps.items c.args.self.now.tree.goals.items c.args.goal g (the_atom c.atom.result.now) (map the_place c.items-xs.result.now) h c.atom.ensures c.items-xs.ensures) (ancestor-terms c.args.self.now.tree.steps.items c.args.self.now.tree.goals.items g c.args.up c.args.ancestor (the_atom c.atom-2.result.now) (map the_place c.items-ys.result.now) r c.atom-2.ensures c.items-ys.ensures) (c.in_ok-unify_all.ensures.clash c.if-not-branch.true))

pub returns-clause-given_up : goal.returns-clause-given_up
returns-clause-given_up c = λ f P m base d p g h r.
    let stands = (at-reduced P m base d p c.args.store.now.store c.unify_all.new.store.store c.args.self.now.tree.steps.items c.reduce.new.self.steps.items c.args.self.now.tree.goals.items c.reduce.new.self.goals.items c.args.goal c.args.up c.args.ancestor c.reduce.new.self.open g (map the_place c.items-xs.result.now) (map the_place c.items-ys.result.now) h r (goal-terms P m base d p c.args.store.now.store c.args.self.now.tree.steps.items c.args.self.now.tree.goals.items c.args.goal g (the_atom c.atom.result.now) (map the_place c.items-xs.result.now) h c.atom.ensures c.items-xs.ensures) (ancestor-terms c.args.self.now.tree.steps.items c.args.self.now.tree.goals.items g c.args.up c.args.ancestor (the_atom c.atom-2.result.now) (map the_place c.items-ys.result.now) r c.atom-2.ensures c.items-ys.ensures) (c.in_ok-unify_all.ensures.unified c.if-not-branch.false) c.unify_all.ensures.binds c.unify_all.ensures.names c.mark-met.ensures.well c.in_ok-reduce.ensures.tree c.in_ok-reduce.ensures.system) in
    given-up P m base d (p ++ reduction c.args.up ∷ []) (length c.args.self.now.tree.goals.items) c.unify_all.new.store c.reduce.new.self _ c.in_ok-new.ensures.tree stands (c.in_ok-new.ensures.lost f P m base d (length c.args.self.now.tree.goals.items) (p ++ reduction c.args.up ∷ []) stands)
