use Rattle.std.proofs.Common.{◌++◌, ◌∷◌, [], ◌+◌, ◌∙◌, length, subst, sym}
use Rattle.store_theory.specs.Bindings.{KeepsMarks}
use Rattle.store_theory.proofs.BindingLaws.{KeepsMarks-same}
use Rattle.matrix_build.specs.MatrixView.{the_place}
use Rattle.search_theory.specs.OrderedChoices.{extension_at}
use Rattle.term_store.specs.StoreView.{the_mark}
use Rattle.search_tree.proofs.GivenUpLaws.{dead-alone}
use Rattle.connection_search.proofs.LeftLaws.{back-list, back-store, left-by_tree}
use Rattle.connection_search.proofs.limit_search.LimitSearch.is_left_by.Goals as goal

pub return_to-requires : goal.return_to-requires
return_to-requires c = (c.extend.ensures.marks (the_mark c.args.here.mark) c.requires.here.good).0

pub returns-then-not-branch-clause-dead : goal.returns-then-not-branch-clause-dead
returns-then-not-branch-clause-dead c = λ f P base d p g cm h e. dead-alone P (d + 1) (p ++ extension_at c.args.self.now.matrix.now (the_place c.args.place) ∷ []) (c.in_ok-extend.ensures.refused c.if-not-branch.true P base (d + 1) p g cm h e tt)

pub returns-then-not-branch-clause-store : goal.returns-then-not-branch-clause-store
returns-then-not-branch-clause-store c = (back-store c.args.here c.args.store.now.store c.extend.new.store.store c.return_to.new.store.store c.args.work.now.tree.steps.items c.args.work.now.tree.goals.items c.args.work.now.tree.open c.requires.here c.extend.ensures.marks c.return_to.ensures.store)

pub returns-then-not-branch-clause-tree : goal.returns-then-not-branch-clause-tree
returns-then-not-branch-clause-tree c = (c.return_to.ensures.steps ∙ back-list c.args.here.steps c.args.work.now.tree.steps.items c.extend.new.self.tree.steps.items c.requires.here.steps_are c.in_ok-extend.ensures.kept.0, c.return_to.ensures.goals ∙ back-list c.args.here.goals c.args.work.now.tree.goals.items c.extend.new.self.tree.goals.items c.requires.here.goals_are c.in_ok-extend.ensures.kept.1, c.return_to.ensures.first ∙ sym c.requires.here.first_is)

pub returns-then-not-branch-clause-marks : goal.returns-then-not-branch-clause-marks
returns-then-not-branch-clause-marks c = subst (KeepsMarks c.args.store.now.store) (sym (back-store c.args.here c.args.store.now.store c.extend.new.store.store c.return_to.new.store.store c.args.work.now.tree.steps.items c.args.work.now.tree.goals.items c.args.work.now.tree.open c.requires.here c.extend.ensures.marks c.return_to.ensures.store)) (KeepsMarks-same c.args.store.now.store)

pub is_regular-requires : goal.is_regular-requires
is_regular-requires c = (c.requires.at.0, c.args.self.now.matrix.now, c.requires.at.1, c.requires.at.2 + 1, c.requires.at.3 ++ extension_at c.args.self.now.matrix.now (the_place c.args.place) ∷ [], c.in_ok-extend.ensures.made c.if-not-branch.false c.requires.at.0 c.requires.at.1 (c.requires.at.2 + 1) c.requires.at.3 c.requires.at.4 c.requires.at.5 c.requires.at.6 c.requires.at.7)

pub return_to-requires-2 : goal.return_to-requires-2
return_to-requires-2 c = (c.extend.ensures.marks (the_mark c.args.here.mark) c.requires.here.good).0

pub returns-clause-left : goal.returns-clause-left
returns-clause-left c = λ t P base d p g cm h e k. left-by_tree P c.args.self.now.matrix.now base d (length g.path) (p ++ extension_at c.args.self.now.matrix.now (the_place c.args.place) ∷ []) c.extend.new.store.store c.extend.new.self.tree.steps.items c.extend.new.self.tree.goals.items c.extend.new.self.tree.open k (c.in_ok-extend.ensures.deep c.if-not-branch.false P base (d + 1) p g cm h e) (λ cs x at. c.in_ok-found.ensures.new t P c.args.self.now.matrix.now base (d + 1) (p ++ extension_at c.args.self.now.matrix.now (the_place c.args.place) ∷ []) cs x at)

pub returns-clause-dead : goal.returns-clause-dead
returns-clause-dead c = λ f P base d p g cm h e. c.in_ok-found.ensures.repeated f P c.args.self.now.matrix.now base (d + 1) (p ++ extension_at c.args.self.now.matrix.now (the_place c.args.place) ∷ []) (c.in_ok-extend.ensures.made c.if-not-branch.false P base (d + 1) p g cm h e)

pub returns-clause-store : goal.returns-clause-store
returns-clause-store c = back-store c.args.here c.args.store.now.store c.extend.new.store.store c.return_to-2.new.store.store c.args.work.now.tree.steps.items c.args.work.now.tree.goals.items c.args.work.now.tree.open c.requires.here c.extend.ensures.marks c.return_to-2.ensures.store

pub returns-clause-marks : goal.returns-clause-marks
returns-clause-marks c = subst (KeepsMarks c.args.store.now.store) (sym (back-store c.args.here c.args.store.now.store c.extend.new.store.store c.return_to-2.new.store.store c.args.work.now.tree.steps.items c.args.work.now.tree.goals.items c.args.work.now.tree.open c.requires.here c.extend.ensures.marks c.return_to-2.ensures.store)) (KeepsMarks-same c.args.store.now.store)
