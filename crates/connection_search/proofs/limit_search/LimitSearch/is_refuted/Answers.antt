use Rattle.std.proofs.Common.{◌∙◌, ap, false}
use Rattle.calculus.specs.Syntax.{Setting}
use Rattle.term_store.specs.SystemView.{the_system}
use Rattle.connection_search.proofs.DecidingLaws.{labels-of}
use Rattle.connection_search.proofs.PruneLaws.{alone-system, tree-pruned}
use Rattle.connection_search.proofs.limit_search.LimitSearch.is_refuted.Goals as goal

pub labels_of-requires-clause-linked : goal.labels_of-requires-clause-linked
labels_of-requires-clause-linked c = c.requires.2.2.tree.linked

pub labels_of-requires-clause-built : goal.labels_of-requires-clause-built
labels_of-requires-clause-built c = c.requires.2.2.tree.built

pub is_refuted-requires-clause-fits : goal.is_refuted-requires-clause-fits
is_refuted-requires-clause-fits c = (alone-system c.args.self.now.problem.now c.args.self.now.matrix.now c.requires.0 c.args.self.now.limit c.requires.1 c.args.store.now.store c.args.work.now.tree.steps.items c.args.work.now.tree.goals.items c.args.work.now.tree.open (the_system c.in_ok-system.system) c.requires.2 (c.in_ok-system.ensures c.requires.2.1.all_goals)).0

pub is_refuted-requires-clause-named : goal.is_refuted-requires-clause-named
is_refuted-requires-clause-named c = (alone-system c.args.self.now.problem.now c.args.self.now.matrix.now c.requires.0 c.args.self.now.limit c.requires.1 c.args.store.now.store c.args.work.now.tree.steps.items c.args.work.now.tree.goals.items c.args.work.now.tree.open (the_system c.in_ok-system.system) c.requires.2 (c.in_ok-system.ensures c.requires.2.1.all_goals)).1

pub returns : goal.returns
returns c = λ e base p h n.
    let same = c.logic-logic.ensures ∙ ap (λ (z : Setting). z.logic) c.setting.ensures.setting in
    tree-pruned c.args.self.now.problem.now c.args.self.now.matrix.now base c.args.self.now.limit p c.args.store.now.store c.args.work.now.tree.steps.items c.args.work.now.tree.goals.items c.args.work.now.tree.open (the_system c.in_ok-system.system) c.logic-logic.result same h (c.in_ok-system.ensures h.1.all_goals) (labels-of c.args.self.now.problem.now c.logic-logic.result _ same c.has_labels.ensures c.if-not-has_labels.false) n (c.in_ok-refuted.ensures e)
