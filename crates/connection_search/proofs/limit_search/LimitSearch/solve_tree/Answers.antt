use Rattle.std.proofs.Common.{◌∙◌, ap}
use Rattle.calculus.specs.Syntax.{Setting}
use Rattle.term_store.specs.SystemView.{the_system}
use Rattle.connection_search.proofs.DecidingLaws.{found-tree, labels-of, made-counted, made-fits, made-solved, unsolved}
use Rattle.connection_search.proofs.FoundLaws.{labelled-tableau, unlabelled-of, unlabelled-tableau, whole-stands}
use Rattle.connection_search.proofs.limit_search.LimitSearch.solve_tree.Goals as goal

pub system_of-requires-clause-linked : goal.system_of-requires-clause-linked
system_of-requires-clause-linked c = c.requires.3.2.tree.linked

pub system_of-requires-clause-built : goal.system_of-requires-clause-built
system_of-requires-clause-built c = c.requires.3.2.tree.built

pub system_of-requires-clause-goals : goal.system_of-requires-clause-goals
system_of-requires-clause-goals c = (c.requires.3.1.all_goals, c.requires.3.2.tree.goals)

pub solve_system-requires-clause-fits : goal.solve_system-requires-clause-fits
solve_system-requires-clause-fits c = (made-fits c.args.self.now.problem.now c.args.self.now.matrix.now c.requires.0 c.args.self.now.limit c.requires.1 c.args.store.now.store c.args.work.now.tree.steps.items c.args.work.now.tree.goals.items c.args.work.now.tree.open (the_system c.in_ok-system.system) (whole-stands c.args.self.now.problem.now c.args.self.now.matrix.now c.requires.0 c.args.self.now.limit c.requires.1 c.args.store.now.store c.args.work.now.tree.steps.items c.args.work.now.tree.goals.items c.args.work.now.tree.open c.requires.3) c.in_ok-system.ensures).0

pub solve_system-requires-clause-named : goal.solve_system-requires-clause-named
solve_system-requires-clause-named c = (made-fits c.args.self.now.problem.now c.args.self.now.matrix.now c.requires.0 c.args.self.now.limit c.requires.1 c.args.store.now.store c.args.work.now.tree.steps.items c.args.work.now.tree.goals.items c.args.work.now.tree.open (the_system c.in_ok-system.system) (whole-stands c.args.self.now.problem.now c.args.self.now.matrix.now c.requires.0 c.args.self.now.limit c.requires.1 c.args.store.now.store c.args.work.now.tree.steps.items c.args.work.now.tree.goals.items c.args.work.now.tree.open c.requires.3) c.in_ok-system.ensures).1

pub solve_system-requires-clause-labels : goal.solve_system-requires-clause-labels
solve_system-requires-clause-labels c = (labels-of c.args.self.now.problem.now c.logic-logic.result _ (c.logic-logic.ensures ∙ ap (λ (z : Setting). z.logic) c.setting.ensures.setting) c.has_labels.ensures c.if-not-has_labels.false)

pub returns-then-not-has_labels-clause-solved : goal.returns-then-not-has_labels-clause-solved
returns-then-not-has_labels-clause-solved c = λ base p h. found-tree c.args.self.now.problem.now c.args.self.now.matrix.now c.args.store.now.store c.args.store.now.store c.args.work.now.tree.steps.items c.args.work.now.tree.goals.items c.args.ledger.now.used c.args.ledger.now.used c.args.ledger.now.budget

pub returns-then-not-has_labels-clause-counted : goal.returns-then-not-has_labels-clause-counted
returns-then-not-has_labels-clause-counted c = unsolved c.args.self.now.problem.now c.args.self.now.matrix.now c.args.store.now.store c.args.work.now.tree.steps.items c.args.work.now.tree.goals.items c.args.ledger.now.used

pub returns-in_err-system-clause-counted : goal.returns-in_err-system-clause-counted
returns-in_err-system-clause-counted c = unsolved c.args.self.now.problem.now c.args.self.now.matrix.now c.args.store.now.store c.args.work.now.tree.steps.items c.args.work.now.tree.goals.items c.args.ledger.now.used

pub returns-in_err-solved-clause-counted : goal.returns-in_err-solved-clause-counted
returns-in_err-solved-clause-counted c = made-counted c.args.self.now.problem.now c.args.self.now.matrix.now c.args.store.now.store c.args.work.now.tree.steps.items c.args.work.now.tree.goals.items c.args.ledger.now.used c.solve_system.new.ledger.used (the_system c.in_ok-system.system) (labels-of c.args.self.now.problem.now c.logic-logic.result _ (c.logic-logic.ensures ∙ ap (λ (z : Setting). z.logic) c.setting.ensures.setting) c.has_labels.ensures c.if-not-has_labels.false) c.in_ok-system.ensures c.solve_system.ensures.counted

pub returns-clause-solved : goal.returns-clause-solved
returns-clause-solved c = λ base p h. made-solved c.args.self.now.problem.now c.args.self.now.matrix.now c.args.store.now.store c.solve_system.new.store.store c.args.work.now.tree.steps.items c.args.work.now.tree.goals.items c.args.ledger.now.used c.solve_system.new.ledger.used c.solve_system.new.ledger.budget (the_system c.in_ok-system.system) c.in_ok-solved.solved (labels-of c.args.self.now.problem.now c.logic-logic.result _ (c.logic-logic.ensures ∙ ap (λ (z : Setting). z.logic) c.setting.ensures.setting) c.has_labels.ensures c.if-not-has_labels.false) c.in_ok-system.ensures c.in_ok-solved.ensures.solved

pub returns-clause-counted : goal.returns-clause-counted
returns-clause-counted c = made-counted c.args.self.now.problem.now c.args.self.now.matrix.now c.args.store.now.store c.args.work.now.tree.steps.items c.args.work.now.tree.goals.items c.args.ledger.now.used c.solve_system.new.ledger.used (the_system c.in_ok-system.system) (labels-of c.args.self.now.problem.now c.logic-logic.result _ (c.logic-logic.ensures ∙ ap (λ (z : Setting). z.logic) c.setting.ensures.setting) c.has_labels.ensures c.if-not-has_labels.false) c.in_ok-system.ensures c.solve_system.ensures.counted

pub returns-then-not-has_labels-clause-own : goal.returns-then-not-has_labels-clause-own
returns-then-not-has_labels-clause-own c = λ found. unlabelled-tableau c.args.self.now.problem.now c.args.self.now.matrix.now c.requires.0 c.args.self.now.limit c.requires.1 c.args.store.now.store c.args.work.now.tree.steps.items c.args.work.now.tree.goals.items c.args.work.now.tree.open c.requires.2.problem (unlabelled-of c.args.self.now.problem.now c.logic-logic.result _ (c.logic-logic.ensures ∙ ap (λ (z : Setting). z.logic) c.setting.ensures.setting) c.has_labels.ensures c.if-not-has_labels.true) c.requires.3

pub returns-clause-own : goal.returns-clause-own
returns-clause-own c = λ e. labelled-tableau c.args.self.now.problem.now c.args.self.now.matrix.now c.requires.0 c.args.self.now.limit c.requires.1 c.args.store.now.store c.solve_system.new.store.store c.args.work.now.tree.steps.items c.args.work.now.tree.goals.items c.args.work.now.tree.open (the_system c.in_ok-system.system) c.requires.3 c.in_ok-system.ensures (c.in_ok-solved.ensures.found e)
