use Rattle.std.proofs.Common.{◌∙◌}
use Rattle.term_store.specs.StoreView.{the_mark}
use Rattle.connection_search.proofs.DecidingLaws.{decided-ended, decided-none}
use Rattle.connection_search.proofs.FoundLaws.{whole-stands}
use Rattle.tableau_reading.proofs.ReadingLaws.{cells-stay, gammas-there, steps-readable}
use Rattle.tableau_reading.proofs.StackLaws.{stands-named, stands-started}
use Rattle.connection_search.proofs.limit_search.LimitSearch.decide.Goals as goal

pub solve_tree-requires : goal.solve_tree-requires
solve_tree-requires c = c.requires

pub returns-in-None-clause-decided : goal.returns-in-None-clause-decided
returns-in-None-clause-decided c = λ base p h. decided-none c.args.self.now.problem.now c.args.self.now.matrix.now base c.args.self.now.limit p c.args.store.now.store c.solve_tree.new.store.store c.args.work.now.tree.steps.items c.args.work.now.tree.goals.items c.args.work.now.tree.open c.args.ledger.now.used c.solve_tree.new.ledger.used c.solve_tree.new.ledger.budget c.in_ok-solve_tree.field-0 h c.in-None.is (c.in_ok-solve_tree.ensures.solved base p h)

pub returns-in-Steps-clause-decided : goal.returns-in-Steps-clause-decided
returns-in-Steps-clause-decided c = λ base p h. decided-ended c.args.self.now.problem.now c.args.self.now.matrix.now c.args.store.now.store c.solve_tree.new.store.store c.args.work.now.tree.steps.items c.args.work.now.tree.goals.items c.args.ledger.now.used c.solve_tree.new.ledger.used c.solve_tree.new.ledger.budget c.in_ok-solve_tree.field-0 h.1.all_goals h.2.tree.goals c.in-Steps.is (c.in_ok-solve_tree.ensures.solved base p h)

pub answer-requires-clause-steps : goal.answer-requires-clause-steps
answer-requires-clause-steps c = steps-readable c.args.self.now.problem.now c.args.self.now.matrix.now c.requires.0 c.args.self.now.limit c.requires.1 c.args.store.now.store c.solve_tree.new.store.store c.args.work.now.tree.steps.items c.args.work.now.tree.goals.items c.args.work.now.tree.open (whole-stands c.args.self.now.problem.now c.args.self.now.matrix.now c.requires.0 c.args.self.now.limit c.requires.1 c.args.store.now.store c.args.work.now.tree.steps.items c.args.work.now.tree.goals.items c.args.work.now.tree.open c.requires.3) (cells-stay (the_mark c.mark-start.result) c.args.store.now.store c.solve_tree.new.store.store c.mark-start.ensures.good c.mark-start.ensures.whole c.solve_tree.ensures.marks)

pub answer-requires-clause-gammas : goal.answer-requires-clause-gammas
answer-requires-clause-gammas c = gammas-there c.args.self.now.problem.now c.args.self.now.matrix.now c.requires.0 c.args.self.now.limit c.requires.1 c.args.store.now.store c.solve_tree.new.store.store c.args.work.now.tree.steps.items c.args.work.now.tree.goals.items c.args.work.now.tree.open (whole-stands c.args.self.now.problem.now c.args.self.now.matrix.now c.requires.0 c.args.self.now.limit c.requires.1 c.args.store.now.store c.args.work.now.tree.steps.items c.args.work.now.tree.goals.items c.args.work.now.tree.open c.requires.3) (cells-stay (the_mark c.mark-start.result) c.args.store.now.store c.solve_tree.new.store.store c.mark-start.ensures.good c.mark-start.ensures.whole c.solve_tree.ensures.marks)

pub answer-requires-clause-started : goal.answer-requires-clause-started
answer-requires-clause-started c = stands-started c.args.self.now.problem.now c.args.self.now.matrix.now c.requires.0 c.args.self.now.limit c.requires.1 c.args.store.now.store c.args.work.now.tree.steps.items c.args.work.now.tree.goals.items c.args.work.now.tree.open (whole-stands c.args.self.now.problem.now c.args.self.now.matrix.now c.requires.0 c.args.self.now.limit c.requires.1 c.args.store.now.store c.args.work.now.tree.steps.items c.args.work.now.tree.goals.items c.args.work.now.tree.open c.requires.3)

pub answer-requires-clause-own : goal.answer-requires-clause-own
answer-requires-clause-own c = c.in_ok-solve_tree.ensures.own c.in-Found.is

pub returns-in_ok-tableau-in-Found-clause-decided : goal.returns-in_ok-tableau-in-Found-clause-decided
returns-in_ok-tableau-in-Found-clause-decided c = λ base p h. (c.in_ok-tableau-in-Found.ensures.closed, c.in_ok-tableau-in-Found.ensures.names ∙ stands-named c.args.self.now.problem.now c.args.self.now.matrix.now base c.args.self.now.limit p c.args.store.now.store c.args.work.now.tree.steps.items c.args.work.now.tree.goals.items c.args.work.now.tree.open h)
