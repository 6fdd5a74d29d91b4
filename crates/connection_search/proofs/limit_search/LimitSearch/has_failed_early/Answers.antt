use Rattle.search_tree.proofs.FailedLaws.{failed-lost, leftmost-there}
use Rattle.connection_search.proofs.limit_search.LimitSearch.has_failed_early.Goals as goal

pub has_failed-requires : goal.has_failed-requires
has_failed-requires c = let (base, cs, stands) = c.requires in leftmost-there c.args.self.now.problem.now c.args.self.now.matrix.now base c.args.self.now.limit cs c.args.store.now.store c.args.work.now.tree.steps.items c.args.work.now.tree.goals.items c.args.work.now.tree.open c.in-Some.goal stands c.in-Some.is

pub returns-in_err-before-in-Some-clause-kept : goal.returns-in_err-before-in-Some-clause-kept
returns-in_err-before-in-Some-clause-kept c = λ h. c.has_failed.ensures.kept c.args.self.now.problem.now c.args.self.now.limit h

pub returns-in_ok-before-in-Some-clause-lost : goal.returns-in_ok-before-in-Some-clause-lost
returns-in_ok-before-in-Some-clause-lost c = λ t base n cs given stands. failed-lost c.args.self.now.problem.now c.args.self.now.matrix.now base c.args.self.now.limit cs c.args.store.now.store c.args.work.now.tree.steps.items c.args.work.now.tree.goals.items c.args.work.now.tree.open n c.in-Some.goal stands c.in-Some.is (λ x g l. c.in_ok-before-in-Some.ensures.failed t c.args.self.now.problem.now c.args.self.now.limit x given g l)

pub returns-in_ok-before-in-Some-clause-kept : goal.returns-in_ok-before-in-Some-clause-kept
returns-in_ok-before-in-Some-clause-kept c = λ h. c.has_failed.ensures.kept c.args.self.now.problem.now c.args.self.now.limit h
