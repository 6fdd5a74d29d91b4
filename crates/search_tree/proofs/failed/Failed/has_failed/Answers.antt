use Rattle.std.proofs.Common.{subst, sym}
use Rattle.std.specs.List.{AllByRecursion}
use Rattle.search_tree.specs.Failing.{KeyFails}
use Rattle.search_tree.specs.GoalKeys.{variables_in}
use Rattle.search_tree.specs.declared.failed.Entry.{Entry}
use Rattle.search_tree.proofs.failed.Failed.has_failed.Goals as goal

pub returns-clause-failed : goal.returns-clause-failed
returns-clause-failed c = λ t P d x h g l. record { variables = variables_in c.read.new.self; key = c.read.new.self.parts.items; is_key = c.in_ok-read.ensures c.if-not-read.false x g l; fails = c.has_key-failed.ensures t P d h }

pub returns-clause-kept : goal.returns-clause-kept
returns-clause-kept c = λ P d h. subst (AllByRecursion (λ (e : Entry). KeyFails P d e.key.items)) (sym c.count-2.ensures) h
