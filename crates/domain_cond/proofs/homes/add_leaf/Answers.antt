use Rattle.std.proofs.Common.{map}
use Rattle.store_theory.specs.Bindings.{nothing_more}
use Rattle.term_store.specs.RefView.{the_place}
use Rattle.domain_cond.specs.Conditions.{HomeAllows}
use Rattle.domain_cond.proofs.HomeListLaws.{none-added}
use Rattle.domain_cond.proofs.homes.add_leaf.Goals as goal

pub returns-then-not-is_eigen-clause-added : goal.returns-then-not-is_eigen-clause-added
returns-then-not-is_eigen-clause-added c = none-added (HomeAllows c.args.problem.now c.args.store.now.store c.args.leaf.0 (map the_place c.args.label.now)) c.args.store.now.store c.args.homes.now

pub returns-then-not-is_eigen-clause-adds : goal.returns-then-not-is_eigen-clause-adds
returns-then-not-is_eigen-clause-adds c = nothing_more

pub add_home-requires-clause-eigen : goal.add_home-requires-clause-eigen
add_home-requires-clause-eigen c = c.is_eigen.ensures.yes c.if-not-is_eigen.false
