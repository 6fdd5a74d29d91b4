use Rattle.std.proofs.Common.{map}
use Rattle.std.specs.List.{AllByRecursion}
use Rattle.calculus.specs.declared.setting.Logic.TheVariants.{S4}
use Rattle.term_store.specs.HomeView.{the_home}
use Rattle.term_store.specs.Homes.{BeginsLabel}
use Rattle.prefix_split.specs.Growing.{IsAsked}
use Rattle.prefix_split.proofs.growing.ask_homes.Given as goal

abbrev pub invariant-loop-i : goal.invariant-loop-i
invariant-loop-i l = IsAsked l.store.store S4 l.system.strings (λ σ. AllByRecursion (BeginsLabel σ) (map the_home l.homes)) l.initial.nodes.items l.nodes.items l.initial.pairs.items l.pairs.items
