use Rattle.std.specs.List.{AllByRecursion}
use Rattle.store_theory.specs.Systems.{AreEqual}
use Rattle.prefix_split.specs.Growing.{IsAsked}
use Rattle.prefix_split.proofs.growing.ask_all_shortly.Given as goal

abbrev pub invariant-loop-i : goal.invariant-loop-i
invariant-loop-i l = IsAsked l.store.store l.logic l.system.strings (λ σ. AllByRecursion (AreEqual σ) l.system.equations) l.initial.nodes.items l.nodes.items l.initial.pairs.items l.pairs.items
