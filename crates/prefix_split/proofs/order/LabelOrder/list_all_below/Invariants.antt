use Rattle.std.proofs.Common.{ℕ, List}
use Rattle.calculus.specs.Ground.{GroundMark}
use Rattle.prefix_split.specs.Beginnings.{Holds}
use Rattle.prefix_split.proofs.order.LabelOrder.list_all_below.Given as goal

abbrev pub invariant-loop : goal.invariant-loop
invariant-loop l = (value : ℕ → List GroundMark) → Holds value l.initial.self → Holds value l.self
