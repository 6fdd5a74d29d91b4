use Rattle.std.proofs.Common.{ℕ, List}
use Rattle.calculus.specs.Ground.{GroundMark}
use Rattle.prefix_split.specs.Beginnings.{Begins, Holds}
use Rattle.prefix_split.proofs.order.LabelOrder.add_weak_row.Given as goal

abbrev pub invariant-loop-k : goal.invariant-loop-k
invariant-loop-k l = (value : ℕ → List GroundMark) → Begins (value l.x) (value l.v) → Holds value l.initial.self → Holds value l.self
