use Rattle.std.proofs.Common.{ℕ, List}
use Rattle.calculus.specs.Ground.{GroundMark}
use Rattle.prefix_split.specs.Beginnings.{IsShorter, Holds}
use Rattle.prefix_split.proofs.order.LabelOrder.add_strict_row.Given as goal

abbrev pub invariant-loop-k : goal.invariant-loop-k
invariant-loop-k l = (value : ℕ → List GroundMark) → IsShorter (value l.x) (value l.v) → Holds value l.initial.self → Holds value l.self
