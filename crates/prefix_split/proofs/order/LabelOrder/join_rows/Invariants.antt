use Rattle.std.proofs.Common.{ℕ, List}
use Rattle.calculus.specs.Ground.{GroundMark}
use Rattle.prefix_split.specs.Beginnings.{Holds, IsRelated}
use Rattle.prefix_split.proofs.order.LabelOrder.join_rows.Given as goal

abbrev pub invariant-loop : goal.invariant-loop
invariant-loop l = (value : ℕ → List GroundMark) → IsRelated l.r (value l.u) (value l.v) → Holds value l.initial.self → Holds value l.self
