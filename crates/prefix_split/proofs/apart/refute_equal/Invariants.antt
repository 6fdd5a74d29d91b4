use Rattle.std.proofs.Common.{ℕ, List}
use Rattle.calculus.specs.Ground.{GroundMark}
use Rattle.prefix_split.specs.Beginnings.{AllApart, Holds}
use Rattle.prefix_split.proofs.apart.refute_equal.Given as goal

abbrev pub invariant-loop-i : goal.invariant-loop-i
invariant-loop-i l = (value : ℕ → List GroundMark) → AllApart value l.apart → Holds value l.initial.order → Holds value l.order
