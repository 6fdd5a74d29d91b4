use Rattle.std.proofs.Common.{ℕ, List}
use Rattle.calculus.specs.Ground.{GroundMark}
use Rattle.prefix_split.specs.Beginnings.{AllBegin, Holds}
use Rattle.prefix_split.proofs.refuting.add_pairs.Given as goal

abbrev pub invariant-loop-i : goal.invariant-loop-i
invariant-loop-i l = (value : ℕ → List GroundMark) → AllBegin value l.pairs → Holds value l.initial.order → Holds value l.order
