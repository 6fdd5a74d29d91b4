use Rattle.std.proofs.Common.{ℕ, List}
use Rattle.calculus.specs.Ground.{GroundMark}
use Rattle.prefix_split.specs.declared.order.Relation.TheVariants.{Weak}
use Rattle.prefix_split.specs.Beginnings.{TableHolds}
use Rattle.prefix_split.proofs.order.LabelOrder.new.Given as goal

abbrev pub invariant-loop-u : goal.invariant-loop-u
invariant-loop-u l = (value : ℕ → List GroundMark) → TableHolds value Weak l.above
