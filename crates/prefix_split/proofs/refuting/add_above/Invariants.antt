use Rattle.std.proofs.Common.{ℕ, List}
use Rattle.calculus.specs.Ground.{GroundMark}
use Rattle.store_theory.specs.Stores.{Solution}
use Rattle.prefix_split.specs.Beginnings.{AreValues, Holds, IsRelated}
use Rattle.prefix_split.proofs.refuting.add_above.Given as goal

abbrev pub invariant-loop : goal.invariant-loop
invariant-loop l = (σ : Solution) (value : ℕ → List GroundMark) → AreValues σ value l.nodes → IsRelated l.fn.related (value l.fn.parent) (value l.fn.u) → Holds value l.initial.order → Holds value l.order × IsRelated l.r (value l.x) (value l.fn.u)
