use Rattle.std.proofs.Common.{◌<◌, ℕ, length, map}
use Rattle.sequent_convert.specs.ByNumber.NodeView.{the_node}
use Rattle.sequent_convert.specs.ByNumber.Pairs.{MakesAxiomAt}
use Rattle.sequent_convert.proofs.axiom.any_pair.Given as goal

abbrev pub invariant-loop-given : goal.invariant-loop-given
invariant-loop-given l = (j : ℕ) (k : ℕ) → j < l.given → k < length l.nodes → MakesAxiomAt (map (the_node l.table) l.nodes) j k → ⊥
