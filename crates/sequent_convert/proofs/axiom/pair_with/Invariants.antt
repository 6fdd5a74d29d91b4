use Rattle.std.proofs.Common.{◌<◌, ℕ, map}
use Rattle.sequent_convert.specs.ByNumber.NodeView.{the_node}
use Rattle.sequent_convert.specs.ByNumber.Pairs.{MakesAxiomAt}
use Rattle.sequent_convert.proofs.axiom.pair_with.Given as goal

abbrev pub invariant-loop-shown : goal.invariant-loop-shown
invariant-loop-shown l = (k : ℕ) → k < l.shown → MakesAxiomAt (map (the_node l.table) l.nodes) l.given k → ⊥
