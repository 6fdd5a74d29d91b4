-- Pairs of nodes by a table that is that of the names.
use Rattle.std.proofs.Common.{◌≡◌, ◌<◌, ℕ, List, length, map, subst}
use Rattle.formula_core.specs.GroundLists.{GroundList}
use Rattle.sequent_convert.specs.ByNumber.NodeView.{the_node}
use Rattle.sequent_convert.specs.ByNumber.Pairs.{ArePair, MakesAxiomAt}
use Rattle.sequent_convert.specs.declared.axiom.Pair.{Pair}
use Rattle.sequent_convert.specs.declared.node.Node.{Node}

module _ (ls ts : List GroundList) (same : ts ≡ ls) (nodes items : List Node) (listed : items ≡ nodes) where
  pub pair-by : (p : Pair) → ArePair (map (the_node ts) items) p → ArePair (map (the_node ls) nodes) p
  pair-by p h = subst (λ (zs : List GroundList). ArePair (map (the_node zs) nodes) p) same (subst (λ (ns : List Node). ArePair (map (the_node ts) ns) p) listed h)

  pub no-pair-by : ((j k : ℕ) → j < length items → k < length items → MakesAxiomAt (map (the_node ts) items) j k → ⊥) → (j k : ℕ) → j < length nodes → k < length nodes → MakesAxiomAt (map (the_node ls) nodes) j k → ⊥
  no-pair-by none =
      subst (λ (zs : List GroundList). (j k : ℕ) → j < length nodes → k < length nodes → MakesAxiomAt (map (the_node zs) nodes) j k → ⊥) same
      (subst (λ (ns : List Node). (j k : ℕ) → j < length ns → k < length ns → MakesAxiomAt (map (the_node ts) ns) j k → ⊥) listed none)
