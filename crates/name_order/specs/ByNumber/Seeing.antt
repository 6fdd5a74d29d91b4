-- What a search for names has seen.
use Rattle.std.specs.Prelude.{◌≡◌, List, Bool, ◌||◌}
use Rattle.conversion_theory.specs.Turns as turns
use Rattle.formula_core.specs.GroundLists.{GroundList}
use Rattle.name_order.specs.ByNumber.Inside.{has, is_seen, AreNormalNames}
use Rattle.name_order.specs.declared.inside.Search.{Search}

-- whether the name was found or is in a list that is still ahead
abbrev pub sees : List GroundList → Search → turns.Name → Bool
sees ls s n = is_seen ls s.names.keys s.ahead.keys n

-- these names are seen besides
pub record Sees (ls : List GroundList) (old new : Search) (ns : List turns.Name) : Type 0 where
  pub normal : AreNormalNames ls new.names.keys
  pub seen : (n : turns.Name) → sees ls new n ≡ (sees ls old n || has n ns)
