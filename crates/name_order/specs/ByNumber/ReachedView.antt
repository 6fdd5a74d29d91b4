-- The turns of the calculus that the positions reached by the program stand for, by the lists of a table.
use Rattle.std.specs.Prelude.{ℕ, List, map}
use Rattle.std.specs.List.{AllByRecursion}
use Rattle.calculus.specs.Instances as tree
use Rattle.formula_core.specs.GroundLists.{GroundList, the_value, IsNormalValue}
use Rattle.name_order.specs.Words.{words_of_turn}
use Rattle.name_order.specs.declared.reached.Reached.{Reached}

abbrev pub the_reached : List GroundList → Reached → tree.Turn
the_reached ls r = record { position = r.position; values = map (the_value ls) r.values.items }

abbrev pub the_all : List GroundList → List Reached → List tree.Turn
the_all ls rs = map (the_reached ls) rs

-- its values name their lists by the one number
abbrev pub IsNormalReached : List GroundList → Reached → Type 0
IsNormalReached ls r = AllByRecursion (IsNormalValue ls) r.values.items

abbrev pub AreNormalReached : List GroundList → List Reached → Type 0
AreNormalReached ls rs = AllByRecursion (IsNormalReached ls) rs

-- what they are found by
abbrev pub the_keys : List GroundList → List Reached → List (List ℕ)
the_keys ls rs = map words_of_turn (the_all ls rs)
