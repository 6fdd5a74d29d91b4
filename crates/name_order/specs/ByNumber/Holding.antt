-- What is told of the lists of terms of a table: which hold no name.
use Rattle.std.specs.Prelude.{◌≡◌, ℕ, List, [], Bool, true, false, get_or}
use Rattle.calculus.specs.Lists.{g_terms_tree}
use Rattle.conversion_theory.specs.Turns.{names_of_terms}
use Rattle.formula_core.specs.GroundLists.{GroundList, the_terms}

abbrev pub AreTold : List GroundList → List Bool → Type 0
AreTold ls holds = (k : ℕ) → get_or holds k true ≡ false → names_of_terms (g_terms_tree (the_terms ls (record { 0 = k }))) ≡ []
