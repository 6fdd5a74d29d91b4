-- The lists of terms that are still to be allowed at a label, by their numbers.
use Rattle.std.specs.Prelude.{ℕ, suc, max, List, [], ◌∷◌, Bool}
use Rattle.std.specs.List.{list_all}
use Rattle.calculus.specs.Ground.{GroundMark}
use Rattle.calculus.specs.Lists.{g_terms_tree}
use Rattle.calculus.specs.Skolem.{are_allowed}
use Rattle.calculus.specs.Syntax.{Problem}
use Rattle.formula_core.specs.GroundLists.{GroundList, list_at, terms_in}

abbrev pub is_list_allowed : Problem → List GroundMark → List GroundList → ℕ → Bool
is_list_allowed P w ls k = are_allowed P w (g_terms_tree (terms_in (list_at ls k)))

abbrev pub are_ahead_allowed : Problem → List GroundMark → List GroundList → List ℕ → Bool
are_ahead_allowed P w ls ks = list_all (is_list_allowed P w ls) ks

-- all numbers are below it
abbrev pub bound : List ℕ → ℕ
bound [] = 0
bound (k ∷ ks) = max (suc k) (bound ks)
