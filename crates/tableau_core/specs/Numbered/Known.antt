-- What is known of the lists of a table, number by number.
use Rattle.std.specs.Prelude.{◌≡◌, ℕ, ◌<◌, ◌≤◌, List, [], length, Bool, true, ◌&&◌}
use Rattle.std.proofs.Common.{get_or}
use Rattle.calculus.specs.Ground.{marks_tree, values_tree}
use Rattle.calculus.specs.Lists.{g_terms_tree}
use Rattle.calculus.specs.Skolem.{are_admitted, are_admitted_marks, are_admitted_values}
use Rattle.calculus.specs.Syntax.{Problem}
use Rattle.formula_core.specs.GroundLists.{GroundList, list_at, terms_in, marks_in, values_in}

-- the items of the list are admitted, of whatever kind it is
abbrev pub admitted_in : Problem → GroundList → Bool
admitted_in P l = are_admitted P (g_terms_tree (terms_in l)) && are_admitted_marks P (marks_tree (marks_in l)) && are_admitted_values P (values_tree (values_in l))

-- it is known of the first lists whether their items are
abbrev pub KnowsAdmitted : Problem → List GroundList → List Bool → Type 0
KnowsAdmitted P ls known = (k : ℕ) → k < length known → get_or known k true ≡ admitted_in P (list_at ls k)

pub record AreAllAdmitted (P : Problem) (ls : List GroundList) (told : List Bool) : Type 0 where
  pub known : KnowsAdmitted P ls told
  pub all : length told ≡ length ls
