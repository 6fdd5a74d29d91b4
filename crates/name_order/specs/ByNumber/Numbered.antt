-- Lists of terms by the numbers of their names.
use Rattle.std.specs.Prelude.{◌≡◌, ◌<◌, ℕ, List, [], map, get_or}
use Rattle.calculus.specs.Syntax.{Term}
use Rattle.conversion_theory.specs.Numbering.{numbered_term}
use Rattle.conversion_theory.specs.Turns.{Name}
use Rattle.formula_core.specs.GroundLists.{GroundList, the_terms}

-- those below n are the lists of the table
abbrev pub AreNumbered : (Name → ℕ) → List GroundList → ℕ → List (List Term) → Type 0
AreNumbered num ls n lists = (k : ℕ) → k < n → get_or lists k [] ≡ map (numbered_term num) (the_terms ls (record { 0 = k }))
