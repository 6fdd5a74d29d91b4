-- Homes that are told by lists of marks, and what allows gamma terms.
use Rattle.std.specs.Prelude.{◌≡◌, ◌⊎◌, ℕ, List, [], ◌∷◌, IsTrue, Some, None, slice_get}
use Rattle.calculus.specs.declared.sort.Sort.TheVariants.{TermSort}
use Rattle.calculus.specs.Syntax.{Problem}
use Rattle.calculus.specs.Skolem.{label_of}
use Rattle.store_theory.specs.Stores.{variable, eigen_cell, Store, Solution, Holds, GammaCell}
use Rattle.search_theory.specs.States.{label_by, values_by}
use Rattle.search_theory.specs.MarkLists.{IsFlat}
use Rattle.calculus.specs.Equality.{mark_eq}
use Rattle.calculus.specs.Labels.{home_allows}

-- the marks ks are the label of the first gamma term that holds v, or none where no gamma term does
abbrev pub IsHomeLabel : Store → ℕ → List GammaCell → List ℕ → Type 0
IsHomeLabel s v [] ks = ks ≡ []
IsHomeLabel s v (g ∷ gs) ks = (Holds s v g.term × IsFlat s g.label ks) ⊎ ((¬ Holds s v g.term) × IsHomeLabel s v gs ks)

abbrev pub TellsHomes : Store → List GammaCell → (ℕ → List ℕ) → Type 0
TellsHomes s gammas home = (v : ℕ) → slice_get s.cells v ≡ Some (variable TermSort None) → IsHomeLabel s v gammas (home v)

-- the homes of the eigenvariables in each gamma term allow its label
abbrev pub HomesAllow : Problem → Store → Solution → GammaCell → Type 0
HomesAllow P s σ g = (e p : ℕ) (rs : List ℕ) → Holds s e g.term → slice_get s.cells e ≡ Some (eigen_cell p rs) → IsTrue (home_allows mark_eq P.setting.domains (label_of P p (values_by σ rs)) (label_by σ g.label))
