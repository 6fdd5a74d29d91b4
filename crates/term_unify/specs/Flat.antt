-- Labels as lists of marks.
use Rattle.std.specs.Prelude.{◌≡◌, ◌⊎◌, ℕ, List, [], ◌∷◌, Some, slice_get, IsTrue}
use Rattle.calculus.specs.declared.sort.Sort.TheVariants.{MarkSort}
use Rattle.store_theory.specs.Stores.{Store, string_cell, has_sort_at, OccursIn, EndsAt}
use Rattle.store_theory.specs.Systems.{IsOpenString}

abbrev pub IsStringOf : Store → ℕ → List ℕ → Type 0
IsStringOf s v ks = slice_get s.cells v ≡ Some (string_cell ks)

-- the item's bindings end at a mark or at a string of these marks
abbrev pub IsFlatItem : Store → ℕ → List ℕ → Type 0
IsFlatItem s w ks = (v : ℕ) × EndsAt s w v × (((ks ≡ v ∷ []) × IsTrue (has_sort_at s MarkSort v)) ⊎ IsStringOf s v ks)

-- the cell is a built string
abbrev pub IsBuiltEnd : Store → ℕ → Type 0
IsBuiltEnd s v = (rs : List ℕ) × IsStringOf s v rs

-- no unbound string occurs in the cell
abbrev pub HasNoStringIn : Store → ℕ → Type 0
HasNoStringIn s r = (v : ℕ) → IsOpenString s v → ¬ OccursIn s v r

-- nor in the cells of the list
abbrev pub HasNoString : Store → List ℕ → Type 0
HasNoString s rs = (v i r : ℕ) → IsOpenString s v → slice_get rs i ≡ Some r → ¬ OccursIn s v r
