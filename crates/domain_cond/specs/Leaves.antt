-- What stands in a term outside the values of names, and has no arguments.
use Rattle.std.specs.Prelude.{◌≡◌, ℕ, List, ◌∷◌, ◌==◌, Bool, true, false, Some, slice_get}
use Rattle.std.specs.List.{list_any}
use Rattle.store_theory.specs.Stores.{Cell, fun_cell, Store, is_bound, Holds}

abbrev pub has_arguments : Cell → Bool
has_arguments (fun_cell f (r ∷ rs)) = true
has_arguments _ = false

-- the cell is an end of bindings without arguments: a variable, a constant or a name
abbrev pub IsLeaf : Store → ℕ → Type 0
IsLeaf s e = (c : Cell) × (slice_get s.cells e ≡ Some c) × (is_bound c ≡ false) × (has_arguments c ≡ false)

-- these are the leaves of the term
pub record AreLeaves (s : Store) (r : ℕ) (es : List ℕ) : Type 0 where
  pub held : (i e : ℕ) → slice_get es i ≡ Some e → Holds s e r × IsLeaf s e
  pub all_of_them : (e : ℕ) → Holds s e r → IsLeaf s e → (i : ℕ) × (slice_get es i ≡ Some e)

abbrev pub is_among : List ℕ → ℕ → Bool
is_among xs k = list_any (λ x. k == x) xs
