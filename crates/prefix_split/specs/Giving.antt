-- Strings and their lengths.
use Rattle.std.specs.Prelude.{◌≡◌, ℕ, List, length, Some, None, slice_get}
use Rattle.calculus.specs.declared.sort.Sort.TheVariants.{StringSort}
use Rattle.calculus.specs.Ground.{GroundMark}
use Rattle.store_theory.specs.Stores.{Store, variable, Solution, a_string}
use Rattle.search_theory.specs.Solving.{IsNarrowed}
use Rattle.prefix_split.specs.Later.{IsBuiltString}
pub use Rattle.term_unify.specs.Flat.{IsBuiltEnd}

abbrev pub HasLength : Solution → ℕ → ℕ → Type 0
HasLength σ r n = (w : List GroundMark) × (σ r ≡ a_string w) × (length w ≡ n)

abbrev pub IsUnboundString : Store → ℕ → Type 0
IsUnboundString s v = slice_get s.cells v ≡ Some (variable StringSort None)

-- the new store is the old one with this length for the string
pub record IsGiven (old new : Store) (r n : ℕ) : Type 0 where
  pub narrowed : IsNarrowed old new (λ σ. HasLength σ r n)
  pub built : IsBuiltString new r
