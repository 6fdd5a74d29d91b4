-- Which gamma term is the first that holds a leaf.
use Rattle.std.specs.Prelude.{◌≡◌, ◌<◌, ℕ, zero, suc, List, [], ◌∷◌, Option, None, Some, length, slice_get}
use Rattle.store_theory.specs.Stores.{GammaCell, Holds, Store}
use Rattle.domain_cond.specs.Leaves.{IsLeaf}

-- the gamma term of the number k is the first that holds v
pub record IsFirstOf (s : Store) (gs : List GammaCell) (v k : ℕ) : Type 0 where
  pub gamma : GammaCell
  pub stands : slice_get gs k ≡ Some gamma
  pub held : Holds s v gamma.term
  pub before : (j : ℕ) (g : GammaCell) → j < k → slice_get gs j ≡ Some g → ¬ Holds s v g.term

-- each leaf that one of the first n gamma terms holds has the number of the first of them
pub record AreFirst (s : Store) (gs : List GammaCell) (n : ℕ) (first : List (Option ℕ)) : Type 0 where
  pub long : length first ≡ length s.cells
  pub marked : (v k : ℕ) → slice_get first v ≡ Some (Some k) → IsFirstOf s gs v k
  pub unmarked : (v j : ℕ) (g : GammaCell) → slice_get first v ≡ Some None → IsLeaf s v → j < n → slice_get gs j ≡ Some g → ¬ Holds s v g.term

-- the cell gets the number, unless it has one
abbrev pub mark_at : List (Option ℕ) → ℕ → ℕ → List (Option ℕ)
mark_at [] v n = []
mark_at (None ∷ xs) zero n = Some n ∷ xs
mark_at (Some k ∷ xs) zero n = Some k ∷ xs
mark_at (x ∷ xs) (suc v) n = x ∷ mark_at xs v n

-- these cells do
abbrev pub mark_all : List (Option ℕ) → List ℕ → ℕ → List (Option ℕ)
mark_all xs [] n = xs
mark_all xs (v ∷ vs) n = mark_all (mark_at xs v n) vs n
