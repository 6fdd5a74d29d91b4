-- Numbers for cells by rounds: each is the least above those of what the cell needs, in the round before.
use Rattle.std.specs.Prelude.{◌≡◌, ◌⊎◌, ℕ, suc, ◌<◌, ◌≤◌, List, [], ◌∷◌, zero, length, Some, slice_get}
use Rattle.store_theory.specs.Stores.{Cell, Store, EndsAt}
use Rattle.search_theory.specs.SpareRules.{SpareRule, needed}

-- 0 beyond the list
abbrev pub rank_at : List ℕ → ℕ → ℕ
rank_at [] r = 0
rank_at (n ∷ ns) zero = n
rank_at (n ∷ ns) (suc r) = rank_at ns r

-- b is the least number above those of the first i cells of the list
pub record IsAboveTo (f : ℕ → ℕ) (ks : List ℕ) (i b : ℕ) : Type 0 where
  pub each : (j k : ℕ) → j < i → slice_get ks j ≡ Some k → f k < b
  pub least : (b ≡ 0) ⊎ ((j : ℕ) × (k : ℕ) × (slice_get ks j ≡ Some k) × (b ≡ suc (f k)))

abbrev pub IsAbove : (ℕ → ℕ) → List ℕ → ℕ → Type 0
IsAbove f ks b = IsAboveTo f ks (length ks) b

-- of what is needed at the end of the cell's bindings
abbrev pub IsRankOf : SpareRule → Store → (ℕ → ℕ) → ℕ → ℕ → Type 0
IsRankOf R s f r b = (e : ℕ) × (c : Cell) × EndsAt s r e × (slice_get s.cells e ≡ Some c) × IsAbove f (needed R e c) b

-- one round over the first n cells leads from f to g
pub record IsRound (R : SpareRule) (s : Store) (n : ℕ) (f g : ℕ → ℕ) : Type 0 where
  pub inside : (r : ℕ) → r < n → IsRankOf R s f r (g r)
  pub outside : (r : ℕ) → n ≤ r → g r ≡ 0

-- the numbers are small enough to count on
abbrev pub AreSmall : List ℕ → Type 0
AreSmall ns = (r : ℕ) → rank_at ns r ≤ 4294967298
