-- Lists of string lengths within a range, and their order: by the sum, then lexicographically.
use Rattle.std.specs.Prelude.{◌≡◌, ℕ, zero, suc, ◌+◌, ◌-◌, ◌*◌, ◌≤◌, List, [], ◌∷◌, ◌++◌, length}
use Rattle.std.specs.List.{AllByRecursion}
use Rattle.std.specs.Ordering.{nat_cmp}
use Rattle.std.specs.Cmp.Lexicographic.{slice_cmp}
use Rattle.std.specs.declared.cmp.Ordering.TheVariants.{Less}
use Rattle.calculus.specs.declared.setting.Logic.{Logic}
use Rattle.calculus.specs.declared.setting.Logic.TheVariants.{Classical, Intuitionistic, D, T as LogicT, S4, S5}
use Rattle.calculus.specs.Space.{lengths_cmp}

-- the least length of a string, and how much longer it may be where there are b nu and pi steps
abbrev pub least_of : Logic → ℕ
least_of D = 1
least_of _ = 0

abbrev pub spread_of : Logic → ℕ → ℕ
spread_of Classical b = 0
spread_of Intuitionistic b = b
spread_of D b = 0
spread_of LogicT b = 1
spread_of S4 b = b
spread_of S5 b = 1

-- each number is one of those from x up to x + p
abbrev pub AreWithin : ℕ → ℕ → List ℕ → Type 0
AreWithin x p ns = AllByRecursion (λ y. (x ≤ y) × (y ≤ x + p)) ns

-- how much they are above x in all
abbrev pub above : ℕ → List ℕ → ℕ
above x [] = 0
above x (y ∷ ns) = (y - x) + above x ns

-- the lexicographically first n numbers within the range that are t above x in all
abbrev pub least_list : ℕ → ℕ → ℕ → ℕ → List ℕ
least_list x p zero t = []
least_list x p (suc n) t = (x + (t - n * p)) ∷ least_list x p n (t - (t - n * p))

-- no list of n numbers within the range is before it
pub record IsFirst (x p n : ℕ) (ns : List ℕ) : Type 0 where
  pub within : AreWithin x p ns
  pub count : length ns ≡ n
  pub before : (ms : List ℕ) → AreWithin x p ms → length ms ≡ n → ¬ (lengths_cmp ms ns ≡ Less)

-- the new list is the next one after the old: no list within the range lies between
pub record IsNext (x p : ℕ) (old new : List ℕ) : Type 0 where
  pub within : AreWithin x p new
  pub count : length new ≡ length old
  pub later : lengths_cmp old new ≡ Less
  pub between : (ms : List ℕ) → AreWithin x p ms → length ms ≡ length old → lengths_cmp old ms ≡ Less → ¬ (lengths_cmp ms new ≡ Less)

-- no list within the range is after it
abbrev pub IsLast : ℕ → ℕ → List ℕ → Type 0
IsLast x p ns = (ms : List ℕ) → AreWithin x p ms → length ms ≡ length ns → ¬ (lengths_cmp ns ms ≡ Less)

-- the lexicographically last of the lists with its length and sum
abbrev pub IsLastOfSum : ℕ → ℕ → List ℕ → Type 0
IsLastOfSum x p ns = (ms : List ℕ) → AreWithin x p ms → length ms ≡ length ns → above x ms ≡ above x ns → ¬ (slice_cmp nat_cmp ns ms ≡ Less)

-- numbers were taken off the end of the old list, so many, and t above x in all, and they are the last of their sum
pub record IsTakenOff (x p : ℕ) (old items : List ℕ) (many t : ℕ) : Type 0 where
  pub off : List ℕ
  pub whole : old ≡ items ++ off
  pub count : length off ≡ many
  pub height : above x off ≡ t
  pub last : IsLastOfSum x p off
