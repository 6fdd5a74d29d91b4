-- Places of tables by their numbers, and the labels and terms that stand at them.
use Rattle.std.specs.Prelude.{◌≡◌, ℕ, zero, suc, ◌^◌, ◌<◌, List, [], ◌∷◌, length, get_or, map, nat_lt, ◌==◌, IsTrue, if◌then◌else◌}
use Rattle.std.specs.List.{list_all}
use Rattle.calculus.specs.Syntax.{Term, spare}
use Rattle.calculus.specs.Derivations.{Label}

-- the number of an item with one more before it; 0 is no number
abbrev pub one_later : ℕ → ℕ
one_later zero = zero
one_later (suc n) = suc (suc n)

-- the number, from 1, at which a place is listed first, or 0
abbrev pub first_number : List ℕ → ℕ → ℕ
first_number [] p = zero
first_number (q ∷ qs) p = if q == p then suc zero else one_later (first_number qs p)

-- each place has its first number, and all numbers have 32 bits
pub record AreNumbers (places numbers : List ℕ) : Type 0 where
  pub few : length places < 2 ^ 32
  pub told : (p : ℕ) → get_or numbers p 0 ≡ first_number places p

-- no item comes twice
abbrev pub AreApart : {A : Type 0} → List A → A → Type 0
AreApart xs d = (i j : ℕ) → i < length xs → j < length xs → get_or xs i d ≡ get_or xs j d → i ≡ j

abbrev pub AreWithin : {A : Type 0} → List A → List ℕ → Type 0
AreWithin table places = IsTrue (list_all (λ p. nat_lt p (length table)) places)

abbrev pub items_at : {A : Type 0} → List A → A → List ℕ → List A
items_at table d places = map (λ p. get_or table p d) places

abbrev pub labels_at : List Label → List ℕ → List Label
labels_at table places = items_at table [] places

abbrev pub terms_at : List Term → List ℕ → List Term
terms_at table places = items_at table (spare 0) places
