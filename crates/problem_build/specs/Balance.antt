-- Balanced chains: a list of one is its item; a longer one is cut into halves, the first with one item more where the
-- number is odd, and each half is joined in the same way.
use Rattle.std.specs.Prelude.{◌≡◌, ◌⊎◌, ℕ, zero, suc, ◌+◌, ◌/◌, List, [], ◌∷◌, length, take, drop, ◌++◌}

-- what a list is joined to
pub data IsBalanced {A : Type 0} (join : A → A → A) : List A → A → Type 0 where
  one : (x : A) → IsBalanced join (x ∷ []) x
  halves : (xs ys : List A) (x y : A) → (length xs ≡ length ys) ⊎ (length xs ≡ suc (length ys))
      → IsBalanced join xs x → IsBalanced join ys y → IsBalanced join (xs ++ ys) (join x y)

-- The same, computed. `n` cuts are enough where the list has at most n + 1 items; where there are fewer, `x` comes
abbrev pub balanced_by : {A : Type 0} → (A → A → A) → A → ℕ → List A → A
balanced_by join x n [] = x
balanced_by join x n (a ∷ []) = a
balanced_by join x zero (a ∷ b ∷ cs) = x
balanced_by join x (suc n) (a ∷ b ∷ cs) =
    join (balanced_by join x n (take ((length (a ∷ b ∷ cs) + 1) / 2) (a ∷ b ∷ cs)))
    (balanced_by join x n (drop ((length (a ∷ b ∷ cs) + 1) / 2) (a ∷ b ∷ cs)))

-- a first item and those after it, joined
abbrev pub balanced : {A : Type 0} → (A → A → A) → A → List A → A
balanced join a bs = balanced_by join a (length bs) (a ∷ bs)
