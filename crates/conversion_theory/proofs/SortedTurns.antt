-- Turns that a sort has put in order: by the size of their values, or by their depth and number, and then by their position.
use Rattle.std.proofs.Common.{◌≡◌, ◌⊎◌, ℕ, zero, suc, ◌<◌, ◌≤◌, List, [], ◌∷◌, Some, length, sym, subst, inl, inr, slice_get, arith}
use Rattle.plain_laws.proofs.Options.{none_some, some_injective}
use Rattle.calculus.specs.Instances.{Turn}
use Rattle.conversion_theory.specs.Depths.{value_list_depth}
use Rattle.conversion_theory.proofs.AgendaLaws.{InOrderBy}
use Rattle.conversion_theory.proofs.DepthAgenda.{ComesShorter, ComesLessDeep, IsInDepthOrder, not-less_deep_itself}

-- of two keys the first decides, and where they are the same the rest does
abbrev FirstDecides : ℕ → ℕ → Type 0 → Type 0
FirstDecides a b rest = (a < b) ⊎ ((a ≡ b) × rest)

-- not earlier is passed on, where it is passed on by the rest
first-chain : (x y z : ℕ) (yx zy zx : Type 0) → ((yx → ⊥) → (zy → ⊥) → zx → ⊥) → (FirstDecides y x yx → ⊥) → (FirstDecides z y zy → ⊥) → FirstDecides z x zx → ⊥
first-chain x y z yx zy zx rest h g b = elim (order y x) [
  | inl lt ↦ h (inl lt)
  | inr le ↦ elim (order z y) [
    | inl lt ↦ g (inl lt)
    | inr le' ↦ elim b [
      | inl lt ↦ absurd (omega arith)
      | inr e ↦ let same = e.0 in rest (λ k. h (inr (omega arith, k))) (λ k. g (inr (omega arith, k))) e.1
    ]
  ]
]
  where
    order : (m n : ℕ) → (m < n) ⊎ (n ≤ m)
    order m n = grind arith

last-chain : (x y z : ℕ) → (y < x → ⊥) → (z < y → ⊥) → z < x → ⊥
last-chain x y z h g b = elim (order y x) [
  | inl lt ↦ h lt
  | inr le ↦ elim (order z y) [ inl lt ↦ g lt | inr le' ↦ absurd (omega arith) ]
]
  where
    order : (m n : ℕ) → (m < n) ⊎ (n ≤ m)
    order m n = grind arith

-- each turn comes no later than the next one
abbrev pub IsRisingBy : (Turn → Turn → Type 0) → List Turn → Type 0
IsRisingBy Before [] = Unit {0}
IsRisingBy Before (x ∷ []) = Unit {0}
IsRisingBy Before (x ∷ y ∷ ys) = (Before y x → ⊥) × IsRisingBy Before (y ∷ ys)

module _ (Before : Turn → Turn → Type 0) (never : (x : Turn) → Before x x → ⊥) (chain : (x y z : Turn) → (Before y x → ⊥) → (Before z y → ⊥) → Before z x → ⊥) where
  -- the first one comes no later than any
  first-lowest : (x : Turn) (ys : List Turn) → IsRisingBy Before (x ∷ ys) → (j : ℕ) (y : Turn) → slice_get (x ∷ ys) j ≡ Some y → Before y x → ⊥
  first-lowest x ys h zero y e b = never x (subst (λ z. Before z x) (sym (some_injective x e)) b)
  first-lowest x [] h (suc j) y e b = none_some e
  first-lowest x (z ∷ zs) h (suc j) y e b = chain x z y h.0 (first-lowest z zs h.1 j y e) b

  rising-tail : (x : Turn) (ys : List Turn) → IsRisingBy Before (x ∷ ys) → IsRisingBy Before ys
  rising-tail x [] h = tt
  rising-tail x (y ∷ ys) h = h.1

  pub in_order-by : (agenda : List Turn) → IsRisingBy Before agenda → InOrderBy Before agenda
  in_order-by [] h i j x y e f lt b = none_some e
  in_order-by (z ∷ zs) h zero j x y e f lt b = first-lowest z zs h j y f (subst (λ u. Before y u) (sym (some_injective z e)) b)
  in_order-by (z ∷ zs) h (suc i) zero x y e f lt b = absurd (omega arith)
  in_order-by (z ∷ zs) h (suc i) (suc j) x y e f lt b = in_order-by zs (rising-tail z zs h) i j x y e f (omega arith) b

-- ---- by their depth and number

pub not-less_deep-chain : (x y z : Turn) → (ComesLessDeep y x → ⊥) → (ComesLessDeep z y → ⊥) → ComesLessDeep z x → ⊥
not-less_deep-chain x y z h g b = first-chain (value_list_depth x.values) (value_list_depth y.values) (value_list_depth z.values) (ComesShorter y x) (ComesShorter z y) (ComesShorter z x) (first-chain (length x.values) (length y.values) (length z.values) (y.position < x.position) (z.position < y.position) (z.position < x.position) (last-chain x.position y.position z.position)) h g b

abbrev pub IsRisingInDepth : List Turn → Type 0
IsRisingInDepth agenda = IsRisingBy ComesLessDeep agenda

pub depth_order-rising : (agenda : List Turn) → IsRisingInDepth agenda → IsInDepthOrder agenda
depth_order-rising agenda h = in_order-by ComesLessDeep not-less_deep_itself not-less_deep-chain agenda h
