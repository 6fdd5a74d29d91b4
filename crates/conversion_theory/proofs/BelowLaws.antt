-- Names whose measure is below a bound.
use Rattle.std.proofs.Common.{ℕ, ◌<◌, ◌≤◌, List, [], ◌∷◌, ◌++◌, subst, inl, inr, arith}
use Rattle.conversion_theory.specs.Turns.{Name}
use Rattle.calculus.proofs.Members.{Among, among-append}

module _ (measure : Name → ℕ) where
  abbrev pub Below : ℕ → List Name → Type 0
  Below b ns = (n : Name) → Among ns n → measure n < b

  pub below-append : (a b c : ℕ) (xs ys : List Name) → Below a xs → Below b ys → a ≤ c → b ≤ c → Below c (xs ++ ys)
  below-append a b c xs ys h k p q n m = elim (among-append xs ys n m) [ inl i ↦ let lt = h n i in omega arith | inr i ↦ let lt = k n i in omega arith ]

  pub below-cons : (x : Name) (b c : ℕ) (xs : List Name) → measure x < c → Below b xs → b ≤ c → Below c (x ∷ xs)
  below-cons x b c xs h k p n (inl e) = subst (λ m. measure m < c) e h
  below-cons x b c xs h k p n (inr m) = let lt = k n m in omega arith

  pub below-none : (c : ℕ) → Below c []
  below-none c n m = elim m [ ]

  pub below-more : (a b : ℕ) (xs : List Name) → Below a xs → a ≤ b → Below b xs
  below-more a b xs h p n m = let lt = h n m in omega arith
