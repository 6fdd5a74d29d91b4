-- What is kept are the items, each once.
use Rattle.std.proofs.Common.{◌≡◌, ◌⊎◌, ℕ, zero, suc, List, [], ◌∷◌, ◌++◌, Bool, true, false, ◌||◌, Some, refl, sym, ◌∙◌, ap, subst, inl, inr, slice_get, if◌then◌else◌}
use Rattle.std.specs.List.{AllByRecursion, IsDistinct, list_any}
use Rattle.std.proofs.lemmas.Bool.{false≢true, true≢false}
use Rattle.std.proofs.lemmas.Map.Keys.{IsDistinct-head, IsDistinct-tail, IsDistinct-cons}
use Rattle.plain_laws.proofs.Options.{none_some, some_injective}
use Rattle.calculus.proofs.Members.{Among, among-at, among-left, among-right, among-append, among-all}
use Rattle.calculus.proofs.EqualityLaws.{Tells}
use Rattle.name_order.specs.Keeping.{keep, keep_all}

module _ {A : Type 0} (eq : A → A → Bool) (tells : Tells eq) where
  pub any-among : (ks : List A) (x : A) → list_any (eq x) ks ≡ true → Among ks x
  any-among [] x h = absurd (false≢true h)
  any-among (k ∷ ks) x h = elim (both (eq x k) (list_any (eq x) ks) h) [ inl e ↦ inl (sym ((tells x k).0 e)) | inr e ↦ inr (any-among ks x e) ]
    where
      both : (a b : Bool) → (a || b) ≡ true → (a ≡ true) ⊎ (b ≡ true)
      both true b e = inl refl
      both false b e = inr e

  apart : (x y : A) → (x ≡ y → ⊥) → eq x y ≡ false
  apart x y h = by (eq x y) refl
    where
      by : (b : Bool) → eq x y ≡ b → eq x y ≡ false
      by true e = absurd (h ((tells x y).0 e))
      by false e = e

  not-here : (a b : Bool) → (a || b) ≡ false → (a ≡ false) × (b ≡ false)
  not-here true b e = absurd (true≢false e)
  not-here false b e = (refl, e)

  pub none-among : (ks : List A) (x : A) → list_any (eq x) ks ≡ false → Among ks x → ⊥
  none-among [] x h i = elim i [ ]
  none-among (k ∷ ks) x h (inl s) = true≢false (sym ((tells x k).1 (sym s)) ∙ (not-here (eq x k) (list_any (eq x) ks) h).0)
  none-among (k ∷ ks) x h (inr m) = none-among ks x (not-here (eq x k) (list_any (eq x) ks) h).1 m

  distinct-push : (ks : List A) (x : A) → (Among ks x → ⊥) → IsDistinct eq ks → IsDistinct eq (ks ++ x ∷ [])
  distinct-push [] x h d = IsDistinct-cons eq x [] tt d
  distinct-push (k ∷ ks) x h d = IsDistinct-cons eq k (ks ++ x ∷ []) (push ks (IsDistinct-head eq k ks d)) (distinct-push ks x (λ m. h (inr m)) (IsDistinct-tail eq k ks d))
    where
      push : (us : List A) → AllByRecursion (λ y. eq k y ≡ false) us → AllByRecursion (λ y. eq k y ≡ false) (us ++ x ∷ [])
      push [] a = (apart k x (λ e. h (inl e)), tt)
      push (u ∷ us) a = (a.0, push us a.1)

  pub flips : (x y : A) → eq x y ≡ eq y x
  flips x y = by (eq x y) (eq y x) refl refl
    where
      by : (a b : Bool) → eq x y ≡ a → eq y x ≡ b → eq x y ≡ eq y x
      by true b p q = p ∙ sym ((tells y x).1 (sym ((tells x y).0 p)))
      by false true p q = absurd (true≢false (sym ((tells x y).1 (sym ((tells y x).0 q))) ∙ p))
      by false false p q = p ∙ sym q

  keep-distinct : (ks : List A) (x : A) (b : Bool) → list_any (eq x) ks ≡ b → IsDistinct eq ks → IsDistinct eq (if b then ks else ks ++ x ∷ [])
  keep-distinct ks x true e d = d
  keep-distinct ks x false e d = distinct-push ks x (none-among ks x e) d

  pub kept-distinct : (ks xs : List A) → IsDistinct eq ks → IsDistinct eq (keep_all eq ks xs)
  kept-distinct ks [] d = d
  kept-distinct ks (x ∷ xs) d = kept-distinct (keep eq ks x) xs (keep-distinct ks x (list_any (eq x) ks) refl d)

  keep-more : (ks : List A) (x y : A) (b : Bool) → Among ks y → Among (if b then ks else ks ++ x ∷ []) y
  keep-more ks x y true m = m
  keep-more ks x y false m = among-left ks (x ∷ []) y m

  keep-new : (ks : List A) (x : A) (b : Bool) → list_any (eq x) ks ≡ b → Among (if b then ks else ks ++ x ∷ []) x
  keep-new ks x true e = any-among ks x e
  keep-new ks x false e = among-right ks (x ∷ []) x (inl refl)

  keep-only : (ks : List A) (x y : A) (b : Bool) → Among (if b then ks else ks ++ x ∷ []) y → Among ks y ⊎ (x ≡ y)
  keep-only ks x y true m = inl m
  keep-only ks x y false m = elim (among-append ks (x ∷ []) y m) [ inl i ↦ inl i | inr i ↦ elim i [ inl e ↦ inr e | inr k ↦ absurd k ] ]

  pub kept-more : (ks xs : List A) (y : A) → Among ks y ⊎ Among xs y → Among (keep_all eq ks xs) y
  kept-more ks [] y (inl m) = m
  kept-more ks [] y (inr m) = elim m [ ]
  kept-more ks (x ∷ xs) y (inl m) = kept-more (keep eq ks x) xs y (inl (keep-more ks x y (list_any (eq x) ks) m))
  kept-more ks (x ∷ xs) y (inr (inl e)) = kept-more (keep eq ks x) xs y (inl (subst (Among (keep eq ks x)) e (keep-new ks x (list_any (eq x) ks) refl)))
  kept-more ks (x ∷ xs) y (inr (inr m)) = kept-more (keep eq ks x) xs y (inr m)

  pub kept-only : (ks xs : List A) (y : A) → Among (keep_all eq ks xs) y → Among ks y ⊎ Among xs y
  kept-only ks [] y m = inl m
  kept-only ks (x ∷ xs) y m = elim (kept-only (keep eq ks x) xs y m) [
    | inl i ↦ elim (keep-only ks x y (list_any (eq x) ks) i) [ inl j ↦ inl j | inr e ↦ inr (inl e) ]
    | inr i ↦ inr (inr i)
  ]

  first-only : (k : A) (ks : List A) (j : ℕ) (x : A) → IsDistinct eq (k ∷ ks) → k ≡ x → slice_get ks j ≡ Some x → ⊥
  first-only k ks j x d e g = true≢false (sym ((tells k x).1 e) ∙ among-all (λ y. eq k y ≡ false) ks x (IsDistinct-head eq k ks d) (among-at ks j x g))

  -- no item stands at two places
  pub distinct-once : (ks : List A) → IsDistinct eq ks → (i j : ℕ) (x : A) → slice_get ks i ≡ Some x → slice_get ks j ≡ Some x → i ≡ j
  distinct-once [] d i j x e g = absurd (none_some e)
  distinct-once (k ∷ ks) d zero zero x e g = refl
  distinct-once (k ∷ ks) d zero (suc j) x e g = absurd (first-only k ks j x d (some_injective k e) g)
  distinct-once (k ∷ ks) d (suc i) zero x e g = absurd (first-only k ks i x d (some_injective k g) e)
  distinct-once (k ∷ ks) d (suc i) (suc j) x e g = ap suc (distinct-once ks (IsDistinct-tail eq k ks d) i j x e g)
