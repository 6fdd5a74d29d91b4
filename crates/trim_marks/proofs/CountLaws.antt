-- Counts in a list.
use Rattle.std.proofs.Common.{◌≡◌, ℕ, zero, suc, ◌+◌, ◌-◌, ◌<◌, ◌≤◌, List, [], ◌∷◌, ◌++◌, length, Bool, false, ◌==◌, refl, sym, ◌∙◌, ap, inl, inr, arith, get_or, set, eq-eqb, eqb-true}
use Rattle.std.proofs.Math.Path.{fun_ext}
use Rattle.std.proofs.lemmas.Bool.{cases_Bool, true≢false}
use Rattle.std.proofs.lemmas.Grind.{get_or-set_at}
use Rattle.std.proofs.lemmas.List.{get_or_past, get_or-set_other}
use Rattle.trim_theory.specs.Left.{one_if}
use Rattle.trim_theory.specs.Marking.{Counts, counts_of, plus_one, minus_one, set_back}

one_zero : (xs : List ℕ) (i : ℕ) → get_or (xs ++ 0 ∷ []) i 0 ≡ get_or xs i 0
one_zero [] zero = refl
one_zero [] (suc i) = refl
one_zero (x ∷ xs) zero = refl
one_zero (x ∷ xs) (suc i) = one_zero xs i

pub room : (xs ys : List ℕ) → ys ≡ xs ++ 0 ∷ [] → counts_of ys ≡ counts_of xs
room xs ys h = ap counts_of h ∙ fun_ext (one_zero xs)

-- counts that differ at one place
set-is : (xs : List ℕ) (k y : ℕ) (f : Counts) → k < length xs → f k ≡ y → ((i : ℕ) → (k == i) ≡ false → f i ≡ get_or xs i 0) → counts_of (set xs k y) ≡ f
set-is xs k y f within h g = fun_ext (λ i. elim (cases_Bool (k == i)) [
  | inl e ↦ let same = eqb-true k i e in get_or-set_at xs k i y 0 (sym same) within ∙ sym h ∙ ap f same
  | inr e ↦ get_or-set_other xs k i y 0 (λ q. other k i q e) ∙ sym (g i e)
])
  where
    other : (a b : ℕ) → b ≡ a → (a == b) ≡ false → ⊥
    other a b q e = true≢false (sym (eq-eqb a b (sym q)) ∙ e)

pub counted : (xs : List ℕ) (k y : ℕ) → k < length xs → y ≡ get_or xs k 0 + 1 → counts_of (set xs k y) ≡ plus_one k (counts_of xs)
counted xs k y within h = set-is xs k y (plus_one k (counts_of xs)) within (rw (eq-eqb k k refl) (omega arith)) (λ i e. rw e (omega arith))
