-- A variable is met in the list of the quantifiers around it, which is kept with the innermost one last.
use Rattle.std.proofs.Common.{◌≡◌, ◌≢◌, inl, inr, ℕ, ◌-◌, ◌<◌, ◌≤◌, ◌==◌, ◌||◌, Bool, true, false, List, length, get_or, reverse, slice_set, refl, sym, ◌∙◌, ap, arith}
use Rattle.std.proofs.lemmas.Bool.{cases_order, false≢true}
use Rattle.std.proofs.lemmas.List.{get_or-reverse, get_or-set_same, get_or-set_other, get_or_past, length-reverse, length-set}
use Rattle.plain_laws.proofs.Booleans.{or_false, or-true}
use Rattle.calculus.proofs.EqualityLaws.{nat_eq-tells}

module _ (xs : List Bool) (place depth d : ℕ) (lt : depth < length xs) (at : place ≡ length xs - 1 - depth) where
  abbrev after : List Bool
  after = slice_set xs place true

  met-within : d < length xs → get_or (reverse after) d true ≡ (get_or (reverse xs) d true || depth == d)
  met-within less = by (depth == d) refl
    where
      n : length after ≡ length xs
      n = length-set xs place true

      read : get_or (reverse after) d true ≡ get_or after (length after - 1 - d) true
      read = get_or-reverse after d true (omega (arith, n, less))

      index : length after - 1 - d ≡ length xs - 1 - d
      index = ap (λ m. m - 1 - d) n

      by : (b : Bool) → (depth == d) ≡ b → get_or (reverse after) d true ≡ (get_or (reverse xs) d true || depth == d)
      by true e =
          let same : depth ≡ d = (nat_eq-tells depth d).0 e in
          let here : length xs - 1 - d ≡ place = omega (arith, same, at) in
          read ∙ ap (λ i. get_or after i true) (index ∙ here) ∙ get_or-set_same xs place true true (omega (arith, at, lt)) ∙ sym (ap (λ b. get_or (reverse xs) d true || b) e ∙ or-true (get_or (reverse xs) d true))
      by false e =
          let other : length xs - 1 - d ≢ place = λ s. false≢true (sym e ∙ (nat_eq-tells depth d).1 (omega (arith, s, at, lt, less))) in
          read ∙ ap (λ i. get_or after i true) index ∙ get_or-set_other xs place (length xs - 1 - d) true true other ∙ sym (get_or-reverse xs d true less)
          ∙ sym (ap (λ b. get_or (reverse xs) d true || b) e ∙ or_false (get_or (reverse xs) d true))

  met-past : length xs ≤ d → get_or (reverse after) d true ≡ (get_or (reverse xs) d true || depth == d)
  met-past le =
      let n = length-set xs place true in
      let long = length-reverse xs in
      let more = length-reverse after in
      get_or_past (reverse after) d true (omega (arith, n, more, le)) ∙ sym (ap (λ b. b || depth == d) (get_or_past (reverse xs) d true (omega (arith, long, le))))

pub met : (xs old : List Bool) (n depth d : ℕ) → reverse xs ≡ old → n ≡ length xs → depth < length xs → get_or (reverse (slice_set xs (n - 1 - depth) true)) d true ≡ (get_or old d true || depth == d)
met xs old n depth d view size lt = ap (λ m. get_or (reverse (slice_set xs (m - 1 - depth) true)) d true) size ∙ whole ∙ ap (λ l. get_or l d true || depth == d) view
  where
    whole : get_or (reverse (slice_set xs (length xs - 1 - depth) true)) d true ≡ (get_or (reverse xs) d true || depth == d)
    whole = elim (cases_order d (length xs)) [
      | inl e ↦ met-past xs (length xs - 1 - depth) depth d lt refl (omega (arith, e))
      | inr apart ↦ elim apart [
        | inl less ↦ met-within xs (length xs - 1 - depth) depth d lt refl less
        | inr more ↦ met-past xs (length xs - 1 - depth) depth d lt refl (omega (arith, more))
      ]
    ]
