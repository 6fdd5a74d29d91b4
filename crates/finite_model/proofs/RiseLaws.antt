-- Whether numbers rise, from number to number.
use Rattle.std.proofs.Common.{◌≡◌, ℕ, suc, ◌+◌, ◌<◌, ◌≤◌, List, ◌∷◌, length, map, drop, get_or, true, false, ◌&&◌, nat_lt, sym, ◌∙◌, ap, add-one, drop-cons, arith, inl, inr, lt-ltb, ltb-true}
use Rattle.std.proofs.lemmas.Bool.{cases_Bool}
use Rattle.std.proofs.Math.ListN.{drop_of_length-le}
use Rattle.calculus.specs.DerivationText.{rises_from}

item-here : (xs : List ℕ) (i x : ℕ) → i < length xs → x ≡ get_or xs i 0 → drop i xs ≡ x ∷ drop (i + 1) xs
item-here xs i x h e = (let f : drop i xs ≡ get_or xs i 0 ∷ drop (i + 1) xs = rw add-one (drop-cons xs i 0 h) in f) ∙ ap (λ y. y ∷ drop (i + 1) xs) (sym e)

pub rises-on : (least : ℕ) (xs : List ℕ) (i x : ℕ) → i < length xs → x ≡ get_or xs i 0 → least ≤ x → rises_from least (map suc (drop i xs)) ≡ rises_from (x + 1) (map suc (drop (i + 1) xs))
rises-on least xs i x h e le =
    ap (λ l. rises_from least (map suc l)) (item-here xs i x h e)
    ∙ ap (λ b. b && rises_from (suc x) (map suc (drop (i + 1) xs))) (lt-ltb least (suc x) (omega arith))
    ∙ (let s : suc x ≡ x + 1 = omega arith in ap (λ k. rises_from k (map suc (drop (i + 1) xs))) s)

pub rises-broken : (least : ℕ) (xs : List ℕ) (i x : ℕ) → i < length xs → x ≡ get_or xs i 0 → x < least → rises_from least (map suc (drop i xs)) ≡ false
rises-broken least xs i x h e lt =
    ap (λ l. rises_from least (map suc l)) (item-here xs i x h e)
    ∙ ap (λ b. b && rises_from (suc x) (map suc (drop (i + 1) xs))) no
  where
    no : nat_lt least (suc x) ≡ false
    no = elim (cases_Bool (nat_lt least (suc x))) [
      | inl y ↦ (let k = ltb-true least (suc x) y in absurd (omega arith))
      | inr n ↦ n
    ]

pub rises-end : (least : ℕ) (xs : List ℕ) (i : ℕ) → length xs ≤ i → rises_from least (map suc (drop i xs)) ≡ true
rises-end least xs i h = ap (λ l. rises_from least (map suc l)) (drop_of_length-le xs h)
