-- Steps of a loop that compares two lists place by place.
use Rattle.std.specs.Prelude.{◌≡◌, ◌≢◌, ◌==◌, not, Bool, true, ℕ, ◌<◌, ◌≤◌, List, [], ◌∷◌, drop, length, map, min}
use Rattle.std.proofs.Common.{arith, get_or, zero, suc, refl, sym, ap, ◌∙◌, subst}
use Rattle.std.proofs.lemmas.Bool.Decides.{nat_tests}
use Rattle.std.specs.Cmp.Lexicographic.{slice_cmp}
use Rattle.std.specs.Ordering.{ordering_then, ordering_index, nat_cmp}
use Rattle.std.specs.declared.cmp.Ordering.{Ordering}
use Rattle.std.specs.declared.cmp.Ordering.TheVariants.{Less, Equal, Greater}

module _ {A : Type 0} (R : A → A → Ordering) where
  -- the first place that differs decides
  pub compare-here : (xs ys : List A) (i : ℕ) (d e : A) (o : Ordering) → i < length xs → i < length ys → R (get_or xs i d) (get_or ys i e) ≡ o → (o ≢ Equal) → slice_cmp R (drop i xs) (drop i ys) ≡ o
  compare-here [] ys i d e o h k q n = absurd (omega arith)
  compare-here (x ∷ xs) [] i d e o h k q n = absurd (omega arith)
  compare-here (x ∷ xs) (y ∷ ys) zero d e o h k q n = subst (λ r. ordering_then r (slice_cmp R xs ys) ≡ o) (sym q) (decided o n)
    where
      decided : (r : Ordering) → (r ≢ Equal) → ordering_then r (slice_cmp R xs ys) ≡ r
      decided Less m = refl
      decided Greater m = refl
      decided Equal m = absurd (m refl)
  compare-here (x ∷ xs) (y ∷ ys) (suc i) d e o h k q n = compare-here xs ys i d e o (omega arith) (omega arith) q n

  -- a list that ends decides by the lengths
  pub compare-end : (xs ys : List A) (i : ℕ) → i ≤ length xs → i ≤ length ys → min (length xs) (length ys) ≤ i → slice_cmp R (drop i xs) (drop i ys) ≡ nat_cmp (length xs) (length ys)
  compare-end [] [] zero h k m = grind (arith, nat_tests)
  compare-end [] (y ∷ ys) zero h k m = grind (arith, nat_tests)
  compare-end (x ∷ xs) [] zero h k m = grind (arith, nat_tests)
  compare-end (x ∷ xs) (y ∷ ys) zero h k m = absurd (omega arith)
  compare-end [] ys (suc i) h k m = absurd (omega arith)
  compare-end (x ∷ xs) [] (suc i) h k m = absurd (omega arith)
  compare-end (x ∷ xs) (y ∷ ys) (suc i) h k m = compare-end xs ys i (omega arith) (omega arith) (omega arith) ∙ shifted (length xs) (length ys)
    where
      shifted : (n p : ℕ) → nat_cmp n p ≡ nat_cmp (suc n) (suc p)
      shifted n p = grind (arith, nat_tests)

-- an order of views is the order of the items by their views
pub compare-views : {X Y : Type 0} (f : X → Y) (R : Y → Y → Ordering) (xs ys : List X) → slice_cmp (λ x y. R (f x) (f y)) xs ys ≡ slice_cmp R (map f xs) (map f ys)
compare-views f R [] [] = refl
compare-views f R [] (y ∷ ys) = refl
compare-views f R (x ∷ xs) [] = refl
compare-views f R (x ∷ xs) (y ∷ ys) = ap (λ o. ordering_then (R (f x) (f y)) o) (compare-views f R xs ys)

-- what `!=` says of an answer
pub differs : (o : Ordering) (r : Bool) → r ≡ true → r ≡ not (ordering_index o == 1) → o ≢ Equal
differs o r t e q = let h : true ≡ not (ordering_index Equal == 1) = subst (λ x. true ≡ not (ordering_index x == 1)) q (sym t ∙ e) in cc
