-- Items are found by their numbers where the numbers rise.
use Rattle.std.proofs.Common.{◌≡◌, ℕ, zero, suc, ◌-◌, ◌<◌, ◌≤◌, List, [], ◌∷◌, ◌++◌, length, map, get_or, Bool, true, false, ◌==◌, ltb, leb, Some, None, Option, cond, find, option_map, refl, sym, ◌∙◌, ap, arith, ◌⊎◌, inl, inr}
use Rattle.std.proofs.lemmas.Bool.{cases_lt}
use Rattle.std.proofs.lemmas.Bool.Decides.{nat_tests}
use Rattle.std.proofs.lemmas.List.{get_or_default}
use Rattle.std.proofs.lemmas.List.Sorted.{IsNonDecreasingBy-push}
use Rattle.std.specs.List.Sorted.{IsNonDecreasingBy, IsPartitionPoint}

choice-map : {X Y : Type 0} (f : X → Y) (b : Bool) (x : X) (m : Option Y) (n : Option X) → m ≡ option_map f n → cond b (Some (f x)) m ≡ option_map f (cond b (Some x) n)
choice-map f true x m n e = refl
choice-map f false x m n e = e

pub find-map : {X Y : Type 0} (p : Y → Bool) (f : X → Y) (xs : List X) → find p (map f xs) ≡ option_map f (find (λ x. p (f x)) xs)
find-map p f [] = refl
find-map p f (x ∷ xs) = choice-map f (p (f x)) x (find p (map f xs)) (find (λ y. p (f y)) xs) (find-map p f xs)

-- no item passes
find-none : {X : Type 0} (p : X → Bool) (xs : List X) → ((k : ℕ) (d : X) → k < length xs → p (get_or xs k d) ≡ false) → find p xs ≡ None
find-none p [] h = refl
find-none p (x ∷ xs) h = rw (h 0 x (omega arith)) (find-none p xs (λ k d lt. h (suc k) d (omega (arith, lt))))

-- the item at a place passes, and none before it
find-first : {X : Type 0} (p : X → Bool) (xs : List X) (i : ℕ) (d : X) → i < length xs → ((k : ℕ) (e : X) → k < i → p (get_or xs k e) ≡ false) → p (get_or xs i d) ≡ true → Some (get_or xs i d) ≡ find p xs
find-first p [] i d lt h here = absurd (omega (arith, lt))
find-first p (x ∷ xs) zero d lt h here = rw here refl
find-first p (x ∷ xs) (suc i) d lt h here = rw (h 0 x (omega arith)) (find-first p xs i d (omega (arith, lt)) (λ k e le. h (suc k) e (omega (arith, le))) here)

module _ {H : Type 0} (n : ℕ) (xs : List (ℕ × H)) (i : ℕ) where
  -- the items before the place are those with smaller numbers
  abbrev pub Parts : Type 0
  Parts = IsPartitionPoint (λ (x : ℕ × H). ltb x.0 n ≡ true) (λ x. ltb x.0 n ≡ false) xs i

  smaller : Parts → (k : ℕ) (d : ℕ × H) → k < i → ((get_or xs k d).0 == n) ≡ false
  smaller parts k d lt = let l = parts.0 k d (omega arith) lt in grind (arith, nat_tests)

  pub none-behind : Parts → length xs ≤ i → None ≡ find (λ x. x.0 == n) xs
  none-behind parts e = sym (find-none (λ x. x.0 == n) xs (λ k d lt. smaller parts k d (omega (arith, e, lt))))

  pub found-there : (x : ℕ × H) → Parts → i < length xs → x ≡ get_or xs i x → (x.0 == n) ≡ true → Some x ≡ find (λ x. x.0 == n) xs
  found-there x parts lt is e = ap Some is ∙ find-first (λ x. x.0 == n) xs i x lt (smaller parts) (ap (λ y. y.0 == n) (sym is) ∙ e)

  greater : (x : ℕ × H) → Parts → IsNonDecreasingBy (λ x. x.0) xs → i < length xs → x ≡ get_or xs i x → (x.0 == n) ≡ false → (k : ℕ) (d : ℕ × H) → i ≤ k → k < length xs → ((get_or xs k d).0 == n) ≡ false
  greater x parts rising lt is e k d le below =
      let a : x.0 ≡ (get_or xs i d).0 = ap (λ (y : ℕ × H). y.0) (is ∙ get_or_default xs i x d lt) in
      let b : (get_or xs i d).0 ≤ (get_or xs k d).0 = rising i k d le below in
      let c : ltb (get_or xs i d).0 n ≡ false = parts.1 i d (omega arith) lt in
      grind (arith, nat_tests)

  pub none-there : (x : ℕ × H) → Parts → IsNonDecreasingBy (λ x. x.0) xs → i < length xs → x ≡ get_or xs i x → (x.0 == n) ≡ false → None ≡ find (λ x. x.0 == n) xs
  none-there x parts rising lt is e =
      sym (find-none (λ x. x.0 == n) xs (λ k d below. by_cases k d below (cases_lt k i)))
    where
      by_cases : (k : ℕ) (d : ℕ × H) → k < length xs → (k < i) ⊎ (i ≤ k) → ((get_or xs k d).0 == n) ≡ false
      by_cases k d below (inl l) = smaller parts k d l
      by_cases k d below (inr g) = greater x parts rising lt is e k d g below

-- one item more whose number is not below that of the last
pub rising-push : {H : Type 0} (xs : List (ℕ × H)) (n : ℕ) (h : H) (x : ℕ × H) → x ≡ get_or xs (length xs - 1) x → IsNonDecreasingBy (λ (y : ℕ × H). y.0) xs → leb x.0 n ≡ true → IsNonDecreasingBy (λ (y : ℕ × H). y.0) (xs ++ (n, h) ∷ [])
rising-push {H} xs n h x is rising le =
    IsNonDecreasingBy-push (λ (y : ℕ × H). y.0) xs (n, h) rising (λ d some. at d (get_or_default xs (length xs - 1) x d (omega (arith, some))))
  where
    at : (d : ℕ × H) → get_or xs (length xs - 1) x ≡ get_or xs (length xs - 1) d → (get_or xs (length xs - 1) d).0 ≤ n
    at d e = let a : x.0 ≡ (get_or xs (length xs - 1) d).0 = ap (λ (y : ℕ × H). y.0) (is ∙ e) in grind (arith, nat_tests)
