-- Whether a number is among numbers that rise, by the place to which the smaller ones reach.
use Rattle.std.proofs.Common.{◌≡◌, ℕ, zero, suc, ◌-◌, ◌<◌, ◌≤◌, List, [], ◌∷◌, ◌++◌, length, get_or, Bool, true, false, ◌==◌, ◌||◌, ltb, nat_eq, append_assoc, refl, sym, ◌∙◌, ap, arith, ◌⊎◌, inl, inr}
use Rattle.std.proofs.lemmas.Bool.{cases_lt}
use Rattle.std.proofs.lemmas.Bool.Decides.{nat_tests}
use Rattle.std.proofs.lemmas.List.{append-nil, get_or_default}
use Rattle.std.specs.List.{list_any}
use Rattle.std.specs.List.Sorted.{IsNonDecreasing, IsPartitionPoint}
use Rattle.indexmap.specs.IndexSet.{insert_key}
use Rattle.label_table.specs.Longer.{IsLonger}
use Rattle.derivation_branch.specs.Occurring.{holds}

none-holds : (n : ℕ) (xs : List ℕ) → ((k d : ℕ) → k < length xs → (n == get_or xs k d) ≡ false) → false ≡ holds xs n
none-holds n [] h = refl
none-holds n (x ∷ xs) h = rw (h 0 x (omega arith)) (none-holds n xs (λ k d lt. h (suc k) d (omega (arith, lt))))

or-one : (a b : Bool) → true ≡ b → true ≡ (a || b)
or-one true b e = refl
or-one false b e = e

one-holds : (n : ℕ) (xs : List ℕ) (i d : ℕ) → i < length xs → (n == get_or xs i d) ≡ true → true ≡ holds xs n
one-holds n [] i d lt e = absurd (omega (arith, lt))
one-holds n (x ∷ xs) zero d lt e = rw e refl
one-holds n (x ∷ xs) (suc i) d lt e = or-one (n == x) (holds xs n) (one-holds n xs i d (omega (arith, lt)) e)

module _ (n : ℕ) (xs : List ℕ) (i : ℕ) where
  -- the numbers before the place are the smaller ones
  abbrev pub Parts : Type 0
  Parts = IsPartitionPoint (λ (x : ℕ). ltb x n ≡ true) (λ x. ltb x n ≡ false) xs i

  smaller : Parts → (k d : ℕ) → k < i → (n == get_or xs k d) ≡ false
  smaller parts k d lt = let l = parts.0 k d (omega arith) lt in grind (arith, nat_tests)

  pub none-behind : Parts → length xs ≤ i → false ≡ holds xs n
  none-behind parts e = none-holds n xs (λ k d lt. smaller parts k d (omega (arith, e, lt)))

  greater : Parts → IsNonDecreasing xs → i < length xs → (get_or xs i 0 == n) ≡ false → (k d : ℕ) → i ≤ k → k < length xs → (n == get_or xs k d) ≡ false
  greater parts rising lt e k d le below =
      let a : get_or xs i 0 ≡ get_or xs i d = get_or_default xs i 0 d lt in
      let b : get_or xs i d ≤ get_or xs k d = rising i k d le below in
      let c : ltb (get_or xs i d) n ≡ false = parts.1 i d (omega arith) lt in
      grind (arith, nat_tests)

  -- the number at the place tells
  pub there : Parts → IsNonDecreasing xs → i < length xs → (get_or xs i 0 == n) ≡ holds xs n
  there parts rising lt = by (x == n) refl
    where
      x : ℕ
      x = get_or xs i 0

      by_cases : (x == n) ≡ false → (k d : ℕ) → k < length xs → (k < i) ⊎ (i ≤ k) → (n == get_or xs k d) ≡ false
      by_cases e k d below (inl l) = smaller parts k d l
      by_cases e k d below (inr g) = greater parts rising lt e k d g below

      by : (b : Bool) → (x == n) ≡ b → (x == n) ≡ holds xs n
      by true e = e ∙ one-holds n xs i 0 lt (grind (arith, nat_tests))
      by false e = e ∙ none-holds n xs (λ k d below. by_cases e k d below (cases_lt k i))

-- a number above the last one is above all
module _ (n : ℕ) (xs : List ℕ) (x : ℕ) (is : x ≡ get_or xs (length xs - 1) x) (above : ltb x n ≡ true) (rising : IsNonDecreasing xs) where
  last-below : (d : ℕ) → 0 < length xs → get_or xs (length xs - 1) d < n
  last-below d some = let a : x ≡ get_or xs (length xs - 1) d = is ∙ get_or_default xs (length xs - 1) x d (omega (arith, some)) in grind (arith, nat_tests)

  pub absent-above : holds xs n ≡ false
  absent-above = sym (none-holds n xs (λ k d lt.
      let l = last-below d (omega (arith, lt)) in
      let m : get_or xs k d ≤ get_or xs (length xs - 1) d = rising k (length xs - 1) d (omega (arith, lt)) (omega (arith, lt)) in
      grind (arith, nat_tests)))

-- one key more behind the numbers that rise, where it is new
pub longer-behind : (xs ks after now : List ℕ) (n : ℕ) → xs ++ ks ≡ now → after ≡ insert_key nat_eq ks n → IsLonger now (xs ++ after)
longer-behind xs ks after now n view e = by (list_any (λ y. nat_eq n y) ks) refl
  where
    by : (b : Bool) → b ≡ list_any (λ y. nat_eq n y) ks → IsLonger now (xs ++ after)
    by true h =
        let same : insert_key nat_eq ks n ≡ ks = rw (← h) refl in
        ([], ap (λ l. xs ++ l) (e ∙ same) ∙ view ∙ sym (append-nil now))
    by false h =
        let more : insert_key nat_eq ks n ≡ ks ++ n ∷ [] = rw (← h) refl in
        (n ∷ [], ap (λ l. xs ++ l) (e ∙ more) ∙ sym (append_assoc xs ks (n ∷ [])) ∙ ap (λ l. l ++ n ∷ []) view)
