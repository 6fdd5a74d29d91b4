-- Places in pages: what is read and written at a place of a page is read and written in the list.
use Rattle.std.proofs.Common.{◌≡◌, ℕ, ◌+◌, ◌*◌, ◌-◌, ◌<◌, ◌≤◌, zero, suc, max, List, [], ◌∷◌, ◌++◌, length, take, replicate, Some, refl, sym, ◌∙◌, ap, subst, arith, append-nil, length-append, ◌⊎◌, inl, inr}
use Rattle.std.proofs.Math.ListN.{set}
use Rattle.std.proofs.lemmas.Bool.{cases_lt}
use Rattle.std.specs.List.{slice_get}
use Rattle.cop_cells.specs.Pages.{joined, AreWritten, put_at}

none-added : (T : Type 0) (c : ℕ) → AreWritten {T = T} 0 (replicate c [])
none-added T zero = refl
none-added T (suc c) = (omega arith, none-added T c)

empty-joined : (T : Type 0) (c : ℕ) → joined {T = T} (replicate c []) ≡ []
empty-joined T zero = refl
empty-joined T (suc c) = empty-joined T c

module _ {T : Type 0} where
  get-left : (p q : List T) (o : ℕ) → o < length p → slice_get (p ++ q) o ≡ slice_get p o
  get-left [] q o h = absurd (omega (arith, h))
  get-left (x ∷ p) q zero h = refl
  get-left (x ∷ p) q (suc o) h = get-left p q o (omega arith)

  get-right : (p q : List T) (m j : ℕ) → length p ≡ m → slice_get (p ++ q) (m + j) ≡ slice_get q j
  get-right [] q m j e = ap (slice_get q) (omega arith)
  get-right (x ∷ p) q zero j e = absurd (omega (arith, e))
  get-right (x ∷ p) q (suc m) j e =
      ap (slice_get (x ∷ (p ++ q))) (let f : suc m + j ≡ suc (m + j) = omega arith in f)
      ∙ get-right p q m j (omega (arith, e))

  put-left : (p q : List T) (o : ℕ) (x : T) → o < length p → put_at p o x ++ q ≡ put_at (p ++ q) o x
  put-left [] q o x h = absurd (omega (arith, h))
  put-left (y ∷ p) q zero x h = refl
  put-left (y ∷ p) q (suc o) x h = ap (λ r. y ∷ r) (put-left p q o x (omega (arith, h)))

  put-right : (p q : List T) (m j : ℕ) (x : T) → length p ≡ m
      → p ++ put_at q j x ≡ put_at (p ++ q) (m + j) x
  put-right [] q m j x e = ap (λ i. put_at q i x) (omega (arith, e))
  put-right (y ∷ p) q zero j x e = absurd (omega (arith, e))
  put-right (y ∷ p) q (suc m) j x e =
      ap (λ r. y ∷ r) (put-right p q m j x (omega (arith, e)))
      ∙ sym (ap (λ i. put_at (y ∷ (p ++ q)) i x)
      (let f : suc m + j ≡ suc (m + j) = omega arith in f))

  pub put_at-set : (xs : List T) (i : ℕ) (x : T) → i < length xs → put_at xs i x ≡ set xs i x
  put_at-set [] i x h = absurd (omega (arith, h))
  put_at-set (y ∷ ys) zero x h = refl
  put_at-set (y ∷ ys) (suc i) x h = ap (λ r. y ∷ r) (put_at-set ys i x (omega (arith, h)))

  length-put_at : (xs : List T) (i : ℕ) (x : T) → i ≤ length xs
      → length (put_at xs i x) ≡ max (length xs) (suc i)
  length-put_at [] i x h = omega (arith, h)
  length-put_at (y ∷ ys) zero x h = omega arith
  length-put_at (y ∷ ys) (suc i) x h = omega (arith, length-put_at ys i x (omega (arith, h)))

  take-put_at : (xs : List T) (i : ℕ) (x : T) → i ≤ length xs
      → take (suc i) (put_at xs i x) ≡ take i xs ++ x ∷ []
  take-put_at [] zero x h = refl
  take-put_at [] (suc i) x h = absurd (omega (arith, h))
  take-put_at (y ∷ ys) zero x h = refl
  take-put_at (y ∷ ys) (suc i) x h = ap (λ r. y ∷ r) (take-put_at ys i x (omega (arith, h)))

  pub take-pushed : (xs : List T) (i n : ℕ) (x : T) → n ≡ i + 1 → i ≤ length xs
      → take n (put_at xs i x) ≡ take i xs ++ x ∷ []
  take-pushed xs i n x e h =
      ap (λ k. take k (put_at xs i x)) (let f : n ≡ suc i = omega (arith, e) in f)
      ∙ take-put_at xs i x h

  pub get-taken : (xs : List T) (n i : ℕ) → i < n → slice_get (take n xs) i ≡ slice_get xs i
  get-taken [] zero i h = refl
  get-taken [] (suc n) i h = refl
  get-taken (x ∷ xs) zero i h = absurd (omega (arith, h))
  get-taken (x ∷ xs) (suc n) zero h = refl
  get-taken (x ∷ xs) (suc n) (suc i) h = get-taken xs n i (omega (arith, h))

  -- as many cells are written as the pages have together
  pub written-length : (n : ℕ) (ps : List (List T)) → AreWritten n ps → length (joined ps) ≡ n
  written-length n [] w = sym w
  written-length n (p ∷ ps) w =
      omega (arith, length-append p (joined ps), w.0, written-length (n - 4096) ps w.1)

  -- there is a cell for each
  pub written-fits : (n : ℕ) (ps : List (List T)) → AreWritten n ps → n ≤ length ps * 4096
  written-fits n [] w = omega (arith, w)
  written-fits n (p ∷ ps) w = omega (arith, written-fits (n - 4096) ps w.1)

  none-written : (ps : List (List T)) → AreWritten 0 ps → joined ps ≡ []
  none-written [] w = refl
  none-written ([] ∷ ps) w = none-written ps w.1
  none-written ((x ∷ p) ∷ ps) w = absurd (omega (arith, w.0))

  -- a page has its part of the cells
  pub place-within : (n : ℕ) (ps : List (List T)) (k o : ℕ) (page : List T) → AreWritten n ps
      → slice_get ps k ≡ Some page → o < 4096 → k * 4096 + o < n → o < length page
  place-within n [] k o page w g h i = absurd (omega (arith, w, i))
  place-within n (p ∷ ps) zero o page w g h i =
      let e : p ≡ page = cc in omega (arith, w.0, ap length e, h, i)
  place-within n (p ∷ ps) (suc k) o page w g h i =
      place-within (n - 4096) ps k o page w.1 g h (omega (arith, i))

  -- or can have the next one
  pub place-next : (n : ℕ) (ps : List (List T)) (k o : ℕ) (page : List T) → AreWritten n ps
      → slice_get ps k ≡ Some page → o < 4096 → k * 4096 + o ≤ n → o ≤ length page
  place-next n [] k o page w g h i = absurd cc
  place-next n (p ∷ ps) zero o page w g h i =
      let e : p ≡ page = cc in omega (arith, w.0, ap length e, h, i)
  place-next n (p ∷ ps) (suc k) o page w g h i =
      place-next (n - 4096) ps k o page w.1 g h (omega (arith, i))

  pub place-read : (n : ℕ) (ps : List (List T)) (k o : ℕ) (page : List T) → AreWritten n ps
      → slice_get ps k ≡ Some page → o < 4096 → k * 4096 + o < n
      → slice_get (joined ps) (k * 4096 + o) ≡ slice_get page o
  place-read n [] k o page w g h i = absurd (omega (arith, w, i))
  place-read n (p ∷ ps) zero o page w g h i =
      let e : p ≡ page = cc in
      let f : zero * 4096 + o ≡ o = omega arith in
      ap (slice_get (p ++ joined ps)) f ∙ get-left p (joined ps) o (omega (arith, w.0, h, i)) ∙ ap
      (λ q. slice_get q o) e
  place-read n (p ∷ ps) (suc k) o page w g h i =
      let f : suc k * 4096 + o ≡ 4096 + (k * 4096 + o) = omega arith in
      ap (slice_get (p ++ joined ps)) f ∙ get-right p (joined ps) 4096 (k * 4096 + o)
      (omega (arith, w.0, i))
      ∙ place-read (n - 4096) ps k o page w.1 g h (omega (arith, i))

  put-last : (p q : List T) (o : ℕ) (x : T) → (o < length p) ⊎ (q ≡ [])
      → put_at p o x ++ q ≡ put_at (p ++ q) o x
  put-last p q o x (inl h) = put-left p q o x h
  put-last p q o x (inr e) =
      ap (λ r. put_at p o x ++ r) e ∙ append-nil (put_at p o x) ∙ ap (λ r. put_at r o x)
      (sym (append-nil p) ∙ ap (λ r. p ++ r) (sym e))

  pub place-put : (n : ℕ) (ps : List (List T)) (k o : ℕ) (page : List T) (x : T) → AreWritten n ps
      → slice_get ps k ≡ Some page → o < 4096 → k * 4096 + o ≤ n
      → joined (set ps k (put_at page o x)) ≡ put_at (joined ps) (k * 4096 + o) x
  place-put n [] k o page x w g h i = absurd cc
  place-put n (p ∷ ps) zero o page x w g h i =
      let e : p ≡ page = cc in
      let f : zero * 4096 + o ≡ o = omega arith in
      let rest : (o < length p) ⊎ (joined ps ≡ []) = elim (cases_lt o (length p)) [
        | inl l ↦ inl l
        | inr l ↦ inr (none-written ps
            (subst (λ r. AreWritten r ps)
            (let z : n - 4096 ≡ 0 = omega (arith, w.0, l, h, i) in z) w.1))
      ] in
      ap (λ q. put_at q o x ++ joined ps) (sym e) ∙ put-last p (joined ps) o x rest ∙ ap
      (λ j. put_at (p ++ joined ps) j x) (sym f)
  place-put n (p ∷ ps) (suc k) o page x w g h i =
      let f : suc k * 4096 + o ≡ 4096 + (k * 4096 + o) = omega arith in
      ap (λ r. p ++ r) (place-put (n - 4096) ps k o page x w.1 g h (omega (arith, i)))
      ∙ put-right p (joined ps) 4096 (k * 4096 + o) x (omega (arith, w.0, i))
      ∙ ap (λ j. put_at (p ++ joined ps) j x) (sym f)

  pub written-put : (n m : ℕ) (ps : List (List T)) (k o : ℕ) (page : List T) (x : T)
      → AreWritten n ps → slice_get ps k ≡ Some page → o < 4096 → k * 4096 + o ≤ n
      → m ≡ max n (suc (k * 4096 + o)) → AreWritten m (set ps k (put_at page o x))
  written-put n m [] k o page x w g h i e = absurd cc
  written-put n m (p ∷ ps) zero o page x w g h i e =
      let s : p ≡ page = cc in
      let l = length-put_at page o x (omega (arith, w.0, ap length s, h, i)) in (
        omega (arith, l, w.0, ap length s, h, i, e),
        subst (λ r. AreWritten r ps)
            (let f : n - 4096 ≡ m - 4096 = omega (arith, e, h) in f) w.1,
      )
  written-put n m (p ∷ ps) (suc k) o page x w g h i e = (
    omega (arith, w.0, i, e),
    written-put (n - 4096) (m - 4096) ps k o page x w.1 g h
        (omega (arith, i)) (omega (arith, i, e)),
  )

  pub written-more : (n c : ℕ) (ps : List (List T)) → AreWritten n ps
      → AreWritten n (ps ++ replicate c [])
  written-more n c [] w = subst (λ m. AreWritten {T = T} m (replicate c [])) (sym w)
      (none-added T c)
  written-more n c (p ∷ ps) w = (w.0, written-more (n - 4096) c ps w.1)

  pub joined-more : (c : ℕ) (ps : List (List T)) → joined (ps ++ replicate c []) ≡ joined ps
  joined-more c [] = empty-joined T c
  joined-more c (p ∷ ps) = ap (λ r. p ++ r) (joined-more c ps)
