-- How many cells are met on the way through a cell, for loops that walk through a store: each cell weighs more than its parts together.
use Rattle.std.proofs.Common.{◌+◌, ◌++◌, inl, inr, eqb-true, eq-eqb, ◌<◌, nat_lt, ltb-true, Some, ◌==◌, ◌≡◌, ℕ, zero, suc, ◌≤◌, List, [], ◌∷◌, length, Bool, true, false, Option, None, IsTrue, refl, sym, ◌∙◌, ap, ap₂, arith, if◌then◌else◌}
use Rattle.std.specs.Option.{option_map_or}
use Rattle.std.specs.Prelude.{slice_get}
use Rattle.std.proofs.lemmas.Bool.{cases_Bool, false≢true}
use Rattle.plain_laws.proofs.Numbers.{less-test}
use Rattle.calculus.specs.declared.sort.Sort.{Sort}
use Rattle.store_theory.specs.Stores.{is_store, parts_of, Cell, variable, fun_cell, eigen_cell, new_cell, string_cell, Store}
use Rattle.store_theory.specs.Bindings.{bind_at, IsRanked, HasRank, IsWellFormed}
use Rattle.store_theory.proofs.BindingLaws.{kept, parts-within}

-- ---- ranks that are no greater than the number of cells

count_below : (ℕ → Bool) → ℕ → ℕ
count_below p zero = 0
count_below p (suc n) = if p n then suc (count_below p n) else count_below p n

count-most : (p : ℕ → Bool) (n : ℕ) → count_below p n ≤ n
unfolding count_below
count-most p zero = omega arith
count-most p (suc n) = by (p n) (count-most p n)
  where
    by : (b : Bool) → count_below p n ≤ n → (if b then suc (count_below p n) else count_below p n) ≤ suc n
    by true h = omega arith
    by false h = omega arith

count-less : (p q : ℕ → Bool) (n : ℕ) → ((k : ℕ) → p k ≡ true → q k ≡ true) → count_below p n ≤ count_below q n
unfolding count_below
count-less p q zero h = omega arith
count-less p q (suc n) h = by (p n) (q n) (h n) (count-less p q n h)
  where
    by : (a b : Bool) → (a ≡ true → b ≡ true) → count_below p n ≤ count_below q n → (if a then suc (count_below p n) else count_below p n) ≤ (if b then suc (count_below q n) else count_below q n)
    by true true i l = omega arith
    by true false i l = absurd (false≢true (i refl))
    by false true i l = omega arith
    by false false i l = l

count-fewer : (p q : ℕ → Bool) (n j : ℕ) → ((k : ℕ) → p k ≡ true → q k ≡ true) → j < n → p j ≡ false → q j ≡ true → count_below p n < count_below q n
unfolding count_below
count-fewer p q zero j h l a b = absurd (omega arith)
count-fewer p q (suc n) j h l a b = elim (cases_Bool (j == n)) [
  | inl e ↦
      let same = eqb-true j n e in
      let m = count-less p q n h in
      let a' : p n ≡ false = ap p (sym same) ∙ a in
      let b' : q n ≡ true = ap q (sym same) ∙ b in
      rw (a', b') (omega arith)
  | inr e ↦
      let other : j < n = elim (cases_Bool (j == n)) [ inl t ↦ absurd (false≢true (sym e ∙ t)) | inr f ↦ below j n l (λ q. false≢true (sym e ∙ eq-eqb j n q)) ] in
      by (p n) (q n) (h n) (count-fewer p q n j h other a b)
]
  where
    below : (j n : ℕ) → j < suc n → ¬ (j ≡ n) → j < n
    below j n l k = omega arith

    by : (a b : Bool) → (a ≡ true → b ≡ true) → count_below p n < count_below q n → (if a then suc (count_below p n) else count_below p n) < (if b then suc (count_below q n) else count_below q n)
    by true true i l = omega arith
    by true false i l = absurd (false≢true (i refl))
    by false true i l = omega arith
    by false false i l = l

level : (ℕ → ℕ) → ℕ → ℕ → ℕ
level rank n r = count_below (λ k. nat_lt (rank k) (rank r)) n

level-ranked : (s : Store) (rank : ℕ → ℕ) → IsTrue (is_store s) → IsRanked s rank → IsRanked s (level rank (length s.cells))
unfolding level
level-ranked s rank h ranked i r k c e p =
    let l = ranked i r k c e p in
    count-fewer (λ j. nat_lt (rank j) (rank k)) (λ j. nat_lt (rank j) (rank r)) (length s.cells) k
    (λ j t. let m = ltb-true (rank j) (rank k) t in less-test (rank j) (rank r) (omega arith))
    (parts-within s c i k ((kept s h).fits r c e) p)
    (elim (cases_Bool (nat_lt (rank k) (rank k))) [ inl t ↦ absurd (let m = ltb-true (rank k) (rank k) t in omega arith) | inr f ↦ f ])
    (less-test (rank k) (rank r) l)

-- ---- weights

weights : (ℕ → ℕ) → List ℕ → ℕ
weights w [] = 0
weights w (r ∷ rs) = w r + weights w rs

parts_there : Store → ℕ → List ℕ
parts_there s r = option_map_or parts_of (slice_get s.cells r) []

weight_by : ℕ → Store → ℕ → ℕ
weight_by zero s r = 1
weight_by (suc n) s r = suc (weights (weight_by n s) (parts_there s r))

pub weight : Store → ℕ → ℕ
weight s r = weight_by (suc (length s.cells)) s r

pub weight_sum : Store → List ℕ → ℕ
weight_sum s rs = weights (weight s) rs

weights-follow : (w u : ℕ → ℕ) (rs : List ℕ) → ((i k : ℕ) → slice_get rs i ≡ Some k → w k ≡ u k) → weights w rs ≡ weights u rs
unfolding weights
weights-follow w u [] h = refl
weights-follow w u (r ∷ rs) h = ap₂ ◌+◌ (h 0 r refl) (weights-follow w u rs (λ i k e. h (suc i) k e))

weight_by-enough : (s : Store) (rank : ℕ → ℕ) → IsRanked s rank → (n m r : ℕ) → rank r < n → rank r < m → weight_by n s r ≡ weight_by m s r
unfolding weight_by parts_there
weight_by-enough s rank h zero m r l k = absurd (omega arith)
weight_by-enough s rank h (suc n) zero r l k = absurd (omega arith)
weight_by-enough s rank h (suc n) (suc m) r l k = ap suc (by (λ q. weight_by-enough s rank h n m q) (slice_get s.cells r) refl)
  where
    by : ((q : ℕ) → rank q < n → rank q < m → weight_by n s q ≡ weight_by m s q) → (o : Option Cell) → slice_get s.cells r ≡ o → weights (weight_by n s) (option_map_or parts_of o []) ≡ weights (weight_by m s) (option_map_or parts_of o [])
    by below None e = weights-follow (weight_by n s) (weight_by m s) [] (λ i k p. absurd (cc))
    by below (Some c) e = weights-follow (weight_by n s) (weight_by m s) (parts_of c) (λ i q p. let a = h i r q c e p in below q (omega arith) (omega arith))

-- a cell weighs one more than its parts together
pub weight-parts : (s : Store) → IsTrue (is_store s) → HasRank s → (r : ℕ) (c : Cell) → slice_get s.cells r ≡ Some c → weight s r ≡ suc (weight_sum s (parts_of c))
unfolding weight weight_sum weight_by parts_there
weight-parts s k (rank, h) r c e =
    let low = level rank (length s.cells) in
    let ranked : IsRanked s (level rank (length s.cells)) = level-ranked s rank k h in
    ap suc (ap (λ o. weights (weight_by (length s.cells) s) (option_map_or parts_of o [])) e
    ∙ weights-follow (weight_by (length s.cells) s) (weight_by (suc (length s.cells)) s) (parts_of c) (λ i q p.
    let a = ranked i r q c e p in
    let b = level-most rank (length s.cells) r in
    weight_by-enough s (level rank (length s.cells)) ranked (length s.cells) (suc (length s.cells)) q (omega arith) (omega arith)))
  where
    level-most : (rank : ℕ → ℕ) (n r : ℕ) → level rank n r ≤ n
    level-most rank n r = unfold level in count-most (λ k. nat_lt (rank k) (rank r)) n

pub weight-positive : (s : Store) (r : ℕ) → 0 < weight s r
unfolding weight weight_by
weight-positive s r = omega arith

pub weight_sum-none : (s : Store) → weight_sum s [] ≡ 0
unfolding weight_sum weights
weight_sum-none s = refl

pub weight_sum-more : (s : Store) (r : ℕ) (rs : List ℕ) → weight_sum s (r ∷ rs) ≡ weight s r + weight_sum s rs
unfolding weight_sum weights
weight_sum-more s r rs = refl

pub weight_sum-append : (s : Store) (rs qs : List ℕ) → weight_sum s (rs ++ qs) ≡ weight_sum s rs + weight_sum s qs
weight_sum-append s [] qs = rw (weight_sum-none s) (omega arith)
weight_sum-append s (r ∷ rs) qs = let h = weight_sum-append s rs qs in rw (weight_sum-more s r (rs ++ qs), weight_sum-more s r rs) (omega arith)

-- ---- how many variables are unbound

is_open : Cell → Bool
is_open (variable sort None) = true
is_open _ = false

pub open_count : List Cell → ℕ
open_count [] = 0
open_count (c ∷ cs) = (if is_open c then 1 else 0) + open_count cs

pub open_count-bind : (v r : ℕ) (sort : Sort) (cs : List Cell) → slice_get cs v ≡ Some (variable sort None) → suc (open_count (bind_at v r cs)) ≡ open_count cs
unfolding open_count is_open
open_count-bind v r sort [] e = absurd (cc)
open_count-bind zero r sort (variable t None ∷ cs) e = omega arith
open_count-bind zero r sort (variable t (Some k) ∷ cs) e = absurd (cc)
open_count-bind zero r sort (fun_cell f rs ∷ cs) e = absurd (cc)
open_count-bind zero r sort (eigen_cell f rs ∷ cs) e = absurd (cc)
open_count-bind zero r sort (new_cell f rs ∷ cs) e = absurd (cc)
open_count-bind zero r sort (string_cell rs ∷ cs) e = absurd (cc)
open_count-bind (suc v) r sort (c ∷ cs) e = let h = open_count-bind v r sort cs e in omega arith

-- a bound cell weighs more than what it is bound to
pub weight-bound : (s : Store) → IsWellFormed s → (r k : ℕ) (sort : Sort) → slice_get s.cells r ≡ Some (variable sort (Some k)) → weight s k < weight s r
weight-bound s w r k sort e =
    let a = weight-parts s w.fits w.rank r (variable sort (Some k)) e in
    let b = weight_sum-more s k [] in
    let d = weight_sum-none s in
    omega arith
