-- Cuts of a store: an earlier cut of a later cut is the earlier cut of the store, and earlier marks stay good.
use Rattle.std.proofs.Common.{not, ◌&&◌, ◌+◌, ◌++◌, inl, inr, eqb-true, eq-eqb, ◌<◌, option_map, nat_lt, ltb-true, Some, ◌||◌, ◌==◌, ◌≡◌, ℕ, zero, suc, ◌≤◌, List, [], ◌∷◌, length, take, Bool, true, false, Option, None, IsTrue, refl, sym, ◌∙◌, ap, ap₂, subst, arith, if◌then◌else◌}
use Rattle.std.specs.List.{list_all}
use Rattle.std.specs.Option.{option_map_or}
use Rattle.std.specs.Prelude.{slice_get}
use Rattle.std.proofs.lemmas.Bool.{cases_Bool, or_from, false≢true, and_parts, and_from}
use Rattle.plain_laws.proofs.Every.{all-take}
use Rattle.plain_laws.proofs.Places.{take-less}
use Rattle.calculus.specs.declared.sort.Sort.{Sort}
use Rattle.calculus.specs.declared.sort.Sort.TheVariants.{TermSort, MarkSort, StringSort}
use Rattle.calculus.specs.Equality.{contains, sort_eq}
use Rattle.store_theory.specs.Bindings.{IsEarlier}
use Rattle.store_theory.specs.Stores.{is_store, trail_fits, are_distinct_cells, bound_cells, is_bound, sort_of, sort_at, has_sort_at, parts_of, parts_fit, names_below, Cell, variable, fun_cell, eigen_cell, new_cell, string_cell, Store, TrailMark, cells_bound_by, cut_at, store_is_below, IsGood}

pub length-less : {A : Type 0} (a b : ℕ) (xs : List A) → a ≤ b → a ≤ length xs → a ≤ length (take b xs)
length-less zero b xs h k = omega arith
length-less (suc a) zero xs h k = absurd (omega arith)
length-less (suc a) (suc b) [] h k = k
length-less (suc a) (suc b) (x ∷ xs) h k = let r = length-less a b xs (omega arith) (omega arith) in omega arith

or-step : (p q r : Bool) → (q ≡ true → r ≡ true) → (p || q) ≡ true → (p || r) ≡ true
or-step true q r k h = refl
or-step false q r k h = k h

pub contains-take : (a : ℕ) (xs : List ℕ) (x : ℕ) → IsTrue (contains (take a xs) x) → IsTrue (contains xs x)
contains-take zero xs x h = absurd (false≢true h)
contains-take (suc a) [] x h = h
contains-take (suc a) (y ∷ ys) x h = or-step (y == x) (contains (take a ys) x) (contains ys x) (contains-take a ys x) h

-- a binding that is kept twice is kept
kept-twice : (p q : Bool) (o : Option ℕ) → (p ≡ true → q ≡ true) → (if p then (if q then o else None) else None) ≡ (if p then o else None)
kept-twice true q o h = rw (h refl) refl
kept-twice false q o h = refl

bound-twice : (t u : List ℕ) → ((k : ℕ) → IsTrue (contains t k) → IsTrue (contains u k)) → (n b : ℕ) (cs : List Cell) → cells_bound_by t n (take b (cells_bound_by u n cs)) ≡ cells_bound_by t n (take b cs)
bound-twice t u h n zero cs = refl
bound-twice t u h n (suc b) [] = refl
bound-twice t u h n (suc b) (variable s o ∷ cs) = ap₂ ◌∷◌ (ap (variable s) (kept-twice (contains t n) (contains u n) o (h n))) (bound-twice t u h (suc n) b cs)
bound-twice t u h n (suc b) (fun_cell f rs ∷ cs) = ap (λ ds. fun_cell f rs ∷ ds) (bound-twice t u h (suc n) b cs)
bound-twice t u h n (suc b) (eigen_cell f rs ∷ cs) = ap (λ ds. eigen_cell f rs ∷ ds) (bound-twice t u h (suc n) b cs)
bound-twice t u h n (suc b) (new_cell f rs ∷ cs) = ap (λ ds. new_cell f rs ∷ ds) (bound-twice t u h (suc n) b cs)
bound-twice t u h n (suc b) (string_cell rs ∷ cs) = ap (λ ds. string_cell rs ∷ ds) (bound-twice t u h (suc n) b cs)

pub length-bound : (t : List ℕ) (n : ℕ) (cs : List Cell) → length (cells_bound_by t n cs) ≡ length cs
length-bound t n [] = refl
length-bound t n (variable s o ∷ cs) = ap suc (length-bound t (suc n) cs)
length-bound t n (fun_cell f rs ∷ cs) = ap suc (length-bound t (suc n) cs)
length-bound t n (eigen_cell f rs ∷ cs) = ap suc (length-bound t (suc n) cs)
length-bound t n (new_cell f rs ∷ cs) = ap suc (length-bound t (suc n) cs)
length-bound t n (string_cell rs ∷ cs) = ap suc (length-bound t (suc n) cs)

pub cut_at-cut_at : (k m : TrailMark) (s : Store) → IsEarlier k m → cut_at k (cut_at m s) ≡ cut_at k s
cut_at-cut_at k m s h = λ i. record { cells = cells i; trail = trail i }
  where
    trail : take k.entries (take m.entries s.trail) ≡ take k.entries s.trail
    trail = take-less k.entries m.entries s.trail h.entries

    cells : cells_bound_by (take k.entries (take m.entries s.trail)) 0 (take k.cells (cells_bound_by (take m.entries s.trail) 0 (take m.cells s.cells))) ≡ cells_bound_by (take k.entries s.trail) 0 (take k.cells s.cells)
    cells = bound-twice (take k.entries (take m.entries s.trail)) (take m.entries s.trail) (contains-take k.entries (take m.entries s.trail)) 0 k.cells (take m.cells s.cells) ∙ ap₂ (λ t cs. cells_bound_by t 0 cs) trail (take-less k.cells m.cells s.cells h.cells)

-- an earlier good mark stays good for the cut, with its cut
pub IsGood-cut_at : (k m : TrailMark) (s : Store) → IsEarlier k m → IsGood k s → IsGood k (cut_at m s)
IsGood-cut_at k m s h g = record {
  cells = let n = length-bound (take m.entries s.trail) 0 (take m.cells s.cells) in let l = length-less k.cells m.cells s.cells h.cells g.cells in omega (arith, n, l);
  entries = length-less k.entries m.entries s.trail h.entries g.entries;
  closed = subst (λ c. IsTrue (store_is_below k.cells c)) (sym (cut_at-cut_at k m s h)) g.closed;
}

-- ---- the cut of a good mark is a store

-- a cut keeps the sorts of the cells that it keeps
sort-bound : (t : List ℕ) (n k r : ℕ) (cs : List Cell) → r < k → option_map sort_of (slice_get (cells_bound_by t n (take k cs)) r) ≡ option_map sort_of (slice_get cs r)
sort-bound t n zero r cs h = absurd (omega arith)
sort-bound t n (suc k) r [] h = refl
sort-bound t n (suc k) zero (variable s o ∷ cs) h = refl
sort-bound t n (suc k) zero (fun_cell f rs ∷ cs) h = refl
sort-bound t n (suc k) zero (eigen_cell f rs ∷ cs) h = refl
sort-bound t n (suc k) zero (new_cell f rs ∷ cs) h = refl
sort-bound t n (suc k) zero (string_cell rs ∷ cs) h = refl
sort-bound t n (suc k) (suc r) (variable s o ∷ cs) h = sort-bound t (suc n) k r cs (omega arith)
sort-bound t n (suc k) (suc r) (fun_cell f rs ∷ cs) h = sort-bound t (suc n) k r cs (omega arith)
sort-bound t n (suc k) (suc r) (eigen_cell f rs ∷ cs) h = sort-bound t (suc n) k r cs (omega arith)
sort-bound t n (suc k) (suc r) (new_cell f rs ∷ cs) h = sort-bound t (suc n) k r cs (omega arith)
sort-bound t n (suc k) (suc r) (string_cell rs ∷ cs) h = sort-bound t (suc n) k r cs (omega arith)

sort_at-cut_at : (m : TrailMark) (s : Store) (r : ℕ) → r < m.cells → sort_at (cut_at m s) r ≡ sort_at s r
sort_at-cut_at m s r h = sort-bound (take m.entries s.trail) 0 m.cells r s.cells h

-- what holds of references by their sorts holds in the cut
refs-cut : (m : TrailMark) (s : Store) (p : Option Sort → Bool) (rs : List ℕ) → IsTrue (list_all (λ r. p (sort_at s r)) rs) → IsTrue (names_below m.cells rs) → IsTrue (list_all (λ r. p (sort_at (cut_at m s) r)) rs)
refs-cut m s p [] h g = refl
refs-cut m s p (r ∷ rs) h g =
    let a = and_parts (p (sort_at s r)) (list_all (λ k. p (sort_at s k)) rs) h in
    let b = and_parts (nat_lt r m.cells) (names_below m.cells rs) g in
    and_from (p (sort_at (cut_at m s) r)) (list_all (λ k. p (sort_at (cut_at m s) k)) rs) (ap p (sort_at-cut_at m s r (ltb-true r m.cells b.0)) ∙ a.0) (refs-cut m s p rs a.1 b.1)

fits-bound : (m : TrailMark) (s : Store) (t : List ℕ) (n : ℕ) (cs : List Cell) → IsTrue (list_all (parts_fit s) cs) → IsTrue (list_all (λ c. names_below m.cells (parts_of c)) (cells_bound_by t n cs)) → IsTrue (list_all (parts_fit (cut_at m s)) (cells_bound_by t n cs))
fits-bound m s t n [] h g = refl
fits-bound m s t n (variable sort o ∷ cs) h g =
    let a = and_parts (parts_fit s (variable sort o)) (list_all (parts_fit s) cs) h in
    let kept = variable sort (if contains t n then o else None) in
    let b = and_parts (names_below m.cells (parts_of kept)) (list_all (λ c. names_below m.cells (parts_of c)) (cells_bound_by t (suc n) cs)) g in
    and_from (parts_fit (cut_at m s) kept) (list_all (parts_fit (cut_at m s)) (cells_bound_by t (suc n) cs)) (one (contains t n) o a.0 b.0) (fits-bound m s t (suc n) cs a.1 b.1)
  where
    one : (p : Bool) (q : Option ℕ) → IsTrue (parts_fit s (variable sort q)) → IsTrue (names_below m.cells (parts_of (variable sort (if p then q else None)))) → IsTrue (parts_fit (cut_at m s) (variable sort (if p then q else None)))
    one false q i j = refl
    one true None i j = refl
    one true (Some r) i j = (and_parts (has_sort_at (cut_at m s) sort r) true (refs-cut m s (λ w. option_map_or (sort_eq sort) w false) (r ∷ []) (and_from (has_sort_at s sort r) true i refl) j)).0
fits-bound m s t n (fun_cell f rs ∷ cs) h g =
    let a = and_parts (parts_fit s (fun_cell f rs)) (list_all (parts_fit s) cs) h in
    let b = and_parts (names_below m.cells rs) (list_all (λ c. names_below m.cells (parts_of c)) (cells_bound_by t (suc n) cs)) g in
    and_from (parts_fit (cut_at m s) (fun_cell f rs)) (list_all (parts_fit (cut_at m s)) (cells_bound_by t (suc n) cs)) (refs-cut m s (λ w. option_map_or (sort_eq TermSort) w false) rs a.0 b.0) (fits-bound m s t (suc n) cs a.1 b.1)
fits-bound m s t n (eigen_cell f rs ∷ cs) h g =
    let a = and_parts (parts_fit s (eigen_cell f rs)) (list_all (parts_fit s) cs) h in
    let b = and_parts (names_below m.cells rs) (list_all (λ c. names_below m.cells (parts_of c)) (cells_bound_by t (suc n) cs)) g in
    and_from (parts_fit (cut_at m s) (eigen_cell f rs)) (list_all (parts_fit (cut_at m s)) (cells_bound_by t (suc n) cs)) (refs-cut m s (λ w. option_map_or (sort_eq TermSort) w false || option_map_or (sort_eq StringSort) w false) rs a.0 b.0) (fits-bound m s t (suc n) cs a.1 b.1)
fits-bound m s t n (new_cell f rs ∷ cs) h g =
    let a = and_parts (parts_fit s (new_cell f rs)) (list_all (parts_fit s) cs) h in
    let b = and_parts (names_below m.cells rs) (list_all (λ c. names_below m.cells (parts_of c)) (cells_bound_by t (suc n) cs)) g in
    and_from (parts_fit (cut_at m s) (new_cell f rs)) (list_all (parts_fit (cut_at m s)) (cells_bound_by t (suc n) cs)) (refs-cut m s (λ w. option_map_or (sort_eq TermSort) w false || option_map_or (sort_eq StringSort) w false) rs a.0 b.0) (fits-bound m s t (suc n) cs a.1 b.1)
fits-bound m s t n (string_cell rs ∷ cs) h g =
    let a = and_parts (parts_fit s (string_cell rs)) (list_all (parts_fit s) cs) h in
    let b = and_parts (names_below m.cells rs) (list_all (λ c. names_below m.cells (parts_of c)) (cells_bound_by t (suc n) cs)) g in
    and_from (parts_fit (cut_at m s) (string_cell rs)) (list_all (parts_fit (cut_at m s)) (cells_bound_by t (suc n) cs)) (refs-cut m s (λ w. option_map_or (sort_eq MarkSort) w false) rs a.0 b.0) (fits-bound m s t (suc n) cs a.1 b.1)

pub parts_fit-cut_at : (m : TrailMark) (s : Store) → IsTrue (list_all (parts_fit s) s.cells) → IsGood m s → IsTrue (list_all (parts_fit (cut_at m s)) (cut_at m s).cells)
parts_fit-cut_at m s h g = fits-bound m s (take m.entries s.trail) 0 (take m.cells s.cells) (all-take (parts_fit s) m.cells s.cells h) (and_parts (list_all (λ c. names_below m.cells (parts_of c)) (cut_at m s).cells) (names_below m.cells (cut_at m s).trail) g.closed).0

-- the trail

not-step : (p q : Bool) → (p ≡ true → q ≡ true) → not q ≡ true → not p ≡ true
not-step true q k h = absurd (false≢true (sym (ap not (k refl)) ∙ h))
not-step false q k h = refl

pub distinct-take : (k : ℕ) (rs : List ℕ) → IsTrue (are_distinct_cells rs) → IsTrue (are_distinct_cells (take k rs))
distinct-take zero rs h = refl
distinct-take (suc k) [] h = refl
distinct-take (suc k) (r ∷ rs) h =
    let a = and_parts (not (contains rs r)) (are_distinct_cells rs) h in
    and_from (not (contains (take k rs) r)) (are_distinct_cells (take k rs)) (not-step (contains (take k rs) r) (contains rs r) (contains-take k rs r) a.0) (distinct-take k rs a.1)

-- the bound cells of a cut are on its trail
on-trail : (t : List ℕ) (n : ℕ) (cs : List Cell) → IsTrue (list_all (contains t) (bound_cells n (cells_bound_by t n cs)))
on-trail t n [] = refl
on-trail t n (variable s o ∷ cs) = elim (cases_Bool (contains t n)) [ inl e ↦ rw e (kept o e (on-trail t (suc n) cs)) | inr e ↦ rw e (on-trail t (suc n) cs) ]
  where
    kept : (q : Option ℕ) → contains t n ≡ true → IsTrue (list_all (contains t) (bound_cells (suc n) (cells_bound_by t (suc n) cs))) → IsTrue (list_all (contains t) ((if is_bound (variable s q) then n ∷ [] else []) ++ bound_cells (suc n) (cells_bound_by t (suc n) cs)))
    kept None e h = h
    kept (Some r) e h = and_from (contains t n) (list_all (contains t) (bound_cells (suc n) (cells_bound_by t (suc n) cs))) e h
on-trail t n (fun_cell f rs ∷ cs) = on-trail t (suc n) cs
on-trail t n (eigen_cell f rs ∷ cs) = on-trail t (suc n) cs
on-trail t n (new_cell f rs ∷ cs) = on-trail t (suc n) cs
on-trail t n (string_cell rs ∷ cs) = on-trail t (suc n) cs

pub more-unequal : (x y : ℕ) → y < x → (x == y) ≡ false
more-unequal x y l = elim (cases_Bool (x == y)) [ inl e ↦ absurd (let q = eqb-true x y e in omega (arith, q, l)) | inr e ↦ e ]

-- a cell below the first number is not among them
pub not-below : (r n : ℕ) (cs : List Cell) → r < n → contains (bound_cells n cs) r ≡ false
not-below r n [] h = refl
not-below r n (c ∷ cs) h = by (is_bound c) (not-below r (suc n) cs (omega (arith, h)))
  where
    by : (b : Bool) → contains (bound_cells (suc n) cs) r ≡ false → contains ((if b then n ∷ [] else []) ++ bound_cells (suc n) cs) r ≡ false
    by true e = or_from (n == r) (contains (bound_cells (suc n) cs) r) (more-unequal n r h) e
    by false e = e

-- a bound cell that the trail keeps is bound in the cut
kept-bound : (t : List ℕ) (n k r : ℕ) (cs : List Cell) → r < n + k → IsTrue (contains t r) → IsTrue (contains (bound_cells n cs) r) → IsTrue (contains (bound_cells n (cells_bound_by t n (take k cs))) r)
kept-bound t n zero r cs l h g = absurd (false≢true (sym (not-below r n cs (omega (arith, l))) ∙ g))
kept-bound t n (suc k) r [] l h g = g
kept-bound t n (suc k) r (variable s None ∷ cs) l h g = elim (cases_Bool (contains t n)) [ inl e ↦ rw e (kept-bound t (suc n) k r cs (omega (arith, l)) h g) | inr e ↦ rw e (kept-bound t (suc n) k r cs (omega (arith, l)) h g) ]
kept-bound t n (suc k) r (variable s (Some q) ∷ cs) l h g = elim (cases_Bool (contains t n)) [
  | inl e ↦ rw e (or-step (n == r) (contains (bound_cells (suc n) cs) r) (contains (bound_cells (suc n) (cells_bound_by t (suc n) (take k cs))) r) (kept-bound t (suc n) k r cs (omega (arith, l)) h) g)
  | inr e ↦ rw e (elim (cases_Bool (n == r)) [
    | inl same ↦ absurd (false≢true (sym e ∙ ap (contains t) (eqb-true n r same) ∙ h))
    | inr other ↦ kept-bound t (suc n) k r cs (omega (arith, l)) h (rw other at g)
  ])
]
kept-bound t n (suc k) r (fun_cell f rs ∷ cs) l h g = kept-bound t (suc n) k r cs (omega (arith, l)) h g
kept-bound t n (suc k) r (eigen_cell f rs ∷ cs) l h g = kept-bound t (suc n) k r cs (omega (arith, l)) h g
kept-bound t n (suc k) r (new_cell f rs ∷ cs) l h g = kept-bound t (suc n) k r cs (omega (arith, l)) h g
kept-bound t n (suc k) r (string_cell rs ∷ cs) l h g = kept-bound t (suc n) k r cs (omega (arith, l)) h g

-- each entry of the trail is among all of them
each-among : (t ts : List ℕ) → ((r : ℕ) → IsTrue (contains ts r) → IsTrue (contains t r)) → (p q : ℕ → Bool) → ((r : ℕ) → IsTrue (contains t r) → IsTrue (p r) → IsTrue (q r)) → IsTrue (list_all p ts) → IsTrue (list_all q ts)
each-among t [] i p q k h = refl
each-among t (r ∷ ts) i p q k h =
    let a = and_parts (p r) (list_all p ts) h in
    and_from (q r) (list_all q ts) (k r (i r (rw (eq-eqb r r refl) refl)) a.0) (each-among t ts (λ x g. i x (or-later (r == x) (contains ts x) g)) p q k a.1)
  where
    or-later : (b c : Bool) → c ≡ true → (b || c) ≡ true
    or-later true c e = refl
    or-later false c e = e

pub trail_fits-cut_at : (m : TrailMark) (s : Store) → IsTrue (trail_fits s) → IsGood m s → IsTrue (trail_fits (cut_at m s))
trail_fits-cut_at m s h g =
    let t = take m.entries s.trail in
    let cs = (cut_at m s).cells in
    let a = and_parts (are_distinct_cells s.trail && list_all (contains (bound_cells 0 s.cells)) s.trail) (list_all (contains s.trail) (bound_cells 0 s.cells)) h in
    let b = and_parts (are_distinct_cells s.trail) (list_all (contains (bound_cells 0 s.cells)) s.trail) a.0 in
    let below = (and_parts (list_all (λ c. names_below m.cells (parts_of c)) cs) (names_below m.cells t) g.closed).1 in
    let bound : IsTrue (list_all (contains (bound_cells 0 s.cells)) t) = all-take (contains (bound_cells 0 s.cells)) m.entries s.trail b.1 in
    let both : IsTrue (list_all (λ r. nat_lt r m.cells && contains (bound_cells 0 s.cells) r) t) = all-two (λ r. nat_lt r m.cells) (contains (bound_cells 0 s.cells)) t below bound in
    let among : IsTrue (list_all (contains (bound_cells 0 cs)) t) = each-among t t (λ r i. i) (λ r. nat_lt r m.cells && contains (bound_cells 0 s.cells) r) (contains (bound_cells 0 cs)) (λ r i p. let q = and_parts (nat_lt r m.cells) (contains (bound_cells 0 s.cells) r) p in kept-bound t 0 m.cells r s.cells (omega (arith, ltb-true r m.cells q.0)) i q.1) both in
    and_from (are_distinct_cells t && list_all (contains (bound_cells 0 cs)) t) (list_all (contains t) (bound_cells 0 cs)) (and_from (are_distinct_cells t) (list_all (contains (bound_cells 0 cs)) t) (distinct-take m.entries s.trail b.0) among) (on-trail t 0 (take m.cells s.cells))
  where
    all-two : (p q : ℕ → Bool) (rs : List ℕ) → IsTrue (list_all p rs) → IsTrue (list_all q rs) → IsTrue (list_all (λ r. p r && q r) rs)
    all-two p q [] x y = refl
    all-two p q (r ∷ rs) x y = let u = and_parts (p r) (list_all p rs) x in let v = and_parts (q r) (list_all q rs) y in and_from (p r && q r) (list_all (λ k. p k && q k) rs) (and_from (p r) (q r) u.0 v.0) (all-two p q rs u.1 v.1)

pub is_store-cut_at : (m : TrailMark) (s : Store) → IsTrue (is_store s) → IsGood m s → IsTrue (is_store (cut_at m s))
is_store-cut_at m s h g =
    let a = and_parts (list_all (parts_fit s) s.cells) (trail_fits s) h in
    and_from (list_all (parts_fit (cut_at m s)) (cut_at m s).cells) (trail_fits (cut_at m s)) (parts_fit-cut_at m s a.0 g) (trail_fits-cut_at m s a.1 g)
