-- A cell or a binding more keeps a store, its ranks and its good marks.
use Rattle.std.proofs.Common.{◌⊎◌, not, ◌&&◌, ◌+◌, ◌++◌, inl, inr, eqb-true, eq-eqb, ◌<◌, option_map, nat_lt, Some, ◌||◌, ◌==◌, ◌≡◌, ℕ, zero, suc, ◌≤◌, List, [], ◌∷◌, length, take, Bool, true, false, Option, None, IsTrue, refl, sym, ◌∙◌, ap, ap₂, subst, arith, length-append, if◌then◌else◌}
use Rattle.std.specs.List.{list_all, list_any}
use Rattle.std.specs.Option.{option_map_or}
use Rattle.std.specs.Prelude.{slice_get}
use Rattle.std.proofs.lemmas.Bool.{cases_Bool, false≢true, and_parts, and_from}
use Rattle.plain_laws.proofs.Every.{all-at}
use Rattle.plain_laws.proofs.Booleans.{same-tests}
use Rattle.plain_laws.proofs.Places.{get-front, get-within, take-all, take-longer}
use Rattle.plain_laws.proofs.Numbers.{less-test}
use Rattle.calculus.specs.declared.sort.Sort.{Sort}
use Rattle.calculus.specs.declared.sort.Sort.TheVariants.{TermSort, MarkSort, StringSort}
use Rattle.calculus.specs.Equality.{contains, sort_eq}
use Rattle.store_theory.specs.Stores.{is_store, trail_fits, are_distinct_cells, bound_cells, is_bound, sort_of, has_sort_at, has_value_sort_at, parts_of, parts_fit, names_below, Cell, variable, fun_cell, eigen_cell, new_cell, string_cell, Store, TrailMark, cells_bound_by, cut_at, store_is_below, IsGood, OccursIn, here, in_part, HasNoCycle, EndsAt, stays, goes_on}
use Rattle.store_theory.specs.Bindings.{with_cell, bound_to, bind_at, with_binding, MayBind, IsRanked, HasRank, KeepsMarks, KeepsEarlier, IsWellFormed, IsEnd}
use Rattle.calculus.proofs.PlaceLists.{all-from, all-more, get-last, contains-append, all-contained, contained}
use Rattle.store_theory.proofs.StoreLaws.{contains-take, not-below, is_store-cut_at, IsGood-cut_at, cut_at-cut_at}

-- ---- sorts

pub sort_eq-true : (a b : Sort) → sort_eq a b ≡ true → a ≡ b
sort_eq-true TermSort TermSort h = refl
sort_eq-true MarkSort MarkSort h = refl
sort_eq-true StringSort StringSort h = refl
sort_eq-true a b h = absurd (false≢true h)

pub sort_eq-same : (a : Sort) → sort_eq a a ≡ true
sort_eq-same TermSort = refl
sort_eq-same MarkSort = refl
sort_eq-same StringSort = refl

-- a cell of this sort stands there
pub sorted_cell : (s : Store) (sort : Sort) (r : ℕ) → IsTrue (has_sort_at s sort r) → (c : Cell) × (slice_get s.cells r ≡ Some c) × (sort_of c ≡ sort)
sorted_cell s sort r h = by (slice_get s.cells r) h
  where
    by : (o : Option Cell) → option_map_or (sort_eq sort) (option_map sort_of o) false ≡ true → (c : Cell) × (o ≡ Some c) × (sort_of c ≡ sort)
    by None h = absurd (false≢true h)
    by (Some c) h = (c, refl, sym (sort_eq-true sort (sort_of c) h))

pub has_sort-from : (s : Store) (sort : Sort) (r : ℕ) (c : Cell) → slice_get s.cells r ≡ Some c → sort_of c ≡ sort → IsTrue (has_sort_at s sort r)
has_sort-from s sort r c e h = ap (λ o. option_map_or (sort_eq sort) (option_map sort_of o) false) e ∙ ap (sort_eq sort) h ∙ sort_eq-same sort

pub or-more : (p q r t : Bool) → (p ≡ true → q ≡ true) → (r ≡ true → t ≡ true) → (p || r) ≡ true → (q || t) ≡ true
or-more true q r t h k e = rw (h refl) refl
or-more false true r t h k e = refl
or-more false false r t h k e = k e

-- parts fit where each cell keeps its sort
pub parts_fit-more : (s u : Store) → ((sort : Sort) (k : ℕ) → IsTrue (has_sort_at s sort k) → IsTrue (has_sort_at u sort k)) → (c : Cell) → IsTrue (parts_fit s c) → IsTrue (parts_fit u c)
parts_fit-more s u h (variable sort None) f = refl
parts_fit-more s u h (variable sort (Some r)) f = h sort r f
parts_fit-more s u h (fun_cell g rs) f = all-more (has_sort_at s TermSort) (has_sort_at u TermSort) rs (h TermSort) f
parts_fit-more s u h (eigen_cell p rs) f = all-more (has_value_sort_at s) (has_value_sort_at u) rs (λ k. or-more (has_sort_at s TermSort k) (has_sort_at u TermSort k) (has_sort_at s StringSort k) (has_sort_at u StringSort k) (h TermSort k) (h StringSort k)) f
parts_fit-more s u h (new_cell p rs) f = all-more (has_value_sort_at s) (has_value_sort_at u) rs (λ k. or-more (has_sort_at s TermSort k) (has_sort_at u TermSort k) (has_sort_at s StringSort k) (has_sort_at u StringSort k) (h TermSort k) (h StringSort k)) f
parts_fit-more s u h (string_cell rs) f = all-more (has_sort_at s MarkSort) (has_sort_at u MarkSort) rs (h MarkSort) f

pub within-sort : (s : Store) (sort : Sort) (r : ℕ) → IsTrue (has_sort_at s sort r) → r < length s.cells
within-sort s sort r h = let w = sorted_cell s sort r h in get-within s.cells r w.0 w.1

pub within-value : (s : Store) (r : ℕ) → IsTrue (has_value_sort_at s r) → r < length s.cells
within-value s r h = elim (cases_Bool (has_sort_at s TermSort r)) [
  | inl t ↦ within-sort s TermSort r t
  | inr f ↦ within-sort s StringSort r (rw f at h)
]

-- parts that fit are cells
pub parts-within : (s : Store) (c : Cell) (i k : ℕ) → IsTrue (parts_fit s c) → slice_get (parts_of c) i ≡ Some k → k < length s.cells
parts-within s (variable sort None) i k f e = absurd (cc)
parts-within s (variable sort (Some r)) zero k f e = let q : r ≡ k = cc in rw (← q) (within-sort s sort r f)
parts-within s (variable sort (Some r)) (suc i) k f e = absurd (cc)
parts-within s (fun_cell g rs) i k f e = within-sort s TermSort k (all-at (has_sort_at s TermSort) rs i k f e)
parts-within s (eigen_cell p rs) i k f e = within-value s k (all-at (has_value_sort_at s) rs i k f e)
parts-within s (new_cell p rs) i k f e = within-value s k (all-at (has_value_sort_at s) rs i k f e)
parts-within s (string_cell rs) i k f e = within-sort s MarkSort k (all-at (has_sort_at s MarkSort) rs i k f e)

-- ---- what a store keeps, place by place

abbrev pub is_bound_at : List Cell → ℕ → Bool
is_bound_at cs k = option_map_or is_bound (slice_get cs k) false

pub record Kept (s : Store) : Type 0 where
  pub fits : (n : ℕ) (c : Cell) → slice_get s.cells n ≡ Some c → IsTrue (parts_fit s c)
  pub distinct : IsTrue (are_distinct_cells s.trail)
  pub bound : (k : ℕ) → contains s.trail k ≡ is_bound_at s.cells k

pub bound_cells-at : (n j k : ℕ) (cs : List Cell) → j ≡ n + k → contains (bound_cells n cs) j ≡ is_bound_at cs k
bound_cells-at n j k [] e = refl
bound_cells-at n j zero (c ∷ cs) e = by (is_bound c)
  where
    same : n ≡ j
    same = omega arith

    by : (b : Bool) → contains ((if b then n ∷ [] else []) ++ bound_cells (suc n) cs) j ≡ b
    by true = rw (eq-eqb n j same) refl
    by false = not-below j (suc n) cs (omega arith)
bound_cells-at n j (suc k) (c ∷ cs) e = by (is_bound c) (bound_cells-at (suc n) j k cs (omega arith))
  where
    other : (n == j) ≡ false
    other = elim (cases_Bool (n == j)) [ inl h ↦ absurd (let q = eqb-true n j h in omega arith) | inr h ↦ h ]

    by : (b : Bool) → contains (bound_cells (suc n) cs) j ≡ is_bound_at cs k → contains ((if b then n ∷ [] else []) ++ bound_cells (suc n) cs) j ≡ is_bound_at cs k
    by true h = rw other h
    by false h = h

-- the trail has each bound cell once
pub record KeptTrail (s : Store) : Type 0 where
  pub distinct : IsTrue (are_distinct_cells s.trail)
  pub bound : (k : ℕ) → contains s.trail k ≡ is_bound_at s.cells k

pub kept_trail : (s : Store) → IsTrue (trail_fits s) → KeptTrail s
kept_trail s h =
    let b = and_parts (are_distinct_cells s.trail && list_all (contains (bound_cells 0 s.cells)) s.trail) (list_all (contains s.trail) (bound_cells 0 s.cells)) h in
    let d = and_parts (are_distinct_cells s.trail) (list_all (contains (bound_cells 0 s.cells)) s.trail) b.0 in
    record {
      distinct = d.0;
      bound = λ k. same-tests (contains s.trail k) (is_bound_at s.cells k)
          (λ e. sym (bound_cells-at 0 k k s.cells (omega arith)) ∙ contained (contains (bound_cells 0 s.cells)) s.trail k d.1 e)
          (λ e. contained (contains s.trail) (bound_cells 0 s.cells) k b.1 (bound_cells-at 0 k k s.cells (omega arith) ∙ e));
    }

pub kept : (s : Store) → IsTrue (is_store s) → Kept s
kept s h =
    let a = and_parts (list_all (parts_fit s) s.cells) (trail_fits s) h in
    let t = kept_trail s a.1 in
    record { fits = λ n c e. all-at (parts_fit s) s.cells n c a.0 e; distinct = t.distinct; bound = t.bound }

pub is_store-kept : (s : Store) → Kept s → IsTrue (is_store s)
is_store-kept s k =
    and_from (list_all (parts_fit s) s.cells) (trail_fits s)
    (all-from (parts_fit s) s.cells k.fits)
    (and_from (are_distinct_cells s.trail && list_all (contains (bound_cells 0 s.cells)) s.trail) (list_all (contains s.trail) (bound_cells 0 s.cells))
    (and_from (are_distinct_cells s.trail) (list_all (contains (bound_cells 0 s.cells)) s.trail) k.distinct
    (all-contained (contains (bound_cells 0 s.cells)) s.trail (λ r e. bound_cells-at 0 r r s.cells (omega arith) ∙ sym (k.bound r) ∙ e)))
    (all-contained (contains s.trail) (bound_cells 0 s.cells) (λ r e. k.bound r ∙ sym (bound_cells-at 0 r r s.cells (omega arith)) ∙ e)))

-- ---- a cell more

pub has_sort-with_cell : (c : Cell) (s : Store) (sort : Sort) (k : ℕ) → IsTrue (has_sort_at s sort k) → IsTrue (has_sort_at (with_cell c s) sort k)
has_sort-with_cell c s sort k h = let w = sorted_cell s sort k h in has_sort-from (with_cell c s) sort k w.0 (get-front s.cells (c ∷ []) k w.0 w.1) w.2

bound-last : (cs : List Cell) (c : Cell) (k : ℕ) → is_bound c ≡ false → is_bound_at (cs ++ c ∷ []) k ≡ is_bound_at cs k
bound-last [] c zero h = h
bound-last [] c (suc k) h = refl
bound-last (d ∷ cs) c zero h = refl
bound-last (d ∷ cs) c (suc k) h = bound-last cs c k h

pub is_store-with_cell : (c : Cell) (s : Store) → IsTrue (is_store s) → IsTrue (parts_fit s c) → is_bound c ≡ false → IsTrue (is_store (with_cell c s))
is_store-with_cell c s h f b =
    let k = kept s h in
    let more = parts_fit-more s (with_cell c s) (λ sort r. has_sort-with_cell c s sort r) in
    is_store-kept (with_cell c s) record {
      fits = λ n d e. elim (get-last s.cells n d c e) [ inl old ↦ more d (k.fits n d old) | inr (_, q) ↦ more d (subst (λ x. IsTrue (parts_fit s x)) q f) ];
      distinct = k.distinct;
      bound = λ r. k.bound r ∙ sym (bound-last s.cells c r b);
    }

pub KeepsMarks-same : (s : Store) → KeepsMarks s s
KeepsMarks-same s m g = (g, refl)

pub KeepsMarks-both : (s t u : Store) → KeepsMarks s t → KeepsMarks t u → KeepsMarks s u
KeepsMarks-both s t u h k m g = let a = h m g in let b = k m a.0 in (b.0, b.1 ∙ a.1)

good-by : (m : TrailMark) (s u : Store) → IsGood m s → length s.cells ≤ length u.cells → length s.trail ≤ length u.trail → cut_at m u ≡ cut_at m s → IsGood m u × (cut_at m u ≡ cut_at m s)
good-by m s u g h k e = (record { cells = let a = g.cells in omega arith; entries = let a = g.entries in omega arith; closed = subst (λ c. IsTrue (store_is_below m.cells c)) (sym e) g.closed }, e)

pub KeepsMarks-with_cell : (c : Cell) (s : Store) → KeepsMarks s (with_cell c s)
KeepsMarks-with_cell c s m g = good-by m s (with_cell c s) g (omega (arith, length-append s.cells (c ∷ []))) (omega arith)
    (ap (λ cs. let r : Store = record { cells = cells_bound_by (take m.entries s.trail) 0 cs; trail = take m.entries s.trail } in r) (take-longer m.cells s.cells (c ∷ []) g.cells))

rank_sum : (ℕ → ℕ) → List ℕ → ℕ
rank_sum rank [] = 0
rank_sum rank (r ∷ rs) = rank r + rank_sum rank rs

rank_sum-at : (rank : ℕ → ℕ) (rs : List ℕ) (i k : ℕ) → slice_get rs i ≡ Some k → rank k ≤ rank_sum rank rs
unfolding rank_sum
rank_sum-at rank [] i k e = absurd (cc)
rank_sum-at rank (r ∷ rs) zero k e = let q : rank r ≡ rank k = ap rank (let p : r ≡ k = cc in p) in omega arith
rank_sum-at rank (r ∷ rs) (suc i) k e = let h = rank_sum-at rank rs i k e in omega arith

-- the new cell stands above its parts
abbrev rank_with : (ℕ → ℕ) → Cell → ℕ → ℕ → ℕ
rank_with rank c n k = if k == n then suc (rank_sum rank (parts_of c)) else rank k

rank_with-old : (rank : ℕ → ℕ) (c : Cell) (n k : ℕ) → k < n → rank_with rank c n k ≡ rank k
rank_with-old rank c n k l = elim (cases_Bool (k == n)) [ inl e ↦ absurd (let q = eqb-true k n e in omega arith) | inr e ↦ rw e refl ]

rank_with-new : (rank : ℕ → ℕ) (c : Cell) (n k : ℕ) → k ≡ n → rank_with rank c n k ≡ suc (rank_sum rank (parts_of c))
rank_with-new rank c n k e = rw (eq-eqb k n e) refl

pub HasRank-with_cell : (c : Cell) (s : Store) → IsTrue (is_store s) → IsTrue (parts_fit s c) → HasRank s → HasRank (with_cell c s)
HasRank-with_cell c s h f (rank, ranked) = (rank_with rank c (length s.cells), is_ranked)
  where
    is_ranked : IsRanked (with_cell c s) (rank_with rank c (length s.cells))
    is_ranked i r k d e p = elim (get-last s.cells r d c e) [
      | inl o ↦
          let a = rank_with-old rank c (length s.cells) r (get-within s.cells r d o) in
          let b = rank_with-old rank c (length s.cells) k (parts-within s d i k ((kept s h).fits r d o) p) in
          let l = ranked i r k d o p in rw (a, b) l
      | inr (q, same) ↦
          let p : slice_get (parts_of c) i ≡ Some k = ap (λ x. slice_get (parts_of x) i) same ∙ p in
          let a = rank_with-new rank c (length s.cells) r q in
          let b = rank_with-old rank c (length s.cells) k (parts-within s c i k f p) in
          let l = rank_sum-at rank (parts_of c) i k p in rw (a, b) (omega arith)
    ]

-- ---- a binding more

pub get-bound : (v r : ℕ) (cs : List Cell) → slice_get (bind_at v r cs) v ≡ option_map (bound_to r) (slice_get cs v)
get-bound zero r [] = refl
get-bound (suc v) r [] = refl
get-bound zero r (c ∷ cs) = refl
get-bound (suc v) r (c ∷ cs) = get-bound v r cs

pub get-unbound : (v r k : ℕ) (cs : List Cell) → ¬ (v ≡ k) → slice_get (bind_at v r cs) k ≡ slice_get cs k
get-unbound v r k [] h = by v k
  where
    by : (v k : ℕ) → slice_get (bind_at v r []) k ≡ None
    by zero k = refl
    by (suc v) k = refl
get-unbound zero r zero (c ∷ cs) h = absurd (h refl)
get-unbound zero r (suc k) (c ∷ cs) h = refl
get-unbound (suc v) r zero (c ∷ cs) h = refl
get-unbound (suc v) r (suc k) (c ∷ cs) h = get-unbound v r k cs (λ e. h (ap suc e))

pub same_place : (v k : ℕ) → (v ≡ k) ⊎ (¬ (v ≡ k))
same_place v k = elim (cases_Bool (v == k)) [ inl e ↦ inl (eqb-true v k e) | inr e ↦ inr (λ q. false≢true (sym e ∙ eq-eqb v k q)) ]

sort-bind : (v r k : ℕ) (cs : List Cell) → option_map sort_of (slice_get (bind_at v r cs) k) ≡ option_map sort_of (slice_get cs k)
sort-bind zero r k [] = refl
sort-bind (suc v) r k [] = refl
sort-bind zero r zero (variable s b ∷ cs) = refl
sort-bind zero r zero (fun_cell f rs ∷ cs) = refl
sort-bind zero r zero (eigen_cell f rs ∷ cs) = refl
sort-bind zero r zero (new_cell f rs ∷ cs) = refl
sort-bind zero r zero (string_cell rs ∷ cs) = refl
sort-bind zero r (suc k) (c ∷ cs) = refl
sort-bind (suc v) r zero (c ∷ cs) = refl
sort-bind (suc v) r (suc k) (c ∷ cs) = sort-bind v r k cs

pub length-bind : (v r : ℕ) (cs : List Cell) → length (bind_at v r cs) ≡ length cs
length-bind zero r [] = refl
length-bind (suc v) r [] = refl
length-bind zero r (c ∷ cs) = refl
length-bind (suc v) r (c ∷ cs) = ap suc (length-bind v r cs)

pub has_sort-with_binding : (v r : ℕ) (s : Store) (sort : Sort) (k : ℕ) → IsTrue (has_sort_at s sort k) → IsTrue (has_sort_at (with_binding v r s) sort k)
has_sort-with_binding v r s sort k h = ap (λ o. option_map_or (sort_eq sort) o false) (sort-bind v r k s.cells) ∙ h

-- the cell that is bound
bound-cell : (v r : ℕ) (s : Store) (sort : Sort) (c : Cell) → slice_get s.cells v ≡ Some (variable sort None) → slice_get (bind_at v r s.cells) v ≡ Some c → c ≡ variable sort (Some r)
bound-cell v r s sort c o e = let a : slice_get (bind_at v r s.cells) v ≡ Some (variable sort (Some r)) = get-bound v r s.cells ∙ ap (option_map (bound_to r)) o in let q : Some c ≡ Some (variable sort (Some r)) = sym e ∙ a in cc

distinct-last : (rs : List ℕ) (v : ℕ) → IsTrue (are_distinct_cells rs) → contains rs v ≡ false → IsTrue (are_distinct_cells (rs ++ v ∷ []))
distinct-last [] v h n = refl
distinct-last (r ∷ rs) v h n =
    let a = and_parts (not (contains rs r)) (are_distinct_cells rs) h in
    let n' = or_false (r == v) (contains rs v) n in
    let other : (v == r) ≡ false = elim (cases_Bool (v == r)) [ inl e ↦ absurd (false≢true (sym n'.0 ∙ eq-eqb r v (sym (eqb-true v r e)))) | inr e ↦ e ] in
    let c : contains (rs ++ v ∷ []) r ≡ contains rs r = contains-append rs (v ∷ []) r ∙ rw other (or_none (contains rs r)) in
    and_from (not (contains (rs ++ v ∷ []) r)) (are_distinct_cells (rs ++ v ∷ [])) (ap not c ∙ a.0) (distinct-last rs v a.1 n'.1)
  where
    or_false : (p q : Bool) → (p || q) ≡ false → (p ≡ false) × (q ≡ false)
    or_false true q e = absurd (false≢true (sym e))
    or_false false q e = (refl, e)

    or_none : (p : Bool) → (p || false) ≡ p
    or_none true = refl
    or_none false = refl

open-unbound : (s : Store) (v : ℕ) (sort : Sort) → slice_get s.cells v ≡ Some (variable sort None) → is_bound_at s.cells v ≡ false
open-unbound s v sort e = ap (λ o. option_map_or is_bound o false) e

pub is_store-with_binding : (v r : ℕ) (s : Store) → IsTrue (is_store s) → MayBind s v r → IsTrue (is_store (with_binding v r s))
is_store-with_binding v r s h m =
    let k = kept s h in
    let more = parts_fit-more s (with_binding v r s) (λ sort q. has_sort-with_binding v r s sort q) in
    is_store-kept (with_binding v r s) record {
      fits = λ n d e. elim (same_place v n) [
        | inl q ↦ let e' : slice_get (bind_at v r s.cells) v ≡ Some d = ap (slice_get (bind_at v r s.cells)) q ∙ e in
            subst (λ x. IsTrue (parts_fit (with_binding v r s) x)) (sym (bound-cell v r s m.sort d m.open_cell e')) (has_sort-with_binding v r s m.sort r m.same_sort)
        | inr q ↦ more d (k.fits n d (sym (get-unbound v r n s.cells q) ∙ e))
      ];
      distinct = distinct-last s.trail v k.distinct (k.bound v ∙ open-unbound s v m.sort m.open_cell);
      bound = λ n. contains-append s.trail (v ∷ []) n ∙ elim (same_place v n) [
        | inl q ↦ rw (eq-eqb v n q) (or_true (contains s.trail n)) ∙ sym (subst (λ j. is_bound_at (bind_at v r s.cells) j ≡ true) q (ap (λ o. option_map_or is_bound o false) (get-bound v r s.cells ∙ ap (option_map (bound_to r)) m.open_cell)))
        | inr q ↦ rw (unequal v n q) (or_none (contains s.trail n)) ∙ k.bound n ∙ sym (ap (λ o. option_map_or is_bound o false) (get-unbound v r n s.cells q))
      ];
    }
  where
    or_none : (p : Bool) → (p || (false || false)) ≡ p
    or_none true = refl
    or_none false = refl

    or_true : (p : Bool) → (p || (true || false)) ≡ true
    or_true true = refl
    or_true false = refl

    unequal : (v n : ℕ) → ¬ (v ≡ n) → (v == n) ≡ false
    unequal v n q = elim (cases_Bool (v == n)) [ inl e ↦ absurd (q (eqb-true v n e)) | inr e ↦ e ]

-- a binding of a variable that is not on the kept trail does not show in the cut
cut-bind : (t : List ℕ) (n v j r k : ℕ) (sort : Sort) (cs : List Cell) → j ≡ n + v → contains t j ≡ false → slice_get cs v ≡ Some (variable sort None) → cells_bound_by t n (take k (bind_at v r cs)) ≡ cells_bound_by t n (take k cs)
cut-bind t n v j r zero sort cs q h e = refl
cut-bind t n v j r (suc k) sort [] q h e = absurd (cc)
cut-bind t n zero j r (suc k) sort (c ∷ cs) q h e =
    let a : c ≡ variable sort None = cc in
    let h' : contains t n ≡ false = ap (contains t) (let p : n ≡ j = omega arith in p) ∙ h in
    rw a (rw h' refl)
cut-bind t n (suc v) j r (suc k) sort (variable s b ∷ cs) q h e = ap (λ ds. variable s (if contains t n then b else None) ∷ ds) (cut-bind t (suc n) v j r k sort cs (omega arith) h e)
cut-bind t n (suc v) j r (suc k) sort (fun_cell f rs ∷ cs) q h e = ap (λ ds. fun_cell f rs ∷ ds) (cut-bind t (suc n) v j r k sort cs (omega arith) h e)
cut-bind t n (suc v) j r (suc k) sort (eigen_cell f rs ∷ cs) q h e = ap (λ ds. eigen_cell f rs ∷ ds) (cut-bind t (suc n) v j r k sort cs (omega arith) h e)
cut-bind t n (suc v) j r (suc k) sort (new_cell f rs ∷ cs) q h e = ap (λ ds. new_cell f rs ∷ ds) (cut-bind t (suc n) v j r k sort cs (omega arith) h e)
cut-bind t n (suc v) j r (suc k) sort (string_cell rs ∷ cs) q h e = ap (λ ds. string_cell rs ∷ ds) (cut-bind t (suc n) v j r k sort cs (omega arith) h e)

pub KeepsMarks-with_binding : (v r : ℕ) (s : Store) → IsTrue (is_store s) → MayBind s v r → KeepsMarks s (with_binding v r s)
KeepsMarks-with_binding v r s h m k g =
    let t = take-longer k.entries s.trail (v ∷ []) g.entries in
    let off : contains (take k.entries s.trail) v ≡ false = elim (cases_Bool (contains (take k.entries s.trail) v)) [
      | inl e ↦ absurd (false≢true (sym (open-unbound s v m.sort m.open_cell) ∙ sym ((kept s h).bound v) ∙ contains-take k.entries s.trail v e))
      | inr e ↦ e
    ] in
    let cells = cut-bind (take k.entries s.trail) 0 v v r k.cells m.sort s.cells (omega arith) off m.open_cell in
    good-by k s (with_binding v r s) g (omega (arith, length-bind v r s.cells)) (omega (arith, length-append s.trail (v ∷ [])))
    (ap (λ x. let w : Store = record { cells = cells_bound_by x 0 (take k.cells (bind_at v r s.cells)); trail = x } in w) t ∙ ap (λ cs. let w : Store = record { cells = cs; trail = take k.entries s.trail } in w) cells)

-- ---- ranks

pub rank-occurs : (s : Store) (rank : ℕ → ℕ) → IsRanked s rank → (v r : ℕ) → OccursIn s v r → rank v ≤ rank r
rank-occurs s rank h v r here = omega arith
rank-occurs s rank h v r (in_part i {k = k} {c = c} e p o) = let a = h i r k c e p in let b = rank-occurs s rank h v k o in omega arith

pub HasNoCycle-rank : (s : Store) → HasRank s → HasNoCycle s
HasNoCycle-rank s (rank, h) i r k c e p o = let a = h i r k c e p in let b = rank-occurs s rank h r k o in omega arith

parts_at : Store → ℕ → List ℕ
parts_at s r = option_map_or parts_of (slice_get s.cells r) []

occurs : ℕ → Store → ℕ → ℕ → Bool
occurs zero s v r = r == v
occurs (suc n) s v r = (r == v) || list_any (occurs n s v) (parts_at s r)

any-at : {A : Type 0} (p : A → Bool) (xs : List A) → list_any p xs ≡ true → (i : ℕ) × (x : A) × (slice_get xs i ≡ Some x) × (p x ≡ true)
any-at p [] h = absurd (false≢true h)
any-at p (x ∷ xs) h = elim (cases_Bool (p x)) [
  | inl t ↦ (0, x, refl, t)
  | inr f ↦ let w = any-at p xs (rw f at h) in (suc w.0, w.1, w.2, w.3)
]

any-from : {A : Type 0} (p : A → Bool) (xs : List A) (i : ℕ) (x : A) → slice_get xs i ≡ Some x → p x ≡ true → list_any p xs ≡ true
any-from p [] i x e h = absurd (cc)
any-from p (y ∷ xs) zero x e h = let q : y ≡ x = cc in rw (q, h) refl
any-from p (y ∷ xs) (suc i) x e h = or_later (p y) (list_any p xs) (any-from p xs i x e h)
  where
    or_later : (a b : Bool) → b ≡ true → (a || b) ≡ true
    or_later true b e = refl
    or_later false b e = e

occurs-sound : (n : ℕ) (s : Store) (v r : ℕ) → occurs n s v r ≡ true → OccursIn s v r
unfolding occurs parts_at
occurs-sound zero s v r h = subst (λ x. OccursIn s v x) (sym (eqb-true r v h)) here
occurs-sound (suc n) s v r h = elim (cases_Bool (r == v)) [
  | inl t ↦ subst (λ x. OccursIn s v x) (sym (eqb-true r v t)) here
  | inr f ↦ by (occurs-sound n s v) (slice_get s.cells r) refl (rw f at h)
]
  where
    by : ((k : ℕ) → occurs n s v k ≡ true → OccursIn s v k) → (o : Option Cell) → slice_get s.cells r ≡ o → list_any (occurs n s v) (option_map_or parts_of o []) ≡ true → OccursIn s v r
    by below None e h = absurd (false≢true h)
    by below (Some c) e h = let w = any-at (occurs n s v) (parts_of c) h in in_part w.0 e w.2 (below w.1 w.3)

occurs-found : (s : Store) (rank : ℕ → ℕ) → IsRanked s rank → (n v r : ℕ) → rank r ≤ n → OccursIn s v r → occurs n s v r ≡ true
unfolding occurs parts_at
occurs-found s rank h zero v r l here = eq-eqb v v refl
occurs-found s rank h (suc n) v r l here = rw (eq-eqb v v refl) refl
occurs-found s rank h zero v r l (in_part i {k = k} {c = c} e p o) = absurd (let a = h i r k c e p in omega arith)
occurs-found s rank h (suc n) v r l (in_part i {k = k} {c = c} e p o) =
    let a = h i r k c e p in
    let f = occurs-found s rank h n v k (omega arith) o in
    or_later (r == v) (list_any (occurs n s v) (parts_at s r)) (any-from (occurs n s v) (parts_at s r) i k (rw e p) f)
  where
    or_later : (a b : Bool) → b ≡ true → (a || b) ≡ true
    or_later true b e = refl
    or_later false b e = e

-- the cells in which v occurs rise above r
rank_bound : (ℕ → ℕ) → Store → ℕ → ℕ → ℕ → ℕ
rank_bound rank s v r k = if occurs (rank k) s v k then rank k + suc (rank r) else rank k

rank_bound-in : (rank : ℕ → ℕ) (s : Store) → IsRanked s rank → (v r k : ℕ) → OccursIn s v k → rank_bound rank s v r k ≡ rank k + suc (rank r)
unfolding rank_bound
rank_bound-in rank s ranked v r k o = rw (occurs-found s rank ranked (rank k) v k (omega arith) o) refl

rank_bound-out : (rank : ℕ → ℕ) (s : Store) (v r k : ℕ) → ¬ OccursIn s v k → rank_bound rank s v r k ≡ rank k
unfolding rank_bound
rank_bound-out rank s v r k o = elim (cases_Bool (occurs (rank k) s v k)) [ inl e ↦ absurd (o (occurs-sound (rank k) s v k e)) | inr e ↦ rw e refl ]

decide_occurs : (s : Store) (rank : ℕ → ℕ) → IsRanked s rank → (v k : ℕ) → OccursIn s v k ⊎ (¬ OccursIn s v k)
decide_occurs s rank ranked v k = elim (cases_Bool (occurs (rank k) s v k)) [
  | inl e ↦ inl (occurs-sound (rank k) s v k e)
  | inr e ↦ inr (λ o. false≢true (sym e ∙ occurs-found s rank ranked (rank k) v k (omega arith) o))
]

pub bound-part : (sort : Sort) (r i k : ℕ) (c : Cell) → c ≡ variable sort (Some r) → slice_get (parts_of c) i ≡ Some k → k ≡ r
bound-part sort r i k c q p = by i (ap (λ x. slice_get (parts_of x) i) (sym q) ∙ p)
  where
    by : (i : ℕ) → slice_get (r ∷ []) i ≡ Some k → k ≡ r
    by zero e = cc
    by (suc i) e = absurd (cc)

pub HasRank-with_binding : (v r : ℕ) (s : Store) → MayBind s v r → HasRank s → HasRank (with_binding v r s)
HasRank-with_binding v r s m (rank, ranked) = (rank_bound rank s v r, is_ranked)
  where
    above : (k : ℕ) → rank k ≤ rank_bound rank s v r k
    above k = elim (decide_occurs s rank ranked v k) [
      | inl o ↦ let a = rank_bound-in rank s ranked v r k o in omega arith
      | inr o ↦ let a = rank_bound-out rank s v r k o in omega arith
    ]

    is_ranked : IsRanked (with_binding v r s) (rank_bound rank s v r)
    is_ranked i x k c e p = elim (same_place v x) [
      | inl q ↦
          let e' : slice_get (bind_at v r s.cells) v ≡ Some c = ap (slice_get (bind_at v r s.cells)) q ∙ e in
          let t = bound-part m.sort r i k c (bound-cell v r s m.sort c m.open_cell e') p in
          let a : rank_bound rank s v r k ≡ rank r = ap (rank_bound rank s v r) t ∙ rank_bound-out rank s v r r m.no_cycle in
          let b : rank_bound rank s v r x ≡ rank v + suc (rank r) = ap (rank_bound rank s v r) (sym q) ∙ rank_bound-in rank s ranked v r v here in
          omega arith
      | inr q ↦
          let old : slice_get s.cells x ≡ Some c = sym (get-unbound v r x s.cells q) ∙ e in
          let l = ranked i x k c old p in
          elim (decide_occurs s rank ranked v k) [
            | inl o ↦ let a = rank_bound-in rank s ranked v r k o in let b = rank_bound-in rank s ranked v r x (in_part i old p o) in omega arith
            | inr o ↦ let a = rank_bound-out rank s v r k o in let b = above x in omega arith
          ]
    ]

-- the cells of a cut name no more than before
cut-cell : (t : List ℕ) (n k x : ℕ) (cs : List Cell) (c : Cell) → slice_get (cells_bound_by t n (take k cs)) x ≡ Some c → (d : Cell) × (slice_get cs x ≡ Some d) × ((i p : ℕ) → slice_get (parts_of c) i ≡ Some p → slice_get (parts_of d) i ≡ Some p)
cut-cell t n zero x cs c e = absurd (cc)
cut-cell t n (suc k) x [] c e = absurd (cc)
cut-cell t n (suc k) zero (variable s b ∷ cs) c e = (variable s b, refl, λ i p h. by (contains t n) b i p (ap (λ y. slice_get (parts_of y) i) (let q : variable s (if contains t n then b else None) ≡ c = cc in q) ∙ h))
  where
    by : (w : Bool) (b : Option ℕ) (i p : ℕ) → slice_get (parts_of (variable s (if w then b else None))) i ≡ Some p → slice_get (parts_of (variable s b)) i ≡ Some p
    by true b i p h = h
    by false b i p h = absurd (cc)
cut-cell t n (suc k) zero (fun_cell f rs ∷ cs) c e = (fun_cell f rs, refl, λ i p h. ap (λ y. slice_get (parts_of y) i) (let q : fun_cell f rs ≡ c = cc in q) ∙ h)
cut-cell t n (suc k) zero (eigen_cell f rs ∷ cs) c e = (eigen_cell f rs, refl, λ i p h. ap (λ y. slice_get (parts_of y) i) (let q : eigen_cell f rs ≡ c = cc in q) ∙ h)
cut-cell t n (suc k) zero (new_cell f rs ∷ cs) c e = (new_cell f rs, refl, λ i p h. ap (λ y. slice_get (parts_of y) i) (let q : new_cell f rs ≡ c = cc in q) ∙ h)
cut-cell t n (suc k) zero (string_cell rs ∷ cs) c e = (string_cell rs, refl, λ i p h. ap (λ y. slice_get (parts_of y) i) (let q : string_cell rs ≡ c = cc in q) ∙ h)
cut-cell t n (suc k) (suc x) (variable s b ∷ cs) c e = cut-cell t (suc n) k x cs c e
cut-cell t n (suc k) (suc x) (fun_cell f rs ∷ cs) c e = cut-cell t (suc n) k x cs c e
cut-cell t n (suc k) (suc x) (eigen_cell f rs ∷ cs) c e = cut-cell t (suc n) k x cs c e
cut-cell t n (suc k) (suc x) (new_cell f rs ∷ cs) c e = cut-cell t (suc n) k x cs c e
cut-cell t n (suc k) (suc x) (string_cell rs ∷ cs) c e = cut-cell t (suc n) k x cs c e

pub HasRank-cut_at : (m : TrailMark) (s : Store) → HasRank s → HasRank (cut_at m s)
HasRank-cut_at m s (rank, h) = (rank, λ i r k c e p. let w = cut-cell (take m.entries s.trail) 0 m.cells r s.cells c e in h i r k w.0 w.1 (w.2 i k p))

-- ---- marks and cuts

pub KeepsEarlier-cut_at : (m : TrailMark) (s : Store) → KeepsEarlier m s (cut_at m s)
KeepsEarlier-cut_at m s k e g = (IsGood-cut_at k m s e g, cut_at-cut_at k m s e)

pub IsWellFormed-cut_at : (m : TrailMark) (s : Store) → IsWellFormed s → IsGood m s → IsWellFormed (cut_at m s)
IsWellFormed-cut_at m s w g = record { fits = is_store-cut_at m s w.fits g; rank = HasRank-cut_at m s w.rank }

pub IsWellFormed-with_binding : (v r : ℕ) (s : Store) → IsWellFormed s → MayBind s v r → IsWellFormed (with_binding v r s)
IsWellFormed-with_binding v r s w m = record { fits = is_store-with_binding v r s w.fits m; rank = HasRank-with_binding v r s m w.rank }

bound-by-all : (t : List ℕ) (n : ℕ) (cs : List Cell) → ((k : ℕ) → contains t (n + k) ≡ is_bound_at cs k) → cells_bound_by t n cs ≡ cs
bound-by-all t n [] h = refl
bound-by-all t n (c ∷ cs) h = by c (ap (contains t) (let p : n ≡ n + 0 = omega arith in p) ∙ h 0) (bound-by-all t (suc n) cs (λ k. ap (contains t) (let p : suc n + k ≡ n + suc k = omega arith in p) ∙ h (suc k)))
  where
    by : (c : Cell) → contains t n ≡ is_bound c → cells_bound_by t (suc n) cs ≡ cs → cells_bound_by t n (c ∷ cs) ≡ c ∷ cs
    by (variable s None) e r = ap₂ ◌∷◌ (rw e refl) r
    by (variable s (Some q)) e r = ap₂ ◌∷◌ (rw e refl) r
    by (fun_cell f rs) e r = ap (λ ds. fun_cell f rs ∷ ds) r
    by (eigen_cell f rs) e r = ap (λ ds. eigen_cell f rs ∷ ds) r
    by (new_cell f rs) e r = ap (λ ds. new_cell f rs ∷ ds) r
    by (string_cell rs) e r = ap (λ ds. string_cell rs ∷ ds) r

-- the cut of this moment is the store
pub cut-now : (m : TrailMark) (s : Store) → IsTrue (is_store s) → m.cells ≡ length s.cells → m.entries ≡ length s.trail → cut_at m s ≡ s
cut-now m s h a b =
    let t : take m.entries s.trail ≡ s.trail = rw b (take-all s.trail) in
    let c : take m.cells s.cells ≡ s.cells = rw a (take-all s.cells) in
    ap₂ (λ cs t. let r : Store = record { cells = cells_bound_by t 0 cs; trail = t } in r) c t
    ∙ ap (λ cs. let r : Store = record { cells = cs; trail = s.trail } in r) (bound-by-all s.trail 0 s.cells (λ k. ap (contains s.trail) (let p : 0 + k ≡ k = omega arith in p) ∙ (kept s h).bound k))

pub bound-within : (cs : List Cell) (k : ℕ) → is_bound_at cs k ≡ true → k < length cs
bound-within [] k h = absurd (false≢true h)
bound-within (c ∷ cs) zero h = omega arith
bound-within (c ∷ cs) (suc k) h = let l = bound-within cs k h in omega arith

below-now : (s : Store) (n : ℕ) → IsTrue (is_store s) → n ≡ length s.cells → IsTrue (store_is_below n s)
below-now s n h e =
    let k = kept s h in
    and_from (list_all (λ c. names_below n (parts_of c)) s.cells) (names_below n s.trail)
    (all-from (λ c. names_below n (parts_of c)) s.cells (λ i c p. all-from (λ r. nat_lt r n) (parts_of c) (λ j r q. let l = parts-within s c j r (k.fits i c p) q in less-test r n (omega arith))))
    (all-contained (λ r. nat_lt r n) s.trail (λ r t. let l = bound-within s.cells r (sym (k.bound r) ∙ t) in less-test r n (omega arith)))

pub good-now : (m : TrailMark) (s : Store) → IsTrue (is_store s) → m.cells ≡ length s.cells → m.entries ≡ length s.trail → IsGood m s
good-now m s h a b = record { cells = omega arith; entries = omega arith; closed = subst (λ x. IsTrue (store_is_below m.cells x)) (sym (cut-now m s h a b)) (below-now s m.cells h a) }

-- ---- where bindings end

pub ends-there : (s : Store) (r v : ℕ) → EndsAt s r v → IsEnd s v
ends-there s r v (stays {c = c} e b) = (c, e, b)
ends-there s r v (goes_on {k = k} e o) = ends-there s k v o

-- a bound cell ends where what it is bound to ends
pub ends-on : (s : Store) (r k v : ℕ) (sort : Sort) → slice_get s.cells r ≡ Some (variable sort (Some k)) → EndsAt s r v → EndsAt s k v
ends-on s r k v sort e (stays {c = c} f b) = absurd (false≢true (sym b ∙ (let q : c ≡ variable sort (Some k) = let w : Some c ≡ Some (variable sort (Some k)) = sym f ∙ e in cc in ap is_bound q)))
ends-on s r k v sort e (goes_on {k = j} {sort = t} f o) = let q : j ≡ k = let w : Some (variable t (Some j)) ≡ Some (variable sort (Some k)) = sym f ∙ e in cc in subst (λ x. EndsAt s x v) q o

pub ends-once : (s : Store) (r v w : ℕ) → EndsAt s r v → EndsAt s r w → v ≡ w
ends-once s r v w (stays {c = c} e b) (stays f d) = refl
ends-once s r v w (stays {c = c} e b) (goes_on {k = k} {sort = t} f o) = absurd (false≢true (sym b ∙ (let q : c ≡ variable t (Some k) = let w : Some c ≡ Some (variable t (Some k)) = sym e ∙ f in cc in ap is_bound q)))
ends-once s r v w (goes_on {k = k} {sort = t} e o) p = ends-once s k v w o (ends-on s r k w t e p)

-- what a bound cell is bound to is a cell
pub bound-inside : (s : Store) (r k : ℕ) (sort : Sort) → IsWellFormed s → slice_get s.cells r ≡ Some (variable sort (Some k)) → k < length s.cells
bound-inside s r k sort w e = parts-within s (variable sort (Some k)) 0 k ((kept s w.fits).fits r (variable sort (Some k)) e) refl
