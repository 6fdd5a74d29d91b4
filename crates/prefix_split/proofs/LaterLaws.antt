-- What steps keep of a store: new cells, and bindings to cells in which no unbound string occurs.
use Rattle.std.proofs.Common.{◌≡◌, ◌⊎◌, ℕ, zero, suc, ◌<◌, ◌≤◌, List, [], ◌∷◌, length, IsTrue, refl, sym, ◌∙◌, ap, subst, Some, None, slice_get, inl, inr, arith}
use Rattle.calculus.specs.declared.sort.Sort.{Sort}
use Rattle.calculus.specs.declared.sort.Sort.TheVariants.{StringSort}
use Rattle.std.proofs.lemmas.Bool.{cases_lt, false≢true}
use Rattle.plain_laws.proofs.Places.{get-end, get-there, get-within}
use Rattle.plain_laws.proofs.Options.{same-some}
use Rattle.store_theory.specs.Bindings.{AddsBuilt, nothing_more, one_more, BindsOnly, BindsWithin, KeepsMarks, is_variable, with_cell}
use Rattle.store_theory.specs.Patterns.{Grows}
use Rattle.store_theory.specs.Stores.{Cell, variable, string_cell, Store, parts_of, sort_of, has_sort_at, is_store, is_bound, OccursIn, here, in_part, EndsAt, stays, goes_on}
use Rattle.store_theory.specs.Systems.{IsOpenString}
use Rattle.store_theory.proofs.BindingLaws.{KeepsMarks-both, KeepsMarks-same, has_sort-from, sorted_cell}
use Rattle.store_theory.proofs.PatternLaws.{Grows-built, KeepsMarks-built, grown-cell, grown-sort}
use Rattle.search_theory.proofs.BuildingLaws.{adds-longer, length-plus}
use Rattle.term_unify.proofs.FlatLaws.{no_string-part, occurs-grown}
use Rattle.prefix_split.specs.Later.{IsBuiltString, HasNoStringIn, IsLater}

pub later-same : (s : Store) → IsLater s s
later-same s = record { longer = omega arith; sorts = λ sort r h. h; strings = λ v r l o w. (w, o); fresh = λ v l o. (let k = get-within s.cells v (variable StringSort None) o in omega (arith, l, k)); built = λ r b. b; bound = λ r k sort e. e; marks = KeepsMarks-same s }

pub later-both : (s t u : Store) → IsLater s t → IsLater t u → IsLater s u
later-both s t u h k = record {
  longer = let a = h.longer in let b = k.longer in omega (arith, a, b);
  sorts = λ sort r q. k.sorts sort r (h.sorts sort r q);
  strings = λ v r l o w. (let a = h.longer in let (x, y) = k.strings v r (omega (arith, l, a)) o w in h.strings v r l y x);
  fresh = λ v l o. elim (cases_lt v (length t.cells)) [ inl less ↦ h.fresh v l (k.strings v v less o here).1 | inr more ↦ k.fresh v more o ];
  built = λ r b. k.built r (h.built r b);
  bound = λ r j sort e. k.bound r j sort (h.bound r j sort e);
  marks = KeepsMarks-both s t u h.marks k.marks;
}

-- ---- new cells

pub ends-grown : (s t : Store) → Grows s t → (r v : ℕ) → EndsAt s r v → EndsAt t r v
ends-grown s t g r v (stays {c = c} e b) = stays (grown-cell s t r c g e) b
ends-grown s t g r v (goes_on {k = k} {sort = sort} e more) = goes_on (grown-cell s t r (variable sort (Some k)) g e) (ends-grown s t g k v more)

pub later-grown : (s t : Store) → IsTrue (is_store s) → Grows s t → length s.cells ≤ length t.cells → ((v : ℕ) → length s.cells ≤ v → ¬ IsOpenString t v) → KeepsMarks s t → IsLater s t
later-grown s t h g longer fresh marks = record {
  longer = longer;
  sorts = λ sort r q. grown-sort s t sort r g q;
  strings = λ v r l o w. (
      let (below, x) = occurs-grown s t h g v r l w in
      let (d, f) = get-there s.cells v below in
      (x, f ∙ ap Some (same-some (slice_get t.cells v) d (variable StringSort None) (grown-cell s t v d g f) o))
      );
  fresh = fresh;
  built = λ r b. (b.0, b.1, ends-grown s t g r b.0 b.2, grown-cell s t b.0 (string_cell b.1) g b.3);
  bound = λ r k sort e. grown-cell s t r (variable sort (Some k)) g e;
  marks = marks;
}

-- no unbound string is built
fresh-added : (s t : Store) → AddsBuilt s t → (v : ℕ) → length s.cells ≤ v → ¬ IsOpenString t v
fresh-added s t nothing_more v l o = let k = get-within s.cells v (variable StringSort None) o in omega (arith, l, k)
fresh-added s t (one_more c h f built more) v l o = elim (cases_lt (length s.cells) v) [
  | inl less ↦ fresh-added (with_cell c s) t more v (let n = length-plus c s in omega (arith, n, less)) o
  | inr last ↦
      let same : v ≡ length s.cells = omega (arith, l, last) in
      let at : slice_get t.cells (length s.cells) ≡ Some c = grown-cell (with_cell c s) t (length s.cells) c (Grows-built (with_cell c s) t more) (get-end s.cells c) in
      let q : c ≡ variable StringSort None = same-some (slice_get t.cells (length s.cells)) c (variable StringSort None) at (ap (slice_get t.cells) (sym same) ∙ o) in
      false≢true (sym built ∙ ap is_variable q)
]

pub later-added : (s t : Store) → AddsBuilt s t → IsLater s t
later-added s t nothing_more = later-same s
later-added s t (one_more c h f v more) =
    let a : AddsBuilt s t = one_more c h f v more in
    later-grown s t h (Grows-built s t a) (adds-longer s t a) (fresh-added s t a) (KeepsMarks-built s t a)

-- ---- bindings

sorts-bound : (s t : Store) → BindsOnly s t → (sort : Sort) (r : ℕ) → IsTrue (has_sort_at s sort r) → IsTrue (has_sort_at t sort r)
sorts-bound s t b sort r h =
    let (c, e, q) = sorted_cell s sort r h in
    elim (b.cells r c e) [
      | inl f ↦ has_sort-from t sort r c f q
      | inr (x, k, p, f) ↦ has_sort-from t sort r (variable x (Some k)) f (ap sort_of (sym p) ∙ q)
    ]

open-before : (s t : Store) → BindsOnly s t → (v : ℕ) → IsOpenString t v → IsOpenString s v
open-before s t b v o =
    let n = b.same_length in
    let l = get-within t.cells v (variable StringSort None) o in
    let (d, f) = get-there s.cells v (omega (arith, n, l)) in
    elim (b.cells v d f) [
      | inl g ↦ f ∙ ap Some (same-some (slice_get t.cells v) d (variable StringSort None) g o)
      | inr (x, k, p, g) ↦ (let q : variable x (Some k) ≡ variable StringSort None = same-some (slice_get t.cells v) (variable x (Some k)) (variable StringSort None) g o in cc q)
    ]

-- no unbound string occurs in what a variable was bound to
abbrev pub HasStringFreeTargets : Store → Store → Type 0
HasStringFreeTargets s t = (n k : ℕ) (sort : Sort) → slice_get s.cells n ≡ Some (variable sort None) → slice_get t.cells n ≡ Some (variable sort (Some k)) → HasNoStringIn s k

one-part : (x i k : ℕ) → slice_get (x ∷ []) i ≡ Some k → x ≡ k
one-part x zero k e = cc e
one-part x (suc i) k e = cc e

occurs-before : (s t : Store) → BindsOnly s t → HasStringFreeTargets s t → (v r : ℕ) → r < length t.cells → IsOpenString s v → OccursIn t v r → OccursIn s v r
occurs-before s t b free v r l o here = here
occurs-before s t b free v r l o (in_part i {k = k} {c = c} e p more) =
    let n = b.same_length in
    let (d, f) = get-there s.cells r (omega (arith, n, l)) in
    by d f (b.cells r d f) (λ m. occurs-before s t b free v k m o more)
  where
    by : (d : Cell) → slice_get s.cells r ≡ Some d → (slice_get t.cells r ≡ Some d) ⊎ ((sort : Sort) × (x : ℕ) × (d ≡ variable sort None) × (slice_get t.cells r ≡ Some (variable sort (Some x)))) → (k < length t.cells → OccursIn s v k) → OccursIn s v r
    by d f (inl g) ih =
        let same : d ≡ c = same-some (slice_get t.cells r) d c g e in
        in_part i f (ap (λ x. slice_get (parts_of x) i) same ∙ p) (ih (inside k more))
      where
        inside : (k : ℕ) → OccursIn t v k → k < length t.cells
        inside k here = let n = b.same_length in let w = get-within s.cells v (variable StringSort None) o in omega (arith, n, w)
        inside k (in_part j x y z) = get-within t.cells k _ x
    by d f (inr (sort, x, q, g)) ih =
        let same : variable sort (Some x) ≡ c = same-some (slice_get t.cells r) (variable sort (Some x)) c g e in
        let at : x ≡ k = one-part x i k (ap (λ y. slice_get (parts_of y) i) same ∙ p) in
        absurd (free r x sort (f ∙ ap Some q) g v o (subst (OccursIn s v) (sym at) (ih (inside k more))))
      where
        inside : (k : ℕ) → OccursIn t v k → k < length t.cells
        inside k here = let n = b.same_length in let w = get-within s.cells v (variable StringSort None) o in omega (arith, n, w)
        inside k (in_part j x y z) = get-within t.cells k _ x

ends-bound : (s t : Store) → BindsOnly s t → (r v : ℕ) (rs : List ℕ) → EndsAt s r v → slice_get s.cells v ≡ Some (string_cell rs) → EndsAt t r v
ends-bound s t b r v rs (stays {c = c} e u) f = elim (b.cells r c e) [
  | inl g ↦ stays g u
  | inr (x, k, p, g) ↦ (let q : string_cell rs ≡ variable x None = same-some (slice_get s.cells r) (string_cell rs) (variable x None) f (e ∙ ap Some p) in cc q)
]
ends-bound s t b r v rs (goes_on {k = k} {sort = sort} e more) f = elim (b.cells r (variable sort (Some k)) e) [
  | inl g ↦ goes_on g (ends-bound s t b k v rs more f)
  | inr (x, j, p, g) ↦ cc p
]

string-bound : (s t : Store) → BindsOnly s t → (v : ℕ) (rs : List ℕ) → slice_get s.cells v ≡ Some (string_cell rs) → slice_get t.cells v ≡ Some (string_cell rs)
string-bound s t b v rs f = elim (b.cells v (string_cell rs) f) [
  | inl g ↦ g
  | inr (x, j, p, g) ↦ cc p
]

pub later-targets : (s t : Store) → BindsOnly s t → HasStringFreeTargets s t → KeepsMarks s t → IsLater s t
later-targets s t b free marks = record {
  longer = let n = b.same_length in omega (arith, n);
  sorts = sorts-bound s t b;
  strings = λ v r l o w. (
      let open_then = open-before s t b v o in
      let n = b.same_length in
      (occurs-before s t b free v r (omega (arith, n, l)) open_then w, open_then)
      );
  fresh = λ v l o. (let n = b.same_length in let k = get-within t.cells v (variable StringSort None) o in omega (arith, n, l, k));
  built = λ r u. (u.0, u.1, ends-bound s t b r u.0 u.1 u.2 u.3, string-bound s t b u.0 u.1 u.3);
  bound = λ r k sort e. elim (b.cells r (variable sort (Some k)) e) [
    | inl g ↦ g
    | inr (x, j, p, g) ↦ cc p
  ];
  marks = marks;
}

-- two cells without unbound strings were unified
pub later-unified : (s t : Store) (a b : ℕ) → BindsOnly s t → BindsWithin a b s t → HasNoStringIn s a → HasNoStringIn s b → KeepsMarks s t → IsLater s t
later-unified s t a b binds within ha hb marks = later-targets s t binds (λ n k sort e f. by k (within.target n k sort e f)) marks
  where
    by : (k : ℕ) → OccursIn s k a ⊎ OccursIn s k b → HasNoStringIn s k
    by k (inl o) = no_string-part s a k ha o
    by k (inr o) = no_string-part s b k hb o

-- cells without unbound strings stay so
pub no_string-later : (s t : Store) (r : ℕ) → IsLater s t → r < length s.cells → HasNoStringIn s r → HasNoStringIn t r
no_string-later s t r h l k v o w = let (x, y) = h.strings v r l o w in k v y x
