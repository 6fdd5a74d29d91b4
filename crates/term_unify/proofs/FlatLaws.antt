-- Labels become lists of marks item by item.
use Rattle.std.proofs.Common.{◌≡◌, ◌⊎◌, ℕ, zero, suc, ◌+◌, ◌<◌, ◌≤◌, List, [], ◌∷◌, ◌++◌, drop, length, map, take, Bool, true, false, ◌||◌, IsTrue, refl, sym, ◌∙◌, ap, subst, None, Some, slice_get, inl, inr, arith, append_assoc, nat_le, le-leb, leb-true, append-nil}
use Rattle.std.specs.List.{list_all}
use Rattle.std.proofs.lemmas.Bool.{and_from, and_parts, false≢true}
use Rattle.plain_laws.proofs.Every.{all-at}
use Rattle.plain_laws.proofs.Places.{drop-end, drop-there, get-there}
use Rattle.plain_laws.proofs.Lists.{map-last}
use Rattle.plain_laws.proofs.Options.{same-some}
use Rattle.calculus.specs.declared.sort.Sort.{Sort}
use Rattle.calculus.specs.declared.sort.Sort.TheVariants.{TermSort, MarkSort, StringSort}
use Rattle.store_theory.specs.Bindings.{EndsIn, IsEnd, NamesFrom}
use Rattle.store_theory.specs.Patterns.{Grows}
use Rattle.store_theory.specs.Stores.{Cell, Store, fun_cell, eigen_cell, new_cell, string_cell, variable, parts_of, is_bound, sort_of, has_sort_at, is_store, OccursIn, here, in_part, EndsAt, stays, goes_on, join_label, label_at}
use Rattle.store_theory.specs.Systems.{has_label_sort_at, is_label}
use Rattle.store_theory.proofs.BindingLaws.{has_sort-from, kept, parts-within, sorted_cell}
use Rattle.store_theory.proofs.PatternLaws.{grown-cell}
use Rattle.term_store.specs.RefView.{the_place}
use Rattle.term_store.specs.Shown.{head_of}
use Rattle.term_store.specs.declared.cell.Head.{Head}
use Rattle.term_store.specs.declared.cell.Ref.{Ref}
use Rattle.term_store.specs.declared.cell.Head.TheVariants.{Open}
use Rattle.term_unify.proofs.PairLaws.{take-more, told}
use Rattle.search_theory.proofs.GivingLaws.{flat-mark, flat-none, flat-string, ends-same}
use Rattle.search_theory.specs.MarkLists.{IsFlat}
use Rattle.term_unify.specs.Flat.{HasNoString, HasNoStringIn, IsFlatItem, IsStringOf}

-- ---- where bindings end

-- what occurs in a cell without unbound strings is such a cell
pub no_string-part : (s : Store) (a k : ℕ) → HasNoStringIn s a → OccursIn s k a → HasNoStringIn s k
no_string-part s a k h o v e w = h v e (join a o w)
  where
    join : (a : ℕ) → OccursIn s k a → OccursIn s v k → OccursIn s v a
    join a here w = w
    join a (in_part i e p more) w = in_part i e p (join _ more w)

-- what occurs in an old cell occurred there before
pub occurs-grown : (s t : Store) → IsTrue (is_store s) → Grows s t → (v r : ℕ) → r < length s.cells → OccursIn t v r → (v < length s.cells) × OccursIn s v r
occurs-grown s t h g v r l here = (l, here)
occurs-grown s t h g v r l (in_part i {k = k} {c = c} e p more) =
    let (d, f) = get-there s.cells r l in
    let same : d ≡ c = same-some (slice_get t.cells r) d c (grown-cell s t r d g f) e in
    let q : slice_get (parts_of d) i ≡ Some k = ap (λ x. slice_get (parts_of x) i) same ∙ p in
    let (w, o) = occurs-grown s t h g v k (parts-within s d i k ((kept s h).fits r d f) q) more in
    (w, in_part i f q o)

-- where no unbound string occurred, none does in a store with more cells
pub free-grown : (s t : Store) → IsTrue (is_store s) → Grows s t → (r : ℕ) → r < length s.cells → HasNoStringIn s r → HasNoStringIn t r
free-grown s t h g r l free v o c =
    let (below, x) = occurs-grown s t h g v r l c in
    let (d, f) = get-there s.cells v below in
    free v (f ∙ ap Some (same-some (slice_get t.cells v) d (variable StringSort None) (grown-cell s t v d g f) o)) x

pub ends-sorted : (s : Store) (sort : Sort) (r v : ℕ) → IsTrue (is_store s) → EndsAt s r v → IsTrue (has_sort_at s sort r) → IsTrue (has_sort_at s sort v)
ends-sorted s sort r v h (stays e b) k = k
ends-sorted s sort r v h (goes_on {k = j} {sort = x} e more) k =
    let (c, f, q) = sorted_cell s sort r k in
    let same : x ≡ sort = ap sort_of (same-some (slice_get s.cells r) (variable x (Some j)) c e f) ∙ q in
    ends-sorted s sort j v h more (subst (λ y. IsTrue (has_sort_at s y j)) same ((kept s h).fits r (variable x (Some j)) e))

pub ends-label : (s : Store) (r v : ℕ) → IsTrue (is_store s) → EndsAt s r v → IsTrue (has_label_sort_at s r) → IsTrue (has_label_sort_at s v)
ends-label s r v h ends k = by (has_sort_at s MarkSort r) refl k
  where
    or-right : (a b : Bool) → IsTrue b → IsTrue (a || b)
    or-right true b h = refl
    or-right false b h = h

    or-left : (a b : Bool) → IsTrue a → IsTrue (a || b)
    or-left true b h = refl
    or-left false b h = absurd (false≢true h)

    by : (t : Bool) → has_sort_at s MarkSort r ≡ t → IsTrue (t || has_sort_at s StringSort r) → IsTrue (has_label_sort_at s v)
    by true e x = or-left (has_sort_at s MarkSort v) (has_sort_at s StringSort v) (ends-sorted s MarkSort r v h ends e)
    by false e x = or-right (has_sort_at s MarkSort v) (has_sort_at s StringSort v) (ends-sorted s StringSort r v h ends x)

pub ends-occurs : (s : Store) (r v : ℕ) → EndsAt s r v → OccursIn s v r
ends-occurs s r v (stays e b) = here
ends-occurs s r v (goes_on e more) = in_part 0 e refl (ends-occurs s _ v more)

pub ends-free : (s : Store) (r v : ℕ) → EndsAt s r v → HasNoStringIn s r → HasNoStringIn s v
ends-free s r v ends h = no_string-part s r v h (ends-occurs s r v ends)

-- what is unbound there is a mark
pub open-mark : (s : Store) (v : ℕ) (head : Head) (sort : Sort) → IsEnd s v → IsTrue (has_label_sort_at s v) → HasNoStringIn s v → EndsIn s v (λ c. head_of c ≡ head) → head ≡ Open sort → IsTrue (has_sort_at s MarkSort v)
open-mark s v head sort (c, e, b) l free t q = by c e b (told s v c (λ d. head_of d ≡ head) e b t ∙ q)
  where
    by : (d : Cell) → slice_get s.cells v ≡ Some d → is_bound d ≡ false → head_of d ≡ Open sort → IsTrue (has_sort_at s MarkSort v)
    by (variable MarkSort None) f u h = has_sort-from s MarkSort v (variable MarkSort None) f refl
    by (variable StringSort None) f u h = absurd (free v f here)
    by (variable TermSort None) f u h = absurd (false≢true (rw f at l))
    by (variable x (Some k)) f u h = absurd (false≢true (sym u))
    by (fun_cell g rs) f u h = cc h
    by (eigen_cell g rs) f u h = cc h
    by (new_cell g rs) f u h = cc h
    by (string_cell rs) f u h = cc h

-- ---- the marks of a string, one by one

pub all-added : (s : Store) (r i : ℕ) (c : Cell) (ref : Ref) (items before : List Ref) → slice_get s.cells r ≡ Some c → IsEnd s r → EndsIn s r (λ d. slice_get (parts_of d) i ≡ Some ref.0) → map the_place items ≡ map the_place before ++ take i (parts_of c) → map the_place (items ++ ref ∷ []) ≡ map the_place before ++ take (i + 1) (parts_of c)
all-added s r i c ref items before e end t h =
    let b : is_bound c ≡ false = let q : end.0 ≡ c = let w : Some end.0 ≡ Some c = sym end.1 ∙ e in cc in ap is_bound (sym q) ∙ end.2 in
    let at = told s r c (λ d. slice_get (parts_of d) i ≡ Some ref.0) e b t in
    map-last the_place items ref ∙ ap (λ xs. xs ++ ref.0 ∷ []) h ∙ append_assoc (map the_place before) (take i (parts_of c)) (ref.0 ∷ []) ∙ ap (λ xs. map the_place before ++ xs) (sym (take-more i (parts_of c) ref.0 at))

-- ---- one item

-- what stands for an item of a label that names cells from the number `base` on
pub flat-from : (base : ℕ) (s : Store) (label before after ks : List ℕ) (i w : ℕ) → NamesFrom base s → IsTrue (list_all (nat_le base) label) → slice_get label i ≡ Some w → IsFlatItem s w ks → after ≡ before ++ ks → IsTrue (list_all (nat_le base) before) → IsTrue (list_all (nat_le base) after)
flat-from base s label before after ks i w names h at (v, ends, item) e b = subst (λ xs. IsTrue (list_all (nat_le base) xs)) (sym e) (joined before ks b (by item))
  where
    joined : (xs ys : List ℕ) → IsTrue (list_all (nat_le base) xs) → IsTrue (list_all (nat_le base) ys) → IsTrue (list_all (nat_le base) (xs ++ ys))
    joined [] ys j k = k
    joined (x ∷ xs) ys j k = let p = and_parts (nat_le base x) (list_all (nat_le base) xs) j in and_from (nat_le base x) (list_all (nat_le base) (xs ++ ys)) p.0 (joined xs ys p.1 k)

    from : (r u : ℕ) → EndsAt s r u → base ≤ r → base ≤ u
    from r u (stays f g) l = l
    from r u (goes_on {k = k} {sort = sort} f more) l = from k u more (leb-true base k (and_parts (nat_le base k) true (names r (variable sort (Some k)) l f)).0)

    low : base ≤ v
    low = from w v ends (leb-true base w (all-at (nat_le base) label i w h at))

    by : (((ks ≡ v ∷ []) × IsTrue (has_sort_at s MarkSort v)) ⊎ IsStringOf s v ks) → IsTrue (list_all (nat_le base) ks)
    by (inl (f, sort)) = subst (λ xs. IsTrue (list_all (nat_le base) xs)) (sym f) (and_from (nat_le base v) true (le-leb base v low) refl)
    by (inr f) = names v (string_cell ks) low f

flat-item : (s : Store) (w : ℕ) (ks ws ms : List ℕ) → IsTrue (is_store s) → IsFlatItem s w ks → IsFlat s ws ms → IsFlat s (w ∷ ws) (ks ++ ms)
flat-item s w ks ws ms h (v, ends, inl (e, sort)) f =
    let one = flat-mark s v ws ms sort f in
    subst (λ xs. IsFlat s (w ∷ ws) (xs ++ ms)) (sym e) (record { sorted = one.sorted; same = λ σ t. ap (λ x. join_label x (label_at σ ws)) (ends-same s w v ends σ t) ∙ one.same σ t })
flat-item s w ks ws ms h (v, ends, inr e) f = flat-string s w v ks ws ms h ends e f

item-free : (s : Store) (w : ℕ) (ks : List ℕ) → IsFlatItem s w ks → HasNoStringIn s w → HasNoString s ks
item-free s w ks (v, ends, inl (e, sort)) h x i r o p c = by i (ap (λ xs. slice_get xs i) (sym e) ∙ p)
  where
    by : (i : ℕ) → slice_get (v ∷ []) i ≡ Some r → ⊥
    by zero q = let z : v ≡ r = cc q in ends-free s w v ends h x o (subst (OccursIn s x) (sym z) c)
    by (suc i) q = cc q
item-free s w ks (v, ends, inr e) h x i r o p c = ends-free s w v ends h x o (in_part i e p c)

free-both : (s : Store) (xs ys : List ℕ) → HasNoString s xs → HasNoString s ys → HasNoString s (xs ++ ys)
free-both s [] ys a b v i r o e c = b v i r o e c
free-both s (x ∷ xs) ys a b v zero r o e c = a v 0 r o e c
free-both s (x ∷ xs) ys a b v (suc i) r o e c = free-both s xs ys (λ w j q z f d. a w (suc j) q z f d) b v i r o e c

-- ---- all items

-- these are the marks of the items before the place i
pub record IsFlatTo (s : Store) (ws ms : List ℕ) (i : ℕ) : Type 0 where
  pub rest : (ks : List ℕ) → IsFlat s (drop i ws) ks → IsFlat s ws (ms ++ ks)
  pub free : HasNoString s ms

pub flat-start : (s : Store) (ws : List ℕ) → IsFlatTo s ws [] 0
flat-start s ws = record { rest = λ ks h. h; free = λ v i r o e c. cc e }

pub flat-more : (s : Store) (ws ms after ks : List ℕ) (i w : ℕ) → IsTrue (is_store s) → HasNoString s ws → IsFlatTo s ws ms i → slice_get ws i ≡ Some w → after ≡ ms ++ ks → IsFlatItem s w ks → IsFlatTo s ws after (i + 1)
flat-more s ws ms after ks i w h free t e joined item = record {
  rest = λ us f. subst (IsFlat s ws) (sym (append_assoc ms ks us) ∙ ap (λ xs. xs ++ us) (sym joined)) (t.rest (ks ++ us) (subst (λ xs. IsFlat s xs (ks ++ us)) (sym (drop-there ws i w e)) (flat-item s w ks (drop (suc i) ws) us h item (subst (λ n. IsFlat s (drop n ws) us) more f))));
  free = subst (HasNoString s) (sym joined) (free-both s ms ks t.free (item-free s w ks item (λ v o c. free v i w o e c)));
}
  where
    more : i + 1 ≡ suc i
    more = omega arith

pub flat-all : (s : Store) (ws ms : List ℕ) (i : ℕ) → IsFlatTo s ws ms i → length ws ≤ i → IsFlat s ws ms
flat-all s ws ms i t l = subst (IsFlat s ws) (append-nil ms) (t.rest [] (subst (λ xs. IsFlat s xs []) (sym (drop-end ws i l)) (flat-none s)))

-- the item at a place
pub item-sorted : (s : Store) (ws : List ℕ) (i w : ℕ) → IsTrue (is_label s ws) → slice_get ws i ≡ Some w → IsTrue (has_label_sort_at s w)
item-sorted s ws i w h e = all-at (has_label_sort_at s) ws i w h e

pub item-clean : (s : Store) (ws : List ℕ) (i w : ℕ) → HasNoString s ws → slice_get ws i ≡ Some w → HasNoStringIn s w
item-clean s ws i w h e v o c = h v i w o e c
