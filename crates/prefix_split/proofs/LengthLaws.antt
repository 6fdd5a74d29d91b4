-- Giving strings their lengths one by one.
use Rattle.std.proofs.Common.{◌≡◌, ◌⊎◌, ℕ, zero, suc, ◌+◌, ◌<◌, ◌≤◌, List, [], ◌∷◌, drop, length, map, replicate, Bool, true, false, IsTrue, refl, sym, ◌∙◌, ap, subst, Some, None, slice_get, option_map, inl, inr, arith, eqb, eqb-true, eq-eqb, nat_le, lt-ltb, nat_lt}
use Rattle.std.specs.List.{list_all}
use Rattle.std.proofs.lemmas.Bool.{false≢true, cases_lt}
use Rattle.std.proofs.lemmas.List.{length-map}
use Rattle.plain_laws.proofs.Every.{all-at, all-drop, all-weaken}
use Rattle.plain_laws.proofs.Places.{get-end, get-there, get-within, drop-end, drop-there}
use Rattle.plain_laws.proofs.Options.{same-some}
use Rattle.term_store.proofs.OwnLaws.{places-own}
use Rattle.search_theory.proofs.WithinLaws.{occurs-from}
use Rattle.calculus.specs.declared.sort.Sort.{Sort}
use Rattle.calculus.specs.declared.sort.Sort.TheVariants.{MarkSort, StringSort}
use Rattle.store_theory.specs.Bindings.{BindsOnly, EndsIn, IsEnd, IsWellFormed, KeepsMarks, MayBind, NamesFrom, bind_at, bound_to, places_from, with_binding, with_cell, with_variables_of}
use Rattle.store_theory.specs.Patterns.{Grows}
use Rattle.store_theory.specs.Stores.{Cell, variable, string_cell, Store, parts_of, parts_fit, sort_of, has_sort_at, is_store, is_bound, EndsAt, stays, goes_on, Solution, Solves, names_below}
use Rattle.store_theory.specs.Systems.{HaveLengths, IsOpenString}
use Rattle.store_theory.proofs.BindingLaws.{get-bound, get-unbound, has_sort-from, is_store-with_cell, kept, length-bind, same_place, ends-there}
use Rattle.store_theory.proofs.PatternLaws.{Grows-both, Grows-variables, Grows-with_cell, grown-cell, length-places}
use Rattle.calculus.proofs.PlaceLists.{get-last}
use Rattle.store_theory.proofs.SolutionLaws.{Solves-bound, Solves-unbound, ends-same}
use Rattle.term_store.proofs.MarkLaws.{length-marks, variables-fit}
use Rattle.term_unify.proofs.PairLaws.{BindsOnly-with_binding, told}
pub use Rattle.term_unify.proofs.FlatLaws.{ends-sorted}
use Rattle.calculus.specs.Labels.{is_step_length}
use Rattle.calculus.specs.Syntax.{Problem}
use Rattle.search_theory.specs.KeepingCells.{SolvesRight}
use Rattle.search_theory.specs.LabelledCells.{AreLabelled}
use Rattle.search_theory.specs.Solving.{CannotHave, IsNarrowed}
use Rattle.search_theory.specs.Steps.{IsUnified}
use Rattle.search_theory.proofs.BuildingLaws.{AreStores, length-plus}
use Rattle.search_theory.proofs.FromLaws.{IsFrom, labelled-bound, labelled-plus}
use Rattle.search_theory.proofs.GivingLaws.{length-given, length-other, length-there, lengths-fail-first, lengths-fail-later, lengths-more, lengths-none}
use Rattle.search_theory.proofs.SolvingLaws.{all-below}
use Rattle.prefix_split.specs.Giving.{HasLength, IsBuiltEnd, IsGiven, IsUnboundString}
use Rattle.prefix_split.specs.Later.{HasNoStringIn, IsBuiltString, IsLater, KeepsRight}
use Rattle.prefix_split.proofs.LaterLaws.{HasStringFreeTargets, ends-grown, later-both, later-grown, later-same, later-targets}

-- ---- new marks and their string

abbrev pub marked : ℕ → Store → Store
marked n s = with_variables_of (replicate n MarkSort) s

abbrev pub with_string : ℕ → Store → Store
with_string n s = with_cell (string_cell (places_from (length s.cells) n)) (marked n s)

stores-of : (n : ℕ) (s : Store) → IsTrue (is_store s) → AreStores (replicate n MarkSort) s
stores-of zero s h = h
stores-of (suc n) s h = (h, stores-of n (with_cell (variable MarkSort None) s) (is_store-with_cell (variable MarkSort None) s h refl refl))

marked-store : (n : ℕ) (s : Store) → IsTrue (is_store s) → IsTrue (is_store (marked n s))
marked-store zero s h = h
marked-store (suc n) s h = marked-store n (with_cell (variable MarkSort None) s) (is_store-with_cell (variable MarkSort None) s h refl refl)

fits : (n : ℕ) (s : Store) → IsTrue (parts_fit (marked n s) (string_cell (places_from (length s.cells) n)))
fits n s = variables-fit n MarkSort s (length s.cells) refl

-- cells from `base` on name such cells alone
names-plus : (base : ℕ) (c : Cell) (s : Store) → IsTrue (list_all (nat_le base) (parts_of c)) → NamesFrom base s → NamesFrom base (with_cell c s)
names-plus base c s h k n d l e = elim (get-last s.cells n d c e) [
  | inl f ↦ k n d l f
  | inr (q, same) ↦ subst (λ x. IsTrue (list_all (nat_le base) (parts_of x))) same h
]

names-marked : (base n : ℕ) (s : Store) → NamesFrom base s → NamesFrom base (marked n s)
names-marked base zero s h = h
names-marked base (suc n) s h = names-marked base n (with_cell (variable MarkSort None) s) (names-plus base (variable MarkSort None) s refl h)

names-string : (n : ℕ) (s : Store) → NamesFrom (length s.cells) (with_string n s)
names-string n s =
    let size = length s.cells in
    names-plus size (string_cell (places_from size n)) (marked n s) (places-own size size n (omega arith)) (names-marked size n s (λ k c l e. (let m = get-within s.cells k c e in absurd (omega (arith, l, m)))))

-- no new cell is an unbound string
open-marked : (n : ℕ) (s : Store) (v : ℕ) → IsOpenString (marked n s) v → IsOpenString s v
open-marked zero s v o = o
open-marked (suc n) s v o = elim (get-last s.cells v (variable StringSort None) (variable MarkSort None) (open-marked n (with_cell (variable MarkSort None) s) v o)) [
  | inl f ↦ f
  | inr (q, same) ↦ cc same
]

open-string : (n : ℕ) (s : Store) (v : ℕ) → IsOpenString (with_string n s) v → IsOpenString s v
open-string n s v o = elim (get-last (marked n s).cells v (variable StringSort None) (string_cell (places_from (length s.cells) n)) o) [
  | inl f ↦ open-marked n s v f
  | inr (q, same) ↦ cc same
]

fresh-string : (n : ℕ) (s : Store) (v : ℕ) → length s.cells ≤ v → ¬ IsOpenString (with_string n s) v
fresh-string n s v l o = let k = get-within s.cells v (variable StringSort None) (open-string n s v o) in omega (arith, l, k)

top : ℕ → Store → ℕ
top n s = length (marked n s).cells

top-is : (n : ℕ) (s : Store) → top n s ≡ length s.cells + n
unfolding top
top-is n s = length-marks n s

long : (n : ℕ) (s : Store) → length (with_string n s).cells ≡ top n s + 1
unfolding top
long n s = length-plus (string_cell (places_from (length s.cells) n)) (marked n s)

string-there : (n : ℕ) (s : Store) → slice_get (with_string n s).cells (top n s) ≡ Some (string_cell (places_from (length s.cells) n))
unfolding top
string-there n s = get-end (marked n s).cells (string_cell (places_from (length s.cells) n))

no_string-new : (n : ℕ) (s : Store) → HasNoStringIn (with_string n s) (top n s)
no_string-new n s v o w =
    let l = occurs-from (length s.cells) (with_string n s) (names-string n s) v (top n s) w (let e = top-is n s in omega (arith, e)) in
    let m = get-within s.cells v (variable StringSort None) (open-string n s v o) in
    omega (arith, l, m)

grown : (n : ℕ) (s : Store) → Grows s (with_string n s)
grown n s = Grows-both s (marked n s) (with_string n s) (Grows-variables (replicate n MarkSort) s) (Grows-with_cell (string_cell (places_from (length s.cells) n)) (marked n s))

unbound-there : (n : ℕ) (s : Store) (v : ℕ) → IsUnboundString s v → slice_get (with_string n s).cells v ≡ Some (variable StringSort None)
unbound-there n s v e = grown-cell s (with_string n s) v (variable StringSort None) (grown n s) e

pub may-bind : (n : ℕ) (s : Store) (v : ℕ) → IsUnboundString s v → MayBind (with_string n s) v (length s.cells + n)
may-bind n s v e = subst (MayBind (with_string n s) v) (top-is n s) (record {
  sort = StringSort;
  open_cell = unbound-there n s v e;
  same_sort = has_sort-from (with_string n s) StringSort (top n s) (string_cell (places_from (length s.cells) n)) (string-there n s) refl;
  no_cycle = λ w. no_string-new n s v (unbound-there n s v e) w;
})

-- ---- the unbound string is bound to it

targets : (n : ℕ) (s : Store) (v : ℕ) → IsUnboundString s v → HasStringFreeTargets (with_string n s) (with_binding v (top n s) (with_string n s))
targets n s v e m k sort f g = elim (same_place v m) [
  | inl same ↦
      let at : slice_get (bind_at v (top n s) (with_string n s).cells) v ≡ Some (variable sort (Some k)) = ap (slice_get (bind_at v (top n s) (with_string n s).cells)) same ∙ g in
      let is : slice_get (bind_at v (top n s) (with_string n s).cells) v ≡ Some (variable StringSort (Some (top n s))) = get-bound v (top n s) (with_string n s).cells ∙ ap (option_map (bound_to (top n s))) (unbound-there n s v e) in
      let q : variable StringSort (Some (top n s)) ≡ variable sort (Some k) = same-some (slice_get (bind_at v (top n s) (with_string n s).cells) v) (variable StringSort (Some (top n s))) (variable sort (Some k)) is at in
      let p : top n s ≡ k = cc q in
      subst (HasNoStringIn (with_string n s)) p (no_string-new n s)
  | inr other ↦
      let q : variable sort None ≡ variable sort (Some k) = same-some (slice_get (with_string n s).cells m) (variable sort None) (variable sort (Some k)) f (sym (get-unbound v (top n s) m (with_string n s).cells other) ∙ g) in
      cc q
]

pub later-given : (n : ℕ) (s : Store) (v : ℕ) → IsTrue (is_store s) → IsUnboundString s v → KeepsMarks s (with_string n s) → KeepsMarks (with_string n s) (with_binding v (length s.cells + n) (with_string n s)) → IsLater s (with_binding v (length s.cells + n) (with_string n s))
later-given n s v h e a b =
    let mid = with_string n s in
    later-both s mid (with_binding v (length s.cells + n) mid)
    (later-grown s mid h (grown n s) (let x = top-is n s in let y = long n s in omega (arith, x, y)) (fresh-string n s) a)
    (subst (λ p. KeepsMarks mid (with_binding v p mid) → IsLater mid (with_binding v p mid)) (top-is n s) (λ k. later-targets mid (with_binding v (top n s) mid) (BindsOnly-with_binding v (top n s) mid StringSort (unbound-there n s v e)) (targets n s v e) k) b)

pub later-string : (n : ℕ) (s : Store) → IsTrue (is_store s) → KeepsMarks s (with_string n s) → IsLater s (with_string n s)
later-string n s h a = later-grown s (with_string n s) h (grown n s) (let x = top-is n s in let y = long n s in omega (arith, x, y)) (fresh-string n s) a

ends-extended : (s : Store) (r v p : ℕ) (rs : List ℕ) → slice_get s.cells v ≡ Some (variable StringSort None) → slice_get s.cells p ≡ Some (string_cell rs) → EndsAt s r v → EndsAt (with_binding v p s) r p
ends-extended s r v p rs e f (stays {c = c} g b) = goes_on here-bound (stays there refl)
  where
    here-bound : slice_get (bind_at r p s.cells) r ≡ Some (variable StringSort (Some p))
    here-bound = get-bound r p s.cells ∙ ap (option_map (bound_to p)) e

    other : ¬ (r ≡ p)
    other q = let z : variable StringSort None ≡ string_cell rs = same-some (slice_get s.cells r) (variable StringSort None) (string_cell rs) e (ap (slice_get s.cells) q ∙ f) in cc z

    there : slice_get (bind_at r p s.cells) p ≡ Some (string_cell rs)
    there = get-unbound r p p s.cells other ∙ f
ends-extended s r v p rs e f (goes_on {k = k} {sort = sort} g more) = goes_on (get-unbound v p r s.cells other ∙ g) (ends-extended s k v p rs e f more)
  where
    other : ¬ (v ≡ r)
    other q = let z : variable StringSort None ≡ variable sort (Some k) = same-some (slice_get s.cells v) (variable StringSort None) (variable sort (Some k)) e (ap (slice_get s.cells) q ∙ g) in cc z

given-top : (n : ℕ) (s : Store) (r v : ℕ) → IsTrue (is_store s) → EndsAt s r v → IsUnboundString s v → r < length s.cells → IsGiven s (with_binding v (top n s) (with_string n s)) r n
unfolding top
given-top n s r v h ends e l =
    let mid = with_string n s in
    let new = with_binding v (top n s) mid in
    let open_cell = unbound-there n s v e in
    let ends_mid = ends-grown s mid (grown n s) r v ends in
    let sorted = has_sort-from mid StringSort (top n s) (string_cell (places_from (length s.cells) n)) (string-there n s) refl in
    let unified : IsUnified mid new r (length (marked n s).cells) = record {
      size = length-bind v (top n s) mid.cells;
      back = λ σ t. (let (a, b) = Solves-unbound v (top n s) mid σ StringSort open_cell t in (a, ends-same mid σ r v a ends_mid ∙ b));
      forth = λ σ t q. Solves-bound v (top n s) mid σ StringSort open_cell sorted t (sym (ends-same mid σ r v t ends_mid) ∙ q);
    } in
    record {
      narrowed = length-given s new r n (stores-of n s h) (marked-store n s h) (fits n s) (lt r (length s.cells) l) unified;
      built = (top n s, places_from (length s.cells) n, ends-extended mid r v (top n s) (places_from (length s.cells) n) open_cell (string-there n s) ends_mid, there);
    }
  where
    lt : (a b : ℕ) → a < b → IsTrue (nat_lt a b)
    lt a b k = lt-ltb a b k

    there : slice_get (with_binding v (top n s) (with_string n s)).cells (top n s) ≡ Some (string_cell (places_from (length s.cells) n))
    there = get-unbound v (top n s) (top n s) (with_string n s).cells (λ q. (let z : variable StringSort None ≡ string_cell (places_from (length s.cells) n) = same-some (slice_get (with_string n s).cells v) (variable StringSort None) (string_cell (places_from (length s.cells) n)) (unbound-there n s v e) (ap (slice_get (with_string n s).cells) q ∙ string-there n s) in cc z)) ∙ string-there n s

pub given-bound : (n : ℕ) (s : Store) (r v : ℕ) → IsTrue (is_store s) → EndsAt s r v → IsUnboundString s v → r < length s.cells → IsGiven s (with_binding v (length s.cells + n) (with_string n s)) r n
given-bound n s r v h ends e l = subst (λ p. IsGiven s (with_binding v p (with_string n s)) r n) (top-is n s) (given-top n s r v h ends e l)

-- ---- what is built is right

pub right-both : (P : Problem) (ks : List ℕ) (s t u : Store) → length s.cells ≤ length t.cells → KeepsRight P ks s t → KeepsRight P ks t u → KeepsRight P ks s u
right-both P ks s t u longer h k base l from a = k base (omega (arith, longer, l)) from (h base l from a)

pub right-solved : (P : Problem) (ks : List ℕ) (s t u : Store) → length s.cells ≤ length t.cells → KeepsRight P ks s t → SolvesRight P ks t u → SolvesRight P ks s u
right-solved P ks s t u longer h k σ solved = right-both P ks s t u longer h (k σ solved)

pub right-more : (P : Problem) (ks : List ℕ) (s t : Store) → KeepsRight P [] s t → KeepsRight P ks s t
right-more P ks s t h base l from a = h base l refl a

labelled-marked : (P : Problem) (base n : ℕ) (s : Store) → IsTrue (is_store s) → AreLabelled P (IsFrom base) s → AreLabelled P (IsFrom base) (marked n s)
labelled-marked P base zero s h a = a
labelled-marked P base (suc n) s h a = labelled-marked P base n (with_cell (variable MarkSort None) s) (is_store-with_cell (variable MarkSort None) s h refl refl) (labelled-plus P base s (variable MarkSort None) h refl refl a)

-- the string is a step where its length is one
pub right-given : (P : Problem) (n : ℕ) (s : Store) (v : ℕ) → IsTrue (is_store s) → IsUnboundString s v → IsTrue (is_step_length P.setting.logic n) → KeepsRight P [] s (with_binding v (length s.cells + n) (with_string n s))
right-given P n s v h e step base l none a = subst (λ p. AreLabelled P (IsFrom base) (with_binding v p (with_string n s))) (top-is n s) bound
  where
    mid : AreLabelled P (IsFrom base) (with_string n s)
    mid = labelled-plus P base (marked n s) (string_cell (places_from (length s.cells) n)) (marked-store n s h) (places-own base (length s.cells) n l) (subst (λ m. IsTrue (is_step_length P.setting.logic m)) (sym (length-places (length s.cells) n)) step) (labelled-marked P base n s h a)

    bound : AreLabelled P (IsFrom base) (with_binding v (top n s) (with_string n s))
    bound = labelled-bound P base (with_string n s) (with_binding v (top n s) (with_string n s)) v StringSort (top n s) (is_store-with_cell (string_cell (places_from (length s.cells) n)) (marked n s) (marked-store n s h) (fits n s) refl)
        (record {
          size = length-bind v (top n s) (with_string n s).cells;
          was = unbound-there n s v e;
          is = get-bound v (top n s) (with_string n s).cells ∙ ap (option_map (bound_to (top n s))) (unbound-there n s v e);
          rest = λ r other. get-unbound v (top n s) r (with_string n s).cells (λ q. other (sym q));
        })
        (let t = top-is n s in omega (arith, l, t)) mid

-- ---- a string that is built

count-told : (s : Store) (v count : ℕ) (rs : List ℕ) → slice_get s.cells v ≡ Some (string_cell rs) → EndsIn s v (λ c. count ≡ length (parts_of c)) → count ≡ length rs
count-told s v count rs e t = told s v (string_cell rs) (λ c. count ≡ length (parts_of c)) e refl t

pub given-there : (s : Store) (r v n count : ℕ) → EndsAt s r v → IsBuiltEnd s v → EndsIn s v (λ c. count ≡ length (parts_of c)) → eqb count n ≡ true → IsGiven s s r n
given-there s r v n count ends (rs, e) t q =
    let same : length rs ≡ n = sym (count-told s v count rs e t) ∙ eqb-true count n q in
    record { narrowed = subst (λ m. IsNarrowed s s (λ σ. HasLength σ r m)) same (length-there s r v rs ends e); built = (v, rs, ends, e) }

pub never-given : (s : Store) (r v n count : ℕ) → EndsAt s r v → IsBuiltEnd s v → EndsIn s v (λ c. count ≡ length (parts_of c)) → eqb count n ≡ false → (σ : Solution) → Solves s σ → ¬ HasLength σ r n
never-given s r v n count ends (rs, e) t q = length-other s r v n rs ends e (λ same. false≢true (sym q ∙ eq-eqb count n (count-told s v count rs e t ∙ same)))

-- ---- all strings

abbrev HaveAll : List ℕ → List ℕ → Solution → Type 0
HaveAll rs ns σ = HaveLengths σ rs ns

-- the strings before the place i have their lengths
pub record IsGivenTo (old cur : Store) (rs ns : List ℕ) (i : ℕ) : Type 0 where
  pub rest : (new : Store) → IsNarrowed cur new (λ σ. HaveLengths σ (drop i rs) (drop i ns)) → IsNarrowed old new (λ σ. HaveLengths σ rs ns)
  pub apart : CannotHave cur (drop i rs) (drop i ns) → CannotHave old rs ns
  pub built : (j r : ℕ) → j < i → slice_get rs j ≡ Some r → IsBuiltString cur r
  pub later : IsLater old cur

pub given-none : (s : Store) (rs ns : List ℕ) → IsGivenTo s s rs ns 0
given-none s rs ns = record { rest = λ new h. h; apart = λ h. h; built = λ j r l e. absurd (omega (arith, l)); later = later-same s }

-- the cells of the strings from the place i on
here-below : (cur : Store) (rs : List ℕ) (i r : ℕ) → IsTrue (list_all (has_sort_at cur StringSort) rs) → slice_get rs i ≡ Some r → IsTrue (names_below (length cur.cells) (r ∷ drop (suc i) rs))
here-below cur rs i r h e = subst (λ xs. IsTrue (names_below (length cur.cells) xs)) (drop-there rs i r e) (all-below cur StringSort (drop i rs) (all-drop (has_sort_at cur StringSort) i rs h))

pub sorted-later : (old cur : Store) (sort : Sort) (rs : List ℕ) → IsLater old cur → IsTrue (list_all (has_sort_at old sort) rs) → IsTrue (list_all (has_sort_at cur sort) rs)
sorted-later old cur sort rs h k = all-weaken (has_sort_at old sort) (has_sort_at cur sort) (h.sorts sort) rs k

pub given-more : (old mid new : Store) (rs ns : List ℕ) (i r n : ℕ) → IsTrue (list_all (has_sort_at old StringSort) rs) → IsGivenTo old mid rs ns i → slice_get rs i ≡ Some r → slice_get ns i ≡ Some n → IsGiven mid new r n → IsLater mid new → IsGivenTo old new rs ns (i + 1)
given-more old mid new rs ns i r n sorted h er en g later = record {
  rest = λ end k. h.rest end (subst (λ xs. IsNarrowed mid end (HaveAll xs (drop i ns))) (sym (drop-there rs i r er)) (subst (λ ms. IsNarrowed mid end (HaveAll (r ∷ drop (suc i) rs) ms)) (sym (drop-there ns i n en))
      (lengths-more mid new end r n (drop (suc i) rs) (drop (suc i) ns) below g.narrowed (subst (λ j. IsNarrowed new end (HaveAll (drop j rs) (drop j ns))) more k))));
  apart = λ k. h.apart (subst (λ xs. CannotHave mid xs (drop i ns)) (sym (drop-there rs i r er)) (subst (λ ms. CannotHave mid (r ∷ drop (suc i) rs) ms) (sym (drop-there ns i n en))
      (lengths-fail-later mid new r n (drop (suc i) rs) (drop (suc i) ns) below g.narrowed (subst (λ j. CannotHave new (drop j rs) (drop j ns)) more k))));
  built = λ j q l e. elim (same_place j i) [
    | inl same ↦ (let z : r ≡ q = same-some (slice_get rs i) r q er (ap (slice_get rs) (sym same) ∙ e) in subst (IsBuiltString new) z g.built)
    | inr other ↦ later.built q (h.built j q (below-other j other l) e)
  ];
  later = later-both old mid new h.later later;
}
  where
    more : i + 1 ≡ suc i
    more = omega arith

    below-other : (j : ℕ) → ¬ (j ≡ i) → j < i + 1 → j < i
    below-other j other l = elim (cases_lt j i) [ inl k ↦ k | inr k ↦ absurd (other (omega (arith, k, l))) ]

    below : IsTrue (names_below (length mid.cells) (r ∷ drop (suc i) rs))
    below = here-below mid rs i r (sorted-later old mid StringSort rs h.later sorted) er

pub never-more : (old mid : Store) (rs ns : List ℕ) (i r n : ℕ) → IsGivenTo old mid rs ns i → slice_get rs i ≡ Some r → slice_get ns i ≡ Some n → ((σ : Solution) → Solves mid σ → ¬ HasLength σ r n) → CannotHave old rs ns
never-more old mid rs ns i r n h er en never = h.apart (subst (λ xs. CannotHave mid xs (drop i ns)) (sym (drop-there rs i r er)) (subst (λ ms. CannotHave mid (r ∷ drop (suc i) rs) ms) (sym (drop-there ns i n en)) (lengths-fail-first mid r n (drop (suc i) rs) (drop (suc i) ns) never)))

pub given-all : (old new : Store) (rs ns : List ℕ) (i : ℕ) → IsGivenTo old new rs ns i → length rs ≤ i → length ns ≤ i → IsNarrowed old new (λ σ. HaveLengths σ rs ns)
given-all old new rs ns i h l m = h.rest new (subst (λ xs. IsNarrowed new new (HaveAll xs (drop i ns))) (sym (drop-end rs i l)) (subst (λ ms. IsNarrowed new new (HaveAll [] ms)) (sym (drop-end ns i m)) (lengths-none new)))

pub built-all : (old new : Store) (rs ns : List ℕ) (i : ℕ) → IsGivenTo old new rs ns i → length rs ≤ i → (j r : ℕ) → slice_get rs j ≡ Some r → IsBuiltString new r
built-all old new rs ns i h l j r e = h.built j r (let m = get-within rs j r e in omega (arith, l, m)) e

-- the string at the place is one of the cells
pub string-at : (old cur : Store) (rs : List ℕ) (i r : ℕ) → IsLater old cur → IsTrue (list_all (has_sort_at old StringSort) rs) → slice_get rs i ≡ Some r → IsTrue (has_sort_at cur StringSort r)
string-at old cur rs i r h k e = h.sorts StringSort r (all-at (has_sort_at old StringSort) rs i r k e)
