-- The cells of whose values the value of a cell is made: its parts, or the items of a label.
use Rattle.std.proofs.Common.{◌≡◌, ◌+◌, ◌<◌, ◌≤◌, ℕ, zero, suc, List, [], ◌∷◌, ◌++◌, Bool, true, false, IsTrue, length, map, take, refl, sym, ◌∙◌, ap, subst, Option, None, Some, slice_get, get_or, nat_lt, ltb-true, lt-ltb, arith}
use Rattle.std.specs.List.{AllByRecursion, list_all}
use Rattle.std.proofs.lemmas.Bool.{and_from, and_parts}
use Rattle.std.proofs.lemmas.List.{map-append, take_all}
use Rattle.std.proofs.lemmas.Option.{slice_get_within}
use Rattle.calculus.specs.declared.sort.Sort.TheVariants.{TermSort, MarkSort, StringSort}
use Rattle.store_theory.specs.Bindings.{EndsIn, IsEnd}
use Rattle.store_theory.specs.Stores.{Cell, variable, fun_cell, eigen_cell, new_cell, string_cell, is_bound, Store, EndsAt, GammaCell, names_below, parts_of}
use Rattle.store_theory.proofs.BindingLaws.{ends-once}
use Rattle.term_store.specs.Shown.{head_of}
use Rattle.term_store.specs.declared.cell.Head.{Head}
use Rattle.tableau_reading.specs.Grounds.{Needs, home_of, is_open_term, label_in, label_numbered, needs_of, number_in, or_nothing, unless_common}
use Rattle.tableau_reading.specs.Readable.{AreHomesBelow, IsPlace, is_gamma_below}
use Rattle.term_store.specs.ClauseView.{the_gamma}
use Rattle.term_store.specs.RefView.{the_place}
use Rattle.term_store.specs.declared.clause.GammaUse.{GammaUse}
use Rattle.term_store.specs.declared.cell.Ref.{Ref}
use Rattle.tableau_reading.specs.declared.homes.Homes.{Homes}
use Rattle.tableau_reading.proofs.GroundLaws.{head-there}
use Rattle.search_tree.proofs.Places.{take-next}
use Rattle.std.proofs.Common.{option_map}
use Rattle.plain_laws.proofs.Every.{each-parts, all-at, each-push}

-- ---- what a value is made of

pub needs-home : (s : Store) (h : Homes) (v : ℕ) (x : Head) (rs : List ℕ) → IsEnd s v → EndsIn s v (λ d. head_of d ≡ x) → is_open_term x ≡ true → rs ≡ or_nothing (home_of h v) → Needs s h v rs
needs-home s h v x rs end ends open_term is = record { cell = end.0; stands = end.1; needs = is ∙ sym (by end.0 end.2 (ap is_open_term (head-there s v end.0 x end end.1 ends) ∙ open_term)) }
  where
    by : (c : Cell) → is_bound c ≡ false → is_open_term (head_of c) ≡ true → needs_of h v c ≡ or_nothing (home_of h v)
    by (variable TermSort None) u k = refl
    by (variable MarkSort None) u k = cc k
    by (variable StringSort None) u k = cc k
    by (variable sort (Some r)) u k = cc u
    by (fun_cell f qs) u k = cc k
    by (eigen_cell p qs) u k = cc k
    by (new_cell p qs) u k = cc k
    by (string_cell qs) u k = cc k

pub needs-parts : (s : Store) (h : Homes) (v : ℕ) (x : Head) (rs : List ℕ) → IsEnd s v → EndsIn s v (λ d. head_of d ≡ x) → is_open_term x ≡ false → ((c : Cell) → slice_get s.cells v ≡ Some c → rs ≡ parts_of c) → Needs s h v rs
needs-parts s h v x rs end ends other is = record { cell = end.0; stands = end.1; needs = is end.0 end.1 ∙ sym (by end.0 end.2 (ap is_open_term (head-there s v end.0 x end end.1 ends) ∙ other)) }
  where
    by : (c : Cell) → is_bound c ≡ false → is_open_term (head_of c) ≡ false → needs_of h v c ≡ parts_of c
    by (variable TermSort None) u k = cc k
    by (variable MarkSort None) u k = refl
    by (variable StringSort None) u k = refl
    by (variable sort (Some r)) u k = refl
    by (fun_cell f qs) u k = refl
    by (eigen_cell p qs) u k = refl
    by (new_cell p qs) u k = refl
    by (string_cell qs) u k = refl

-- the parts so far, of which one more is read
pub parts-more : (s : Store) (v i k : ℕ) (rs : List ℕ) → IsEnd s v → EndsIn s v (λ c. slice_get (parts_of c) i ≡ Some k) → ((c : Cell) → slice_get s.cells v ≡ Some c → rs ≡ take i (parts_of c)) → (c : Cell) → slice_get s.cells v ≡ Some c → rs ++ k ∷ [] ≡ take (i + 1) (parts_of c)
parts-more s v i k rs (d, f, u) (w, x, ends, at, part) h c e =
    let same : v ≡ w = ends-once s v v w (EndsAt.stays f u) ends in
    let q : x ≡ c = let z : Some x ≡ Some c = sym at ∙ ap (slice_get s.cells) (sym same) ∙ e in cc z in
    ap (λ xs. xs ++ k ∷ []) (h c e) ∙ sym (take-next (parts_of c) i k (subst (λ y. slice_get (parts_of y) i ≡ Some k) q part))

-- all are read
pub parts-all : (s : Store) (v i n : ℕ) (rs : List ℕ) → IsEnd s v → EndsIn s v (λ c. n ≡ length (parts_of c)) → n ≤ i → ((c : Cell) → slice_get s.cells v ≡ Some c → rs ≡ take i (parts_of c)) → (c : Cell) → slice_get s.cells v ≡ Some c → rs ≡ parts_of c
parts-all s v i n rs (d, f, u) (w, x, ends, at, count) l h c e =
    let same : v ≡ w = ends-once s v v w (EndsAt.stays f u) ends in
    let q : x ≡ c = let z : Some x ≡ Some c = sym at ∙ ap (slice_get s.cells) (sym same) ∙ e in cc z in
    let all : n ≡ length (parts_of c) = subst (λ y. n ≡ length (parts_of y)) q count in
    h c e ∙ take_all i (parts_of c) (omega (arith, all, l))

pub below-more : (n k : ℕ) (rs : List ℕ) → IsTrue (names_below n rs) → k < n → IsTrue (names_below n (rs ++ k ∷ []))
below-more n k [] h l = and_from (nat_lt k n) true (lt-ltb k n l) refl
below-more n k (r ∷ rs) h l = let p = and_parts (nat_lt r n) (names_below n rs) h in and_from (nat_lt r n) (names_below n (rs ++ k ∷ [])) p.0 (below-more n k rs p.1 l)

-- ---- homes

label-below : (n : ℕ) (gs : List GammaCell) (o : Option ℕ) → IsTrue (list_all (is_gamma_below n) gs) → IsTrue (names_below n (label_numbered gs o))
label-below n gs None h = refl
label-below n gs (Some i) h = by (slice_get gs i) refl
  where
    by : (o : Option GammaCell) → slice_get gs i ≡ o → IsTrue (names_below n (label_in o))
    by None e = refl
    by (Some g) e = (and_parts (nat_lt g.term n) (names_below n g.label) (all-at (is_gamma_below n) gs i g h e)).1

pub home-below : (s : Store) (h : Homes) (v : ℕ) → AreHomesBelow s h → IsTrue (names_below (length s.cells) (or_nothing (home_of h v)))
home-below s h v k = by h.common
  where
    by : (b : Bool) → IsTrue (names_below (length s.cells) (or_nothing (unless_common b (label_numbered h.gammas (number_in (slice_get h.first.items v))))))
    by true = refl
    by false = label-below (length s.cells) h.gammas (number_in (slice_get h.first.items v)) k

pub gamma-below : (n : ℕ) (gs : List GammaCell) (items : List GammaUse) (i : ℕ) (d : GammaUse) → IsTrue (list_all (is_gamma_below n) gs) → map the_gamma items ≡ gs → i < length items → (get_or items i d).term.0 < n
gamma-below n gs items i d h e l = by items i (subst (λ xs. IsTrue (list_all (is_gamma_below n) xs)) (sym e) h) l
  where
    by : (xs : List GammaUse) (j : ℕ) → IsTrue (list_all (is_gamma_below n) (map the_gamma xs)) → j < length xs → (get_or xs j d).term.0 < n
    by [] j k l = absurd (omega (arith, l))
    by (x ∷ xs) zero k l = let p = and_parts (is_gamma_below n (the_gamma x)) (list_all (is_gamma_below n) (map the_gamma xs)) k in ltb-true x.term.0 n (and_parts (nat_lt x.term.0 n) (names_below n x.label) p.0).0
    by (x ∷ xs) (suc j) k l = by xs j (and_parts (is_gamma_below n (the_gamma x)) (list_all (is_gamma_below n) (map the_gamma xs)) k).1 (omega (arith, l))

-- ---- lists of references

pub places-more : (items before : List Ref) (r : Ref) → items ≡ before ++ r ∷ [] → map the_place items ≡ map the_place before ++ r.0 ∷ []
places-more items before r e = ap (map the_place) e ∙ map-append the_place before (r ∷ [])

-- one end more is asked for
pub ends-more : (s : Store) (items before : List Ref) (r : Ref) → items ≡ before ++ r ∷ [] → AllByRecursion (IsPlace s) before → IsEnd s r.0 → AllByRecursion (IsPlace s) items
ends-more s items before r e h k = subst (AllByRecursion (IsPlace s)) (sym e) (each-push (IsPlace s) before r h k)

pub no-ends : (s : Store) (items : List Ref) → items ≡ [] → AllByRecursion (IsPlace s) items
no-ends s items e = subst (AllByRecursion (IsPlace s)) (sym e) tt

-- the last one is taken
pub ends-last : (s : Store) (items rest : List Ref) (r : Ref) → items ≡ rest ++ r ∷ [] → AllByRecursion (IsPlace s) items → AllByRecursion (IsPlace s) rest × IsEnd s r.0
ends-last s items rest r e h =
    let p = each-parts (IsPlace s) rest (r ∷ []) (subst (AllByRecursion (IsPlace s)) e h) in
    (p.0, p.1.0)

pub end-within : (s : Store) (v : ℕ) → IsEnd s v → v < length s.cells
end-within s v (c, e, u) = slice_get_within s.cells v c e

-- ---- loops

abbrev pub PartsTo : Store → ℕ → ℕ → List Ref → Type 0
PartsTo s v i items = ((c : Cell) → slice_get s.cells v ≡ Some c → map the_place items ≡ take i (parts_of c)) × IsTrue (names_below (length s.cells) (map the_place items))

pub parts-none : (s : Store) (v : ℕ) (items : List Ref) → items ≡ [] → PartsTo s v 0 items
parts-none s v items q = subst (PartsTo s v 0) (sym q) (λ c e. refl, refl)

pub parts-step : (s : Store) (v i : ℕ) (items before : List Ref) (r : Ref) → items ≡ before ++ r ∷ [] → IsEnd s v → EndsIn s v (λ c. slice_get (parts_of c) i ≡ Some r.0) → r.0 < length s.cells → PartsTo s v i before → PartsTo s v (i + 1) items
parts-step s v i items before r q end ends l h = (
  λ c e. places-more items before r q ∙ parts-more s v i r.0 (map the_place before) end ends h.0 c e,
  subst (λ xs. IsTrue (names_below (length s.cells) xs)) (sym (places-more items before r q)) (below-more (length s.cells) r.0 (map the_place before) h.1 l),
)

-- what label_of gives
pub home-none : {A : Type 0} (f : A → List ℕ) (o : Option A) (home : Option (List ℕ)) → o ≡ None → option_map f o ≡ home → [] ≡ or_nothing home
home-none f o home e h = ap or_nothing (ap (option_map f) (sym e) ∙ h)

pub home-some : {A : Type 0} (f : A → List ℕ) (o : Option A) (x : A) (home : Option (List ℕ)) → o ≡ Some x → option_map f o ≡ home → f x ≡ or_nothing home
home-some f o x home e h = ap or_nothing (ap (option_map f) (sym e) ∙ h)

pub items-below : (s : Store) (h : Homes) (v : ℕ) (rs : List ℕ) → AreHomesBelow s h → rs ≡ or_nothing (home_of h v) → IsTrue (names_below (length s.cells) rs)
items-below s h v rs k e = subst (λ xs. IsTrue (names_below (length s.cells) xs)) (sym e) (home-below s h v k)

pub home-common : (h : Homes) (v : ℕ) → h.common ≡ true → home_of h v ≡ None
home-common h v e = ap (λ b. unless_common b (label_numbered h.gammas (number_in (slice_get h.first.items v)))) e

pub home-own : (h : Homes) (v : ℕ) → h.common ≡ false → home_of h v ≡ Some (label_numbered h.gammas (number_in (slice_get h.first.items v)))
home-own h v e = ap (λ b. unless_common b (label_numbered h.gammas (number_in (slice_get h.first.items v)))) e

pub places-all : (items before more : List Ref) → items ≡ before ++ more → before ≡ [] → items ≡ more
places-all items before more e h = e ∙ ap (λ xs. xs ++ more) h
