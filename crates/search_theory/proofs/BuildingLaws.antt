-- A template that is copied cell by cell is a copy in the sense of the search's steps.
use Rattle.std.proofs.Common.{◌≡◌, ◌⊎◌, ℕ, zero, suc, ◌+◌, ◌<◌, ◌≤◌, List, [], ◌∷◌, ◌++◌, length, map, Bool, true, false, ◌||◌, ◌==◌, IsTrue, refl, sym, ◌∙◌, ap, ap₂, subst, Option, Some, None, option_map, slice_get, nat_lt, inl, inr, arith, eqb-true, eq-eqb, ltb-true, lt-ltb, length-append, if◌then◌else◌}
use Rattle.std.specs.List.{list_all}
use Rattle.std.proofs.lemmas.Bool.{false≢true, cases_Bool, and_parts, and_from}
use Rattle.std.proofs.lemmas.Option.{slice_get_within, slice_get-map}
use Rattle.plain_laws.proofs.Every.{all-at, all-weaken}
use Rattle.plain_laws.proofs.Places.{get-front, get-end}
use Rattle.store_theory.proofs.BindingLaws.{within-value}
use Rattle.store_theory.proofs.PatternLaws.{length-variables}
use Rattle.calculus.specs.declared.sign.Side.{Side}
use Rattle.calculus.specs.declared.sort.Sort.{Sort}
use Rattle.calculus.specs.declared.sort.Sort.TheVariants.{TermSort, MarkSort, StringSort}
use Rattle.calculus.specs.Ground.{GroundTerms, Value, Values, g_fun, g_eigen, no_g_terms, more_g_terms, g_new_mark, term, steps, no_values, more_values, marks_tree, values_tree}
use Rattle.calculus.specs.Lists.{marks_list-marks_tree, marks_tree-marks_list}
use Rattle.store_theory.specs.Stores.{Cell, variable, fun_cell, eigen_cell, new_cell, string_cell, Store, parts_of, sort_of, has_sort_at, has_value_sort_at, parts_fit, is_store, CellValue, a_term, a_mark, a_string, has_sort, Solution, cons_term, terms_at, cons_value, values_at, cons_mark, marks_at, CellHolds, Solves, names_below}
use Rattle.store_theory.specs.Systems.{CellAtom}
use Rattle.store_theory.specs.Patterns.{Pattern, Patterns, p_var, p_fun, p_eigen, p_new, no_patterns, more_patterns, patterns_tree, PatternAtom, Template, IsCopy, AreCopies, IsAtomCopy, AreAtomCopies}
use Rattle.store_theory.specs.Templates.{as_term, as_value, as_label, cell_value, value_of_variable, pattern_value, pattern_terms, pattern_values, pattern_label, pattern_literal, has_value_sort, have_sorts}
use Rattle.store_theory.specs.Bindings.{with_cell, is_variable, with_variables_of, places_from, AddsBuilt, nothing_more, one_more}
use Rattle.search_theory.specs.States.{CellClause, clause_is_below, terms_by, label_by, values_by, literal_by, Agree}
use Rattle.search_theory.specs.Steps.{IsFreshClause, IsRestCopy}
use Rattle.search_theory.proofs.SpareLaws.{own_cell, cell-fits, cell-sorted, terms-there, values-there, marks-there, cell-alike, sort-same, or-both}
use Rattle.search_theory.specs.CellsIn.{IsPart}
use Rattle.search_theory.proofs.GeneralLaws.{term-parts}
use Rattle.search_theory.proofs.ImageLaws.{values-agree}

-- ---- values of cells have their sorts

pub holds-sort : (σ : Solution) (n : ℕ) (c : Cell) → CellHolds σ n c → IsTrue (has_sort (sort_of c) (σ n))
holds-sort σ n (variable sort None) h = h
holds-sort σ n (variable sort (Some r)) h = h.0
holds-sort σ n (fun_cell f rs) h = ap (has_sort TermSort) h.2
holds-sort σ n (eigen_cell p rs) h = ap (has_sort TermSort) h.2
holds-sort σ n (new_cell p rs) h = ap (has_sort MarkSort) h.2
holds-sort σ n (string_cell rs) h = ap (has_sort StringSort) h.2

pub solved-sorted : (s : Store) (σ : Solution) → Solves s σ → (sort : Sort) (r : ℕ) → IsTrue (has_sort_at s sort r) → IsTrue (has_sort sort (σ r))
solved-sorted s σ h sort r k =
    let t = cell-sorted s sort r k in
    subst (λ x. IsTrue (has_sort x (σ r))) (sym (sort-same sort (sort_of t.0) t.2)) (holds-sort σ r t.0 (h r t.0 t.1))

pub solved-valued : (s : Store) (σ : Solution) → Solves s σ → (r : ℕ) → IsTrue (has_value_sort_at s r) → IsTrue (has_sort TermSort (σ r) || has_sort StringSort (σ r))
solved-valued s σ h r k = or-both (has_sort_at s TermSort r) (has_sort_at s StringSort r) (has_sort TermSort (σ r)) (has_sort StringSort (σ r)) (solved-sorted s σ h TermSort r) (solved-sorted s σ h StringSort r) k

-- ---- one cell more

-- σ with the value v at the cell n
abbrev pub put : ℕ → CellValue → Solution → Solution
put n v σ r = if r == n then v else σ r

pub put-other : (n : ℕ) (v : CellValue) (σ : Solution) (r : ℕ) → r < n → put n v σ r ≡ σ r
put-other n v σ r l = elim (cases_Bool (r == n)) [
  | inl e ↦ absurd (let q = eqb-true r n e in omega (arith, q, l))
  | inr e ↦ rw e refl
]

pub put-here : (n : ℕ) (v : CellValue) (σ : Solution) → put n v σ n ≡ v
put-here n v σ = rw (eq-eqb n n refl) refl

pub get-more : {A : Type 0} (xs : List A) (y : A) (r : ℕ) (x : A) → slice_get (xs ++ y ∷ []) r ≡ Some x → (slice_get xs r ≡ Some x) ⊎ ((r ≡ length xs) × (y ≡ x))
get-more [] y zero x e = let q : y ≡ x = cc e in inr (refl, q)
get-more [] y (suc r) x e = cc e
get-more (z ∷ xs) y zero x e = inl e
get-more (z ∷ xs) y (suc r) x e = elim (get-more xs y r x e) [ inl k ↦ inl k | inr k ↦ inr (ap suc k.0, k.1) ]

-- a cell holds by values that agree on it and on its parts
terms-moved : (σ τ : Solution) (rs : List ℕ) → ((k : ℕ) → IsPart k rs → σ k ≡ τ k) → terms_at σ rs ≡ terms_at τ rs
terms-moved σ τ [] h = refl
terms-moved σ τ (r ∷ rs) h = ap₂ cons_term (h r (0, refl)) (terms-moved σ τ rs (λ k p. h k (suc p.0, p.1)))

values-moved : (σ τ : Solution) (rs : List ℕ) → ((k : ℕ) → IsPart k rs → σ k ≡ τ k) → values_at σ rs ≡ values_at τ rs
values-moved σ τ [] h = refl
values-moved σ τ (r ∷ rs) h = ap₂ cons_value (h r (0, refl)) (values-moved σ τ rs (λ k p. h k (suc p.0, p.1)))

marks-moved : (σ τ : Solution) (rs : List ℕ) → ((k : ℕ) → IsPart k rs → σ k ≡ τ k) → marks_at σ rs ≡ marks_at τ rs
marks-moved σ τ [] h = refl
marks-moved σ τ (r ∷ rs) h = ap₂ cons_mark (h r (0, refl)) (marks-moved σ τ rs (λ k p. h k (suc p.0, p.1)))

holds-moved : (σ τ : Solution) (n : ℕ) (c : Cell) → σ n ≡ τ n → ((k : ℕ) → IsPart k (parts_of c) → σ k ≡ τ k) → CellHolds σ n c → CellHolds τ n c
holds-moved σ τ n (variable sort None) e h k = subst (λ v. IsTrue (has_sort sort v)) e k
holds-moved σ τ n (variable sort (Some r)) e h k = (subst (λ v. IsTrue (has_sort sort v)) e k.0, sym e ∙ k.1 ∙ h r (0, refl))
holds-moved σ τ n (fun_cell f rs) e h k = (k.0, sym (terms-moved σ τ rs h) ∙ k.1, sym e ∙ k.2)
holds-moved σ τ n (eigen_cell p rs) e h k = (k.0, sym (values-moved σ τ rs h) ∙ k.1, sym e ∙ k.2)
holds-moved σ τ n (new_cell p rs) e h k = (k.0, sym (values-moved σ τ rs h) ∙ k.1, sym e ∙ k.2)
holds-moved σ τ n (string_cell rs) e h k = (k.0, sym (marks-moved σ τ rs h) ∙ k.1, sym e ∙ k.2)

-- a built cell holds the value that is built from its parts
built-holds : (s : Store) (σ : Solution) (n : ℕ) (c : Cell) → Solves s σ → IsTrue (parts_fit s c) → is_variable c ≡ false → σ n ≡ own_cell σ n c → CellHolds σ n c
built-holds s σ n (variable sort b) h f k e = absurd (false≢true (sym k))
built-holds s σ n (fun_cell g rs) h f k e = (terms_by σ rs, terms-there σ rs (all-weaken (has_sort_at s TermSort) (λ x. has_sort TermSort (σ x)) (solved-sorted s σ h TermSort) rs f), e)
built-holds s σ n (eigen_cell p rs) h f k e = (values_tree (values_by σ rs), values-there σ rs (all-weaken (has_value_sort_at s) (λ x. has_sort TermSort (σ x) || has_sort StringSort (σ x)) (solved-valued s σ h) rs f), e)
built-holds s σ n (new_cell p rs) h f k e = (values_tree (values_by σ rs), values-there σ rs (all-weaken (has_value_sort_at s) (λ x. has_sort TermSort (σ x) || has_sort StringSort (σ x)) (solved-valued s σ h) rs f), e)
built-holds s σ n (string_cell rs) h f k e = (label_by σ rs, marks-there σ rs (all-weaken (has_sort_at s MarkSort) (λ x. has_sort MarkSort (σ x)) (solved-sorted s σ h MarkSort) rs f), e)

fits-below : (s : Store) (c : Cell) → IsTrue (parts_fit s c) → (k : ℕ) → IsPart k (parts_of c) → k < length s.cells
fits-below s (variable sort None) f k p = let z = p.1 in cc z
fits-below s (variable sort (Some j)) f k (zero, e) = let q : j ≡ k = cc e in let t = cell-sorted s sort j f in let l = slice_get_within s.cells j t.0 t.1 in omega (arith, l, q)
fits-below s (variable sort (Some j)) f k (suc i, e) = cc e
fits-below s (fun_cell g rs) f k p = let t = cell-sorted s TermSort k (all-at (has_sort_at s TermSort) rs p.0 k f p.1) in slice_get_within s.cells k t.0 t.1
fits-below s (eigen_cell x rs) f k p = within-value s k (all-at (has_value_sort_at s) rs p.0 k f p.1)
fits-below s (new_cell x rs) f k p = within-value s k (all-at (has_value_sort_at s) rs p.0 k f p.1)
fits-below s (string_cell rs) f k p = let t = cell-sorted s MarkSort k (all-at (has_sort_at s MarkSort) rs p.0 k f p.1) in slice_get_within s.cells k t.0 t.1

-- the old cells hold by a solution with one value more
pub old-hold : (s : Store) → IsTrue (is_store s) → (σ : Solution) → Solves s σ → (v : CellValue) → Solves s (put (length s.cells) v σ)
old-hold s h σ k v r c e =
    let n = length s.cells in
    holds-moved σ (put n v σ) r c (sym (put-other n v σ r (slice_get_within s.cells r c e))) (λ j p. sym (put-other n v σ j (fits-below s c (cell-fits s h r c e) j p))) (k r c e)

pub agree-put : (n : ℕ) (v : CellValue) (σ : Solution) → Agree n σ (put n v σ)
agree-put n v σ r l = sym (put-other n v σ r (ltb-true r n l))

-- one variable more
pub variable-added : (s : Store) → IsTrue (is_store s) → (sort : Sort) (v : CellValue) → IsTrue (has_sort sort v) → (σ : Solution) → Solves s σ → Solves (with_cell (variable sort None) s) (put (length s.cells) v σ)
variable-added s h sort v t σ k r c e = elim (get-more s.cells (variable sort None) r c e) [
  | inl old ↦ old-hold s h σ k v r c old
  | inr new ↦ (let at : put (length s.cells) v σ r ≡ v = ap (put (length s.cells) v σ) new.0 ∙ put-here (length s.cells) v σ in subst (CellHolds (put (length s.cells) v σ) r) new.1 (subst (λ x. IsTrue (has_sort sort x)) (sym at) t))
]

-- one built cell more
pub built-added : (s : Store) → IsTrue (is_store s) → (c : Cell) → IsTrue (parts_fit s c) → is_variable c ≡ false → (σ : Solution) → Solves s σ → Solves (with_cell c s) (put (length s.cells) (own_cell σ (length s.cells) c) σ)
built-added s h c f b σ k r d e =
    let n = length s.cells in
    let v = own_cell σ n c in
    let τ = put n v σ in
    elim (get-more s.cells c r d e) [
      | inl old ↦ old-hold s h σ k v r d old
      | inr new ↦ (
          let same : own_cell σ n c ≡ own_cell τ n c = cell-alike σ τ n c (λ j p. sym (put-other n v σ j (fits-below s c f j p))) in
          let here : τ n ≡ own_cell τ n c = put-here n v σ ∙ same in
          subst (λ m. CellHolds τ m d) (sym new.0) (subst (CellHolds τ n) new.1 (built-holds s τ n c (old-hold s h σ k v) f b here)))
    ]

-- fewer cells are solved by what solves more
pub fewer-solved : (s : Store) (c : Cell) (σ : Solution) → Solves (with_cell c s) σ → Solves s σ
fewer-solved s c σ h r d e = h r d (get-front s.cells (c ∷ []) r d e)

-- ---- built cells, one by one

pub agree-both : (m n : ℕ) (σ τ ρ : Solution) → m ≤ n → Agree m σ τ → Agree n τ ρ → Agree m σ ρ
agree-both m n σ τ ρ l a b r k = a r k ∙ b r (let q : r < m = ltb-true r m k in lt-ltb r n (omega (arith, q, l)))

pub length-plus : (c : Cell) (s : Store) → length (with_cell c s).cells ≡ length s.cells + 1
length-plus c s = length-append s.cells (c ∷ [])

pub adds-longer : (s t : Store) → AddsBuilt s t → length s.cells ≤ length t.cells
adds-longer s t nothing_more = omega arith
adds-longer s t (one_more c h f b more) = let l = adds-longer (with_cell c s) t more in let e = length-plus c s in omega (arith, l, e)

pub adds-back : (s t : Store) → AddsBuilt s t → (σ : Solution) → Solves t σ → Solves s σ
adds-back s t nothing_more σ h = h
adds-back s t (one_more c i f b more) σ h = fewer-solved s c σ (adds-back (with_cell c s) t more σ h)

pub adds-forth : (s t : Store) → AddsBuilt s t → (σ : Solution) → Solves s σ → (τ : Solution) × Solves t τ × Agree (length s.cells) σ τ
adds-forth s t nothing_more σ h = (σ, h, λ r l. refl)
adds-forth s t (one_more c i f b more) σ h =
    let n = length s.cells in
    let v = own_cell σ n c in
    let (τ, k, a) = adds-forth (with_cell c s) t more (put n v σ) (built-added s i c f b σ h) in
    (τ, k, agree-both n (length (with_cell c s).cells) σ (put n v σ) τ (let e = length-plus c s in omega (arith, e)) (agree-put n v σ) a)

-- ---- variables

-- the stores on the way are stores
abbrev pub AreStores : List Sort → Store → Type 0
AreStores [] s = IsTrue (is_store s)
AreStores (sort ∷ sorts) s = IsTrue (is_store s) × AreStores sorts (with_cell (variable sort None) s)

pub variables-longer : (sorts : List Sort) (s : Store) → length s.cells ≤ length (with_variables_of sorts s).cells
variables-longer [] s = omega arith
variables-longer (sort ∷ sorts) s = let l = variables-longer sorts (with_cell (variable sort None) s) in let e = length-plus (variable sort None) s in omega (arith, l, e)

pub variables-back : (sorts : List Sort) (s : Store) (σ : Solution) → Solves (with_variables_of sorts s) σ → Solves s σ
variables-back [] s σ h = h
variables-back (sort ∷ sorts) s σ h = fewer-solved s (variable sort None) σ (variables-back sorts (with_cell (variable sort None) s) σ h)

value-sorted : (sort : Sort) (v : Value) → IsTrue (has_value_sort sort v) → IsTrue (has_sort sort (cell_value v)) × (as_value (cell_value v) ≡ v)
value-sorted TermSort (term t) h = (refl, refl)
value-sorted TermSort (steps w) h = absurd (false≢true h)
value-sorted MarkSort (term t) h = absurd (false≢true h)
value-sorted MarkSort (steps w) h = absurd (false≢true h)
value-sorted StringSort (term t) h = absurd (false≢true h)
value-sorted StringSort (steps w) h = (refl, ap steps (marks_tree-marks_list w))

places-below : (n m : ℕ) (sorts : List Sort) → n + length sorts ≤ m → IsTrue (names_below m (places_from n (length sorts)))
places-below n m [] l = refl
places-below n m (sort ∷ sorts) l = and_from (nat_lt n m) (names_below m (places_from (suc n) (length sorts))) (lt-ltb n m (omega (arith, l))) (places-below (suc n) m sorts (omega (arith, l)))

-- values of the sorts for the new variables
variables-forth : (sorts : List Sort) (s : Store) (n : ℕ) → n ≡ length s.cells → AreStores sorts s → (σ : Solution) → Solves s σ → (vs : List Value) → IsTrue (have_sorts sorts vs) → (τ : Solution) × Solves (with_variables_of sorts s) τ × Agree (length s.cells) σ τ × (values_by τ (places_from n (length sorts)) ≡ vs)
variables-forth [] s n e h σ k [] t = (σ, k, (λ r l. refl), refl)
variables-forth [] s n e h σ k (v ∷ vs) t = absurd (false≢true t)
variables-forth (sort ∷ sorts) s n e h σ k [] t = absurd (false≢true t)
variables-forth (sort ∷ sorts) s n e h σ k (v ∷ vs) t =
    let p = and_parts (has_value_sort sort v) (have_sorts sorts vs) t in
    let q = value-sorted sort v p.0 in
    let m = length s.cells in
    let c = variable sort None in
    let step = put m (cell_value v) σ in
    let long = length-plus c s in
    let (τ, solved, agree, values) = variables-forth sorts (with_cell c s) (suc n) (omega (arith, e, long)) h.1 step (variable-added s h.0 sort (cell_value v) q.0 σ k) vs p.1 in
    let here : τ n ≡ cell_value v = sym (agree n (lt-ltb n (length (with_cell c s).cells) (omega (arith, e, long)))) ∙ ap step e ∙ put-here m (cell_value v) σ in
    (τ, solved, agree-both m (length (with_cell c s).cells) σ step τ (omega (arith, long)) (agree-put m (cell_value v) σ) agree, ap₂ (λ x xs. x ∷ xs) (ap as_value here ∙ q.1) values)

-- ---- what the variables and the built cells stand for

-- variables of templates are terms and strings
abbrev pub is_variable_sort : Sort → Bool
is_variable_sort TermSort = true
is_variable_sort MarkSort = false
is_variable_sort StringSort = true

abbrev pub is_value_cell : CellValue → Bool
is_value_cell (a_term t) = true
is_value_cell (a_mark m) = false
is_value_cell (a_string w) = true

sorted-value : (sort : Sort) (v : CellValue) → IsTrue (is_variable_sort sort) → IsTrue (has_sort sort v) → IsTrue (has_value_sort sort (as_value v)) × IsTrue (is_value_cell v)
sorted-value TermSort (a_term t) k h = (refl, refl)
sorted-value TermSort (a_mark m) k h = absurd (false≢true h)
sorted-value TermSort (a_string w) k h = absurd (false≢true h)
sorted-value MarkSort v k h = absurd (false≢true k)
sorted-value StringSort (a_term t) k h = absurd (false≢true h)
sorted-value StringSort (a_mark m) k h = absurd (false≢true h)
sorted-value StringSort (a_string w) k h = (refl, refl)

value-back : (v : CellValue) → IsTrue (is_value_cell v) → cell_value (as_value v) ≡ v
value-back (a_term t) h = refl
value-back (a_mark m) h = absurd (false≢true h)
value-back (a_string w) h = ap a_string (marks_list-marks_tree w)

abbrev pub AreValueCells : Solution → List ℕ → Type 0
AreValueCells σ rs = IsTrue (list_all (λ r. is_value_cell (σ r)) rs)

-- the variable in front stands in the store
pub variables-front : (sorts : List Sort) (s : Store) (r : ℕ) (c : Cell) → slice_get s.cells r ≡ Some c → slice_get (with_variables_of sorts s).cells r ≡ Some c
variables-front [] s r c e = e
variables-front (sort ∷ sorts) s r c e = variables-front sorts (with_cell (variable sort None) s) r c (get-front s.cells (variable sort None ∷ []) r c e)

pub variables-sorted : (sorts : List Sort) (s : Store) (n : ℕ) → n ≡ length s.cells → IsTrue (list_all is_variable_sort sorts) → (σ : Solution) → Solves (with_variables_of sorts s) σ → IsTrue (have_sorts sorts (values_by σ (places_from n (length sorts)))) × AreValueCells σ (places_from n (length sorts))
variables-sorted [] s n e k σ h = (refl, refl)
variables-sorted (sort ∷ sorts) s n e k σ h =
    let p = and_parts (is_variable_sort sort) (list_all is_variable_sort sorts) k in
    let c = variable sort None in
    let at : slice_get (with_cell c s).cells n ≡ Some c = ap (slice_get (with_cell c s).cells) e ∙ get-end s.cells c in
    let here = h n c (variables-front sorts (with_cell c s) n c at) in
    let v = sorted-value sort (σ n) p.0 here in
    let long = length-plus c s in
    let rest = variables-sorted sorts (with_cell c s) (suc n) (omega (arith, e, long)) p.1 σ h in
    (and_from (has_value_sort sort (as_value (σ n))) (have_sorts sorts (values_by σ (places_from (suc n) (length sorts)))) v.0 rest.0, and_from (is_value_cell (σ n)) (list_all (λ r. is_value_cell (σ r)) (places_from (suc n) (length sorts))) v.1 rest.1)

term-values : (σ : Solution) (rs : List ℕ) (ts : GroundTerms) → terms_at σ rs ≡ Some ts → ts ≡ terms_by σ rs
term-values σ [] ts e = let q : no_g_terms ≡ ts = cc e in sym q
term-values σ (r ∷ rs) ts e =
    let p = term-parts σ r rs ts e in
    p.all_of_them ∙ ap₂ more_g_terms (sym (ap as_term p.is_first)) (term-values σ rs p.rest p.are_rest)

value-values : (σ : Solution) (rs : List ℕ) (vs : Values) → values_at σ rs ≡ Some vs → vs ≡ values_tree (values_by σ rs)
value-values σ [] vs e = let q : no_values ≡ vs = cc e in sym q
value-values σ (r ∷ rs) vs e = by (σ r) (values_at σ rs) refl refl e (value-values σ rs)
  where
    by : (v : CellValue) (o : Option Values) → σ r ≡ v → values_at σ rs ≡ o → cons_value v o ≡ Some vs → ((us : Values) → values_at σ rs ≡ Some us → us ≡ values_tree (values_by σ rs)) → vs ≡ values_tree (values_by σ (r ∷ rs))
    by (a_term t) (Some us) f g h ih = let q : more_values (term t) us ≡ vs = cc h in sym q ∙ ap₂ more_values (sym (ap as_value f)) (ih us g)
    by (a_string w) (Some us) f g h ih = let q : more_values (steps (marks_tree w)) us ≡ vs = cc h in sym q ∙ ap₂ more_values (sym (ap as_value f)) (ih us g)
    by (a_term t) None f g h ih = cc h
    by (a_string w) None f g h ih = cc h
    by (a_mark m) o f g h ih = cc h

variable-value : (σ : Solution) (variables : List ℕ) (k r : ℕ) → AreValueCells σ variables → slice_get variables k ≡ Some r → σ r ≡ value_of_variable (slice_get (values_by σ variables) k)
variable-value σ variables k r h e =
    let at : slice_get (values_by σ variables) k ≡ Some (as_value (σ r)) = slice_get-map (λ x. as_value (σ x)) variables k ∙ ap (option_map (λ x. as_value (σ x))) e in
    sym (value-back (σ r) (all-at (λ x. is_value_cell (σ x)) variables k r h e)) ∙ sym (ap value_of_variable at)

mutual
  -- a built cell has the value of its pattern
  pub built-value : (s : Store) (σ : Solution) → Solves s σ → (variables : List ℕ) → AreValueCells σ variables → (p : Pattern) (r : ℕ) → IsCopy s variables p r → σ r ≡ pattern_value (values_by σ variables) p
  built-value s σ h variables k (p_var x) r b = variable-value σ variables x r k b
  built-value s σ h variables k (p_fun f ps) r (rs, e, b) =
      let (ts, at, is) = h r (fun_cell f rs) e in
      is ∙ ap (λ us. a_term (g_fun f us)) (term-values σ rs ts at ∙ built-terms s σ h variables k ps rs b)
  built-value s σ h variables k (p_eigen p ps) r (rs, e, b) =
      let (vs, at, is) = h r (eigen_cell p rs) e in
      is ∙ ap (λ us. a_term (g_eigen p us)) (value-values σ rs vs at ∙ built-values s σ h variables k ps rs b)
  built-value s σ h variables k (p_new p ps) r (rs, e, b) =
      let (vs, at, is) = h r (new_cell p rs) e in
      is ∙ ap (λ us. a_mark (g_new_mark p us)) (value-values σ rs vs at ∙ built-values s σ h variables k ps rs b)

  built-terms : (s : Store) (σ : Solution) → Solves s σ → (variables : List ℕ) → AreValueCells σ variables → (ps : Patterns) (rs : List ℕ) → AreCopies s variables ps rs → terms_by σ rs ≡ pattern_terms (values_by σ variables) ps
  built-terms s σ h variables k no_patterns rs b = ap (terms_by σ) b
  built-terms s σ h variables k (more_patterns p ps) rs (r, qs, e, b, c) = ap (terms_by σ) e ∙ ap₂ (λ v ts. more_g_terms (as_term v) ts) (built-value s σ h variables k p r b) (built-terms s σ h variables k ps qs c)

  built-values : (s : Store) (σ : Solution) → Solves s σ → (variables : List ℕ) → AreValueCells σ variables → (ps : Patterns) (rs : List ℕ) → AreCopies s variables ps rs → values_tree (values_by σ rs) ≡ pattern_values (values_by σ variables) ps
  built-values s σ h variables k no_patterns rs b = ap (λ xs. values_tree (values_by σ xs)) b
  built-values s σ h variables k (more_patterns p ps) rs (r, qs, e, b, c) = ap (λ xs. values_tree (values_by σ xs)) e ∙ ap₂ (λ v vs. more_values (as_value v) vs) (built-value s σ h variables k p r b) (built-values s σ h variables k ps qs c)

pub built-label : (s : Store) (σ : Solution) → Solves s σ → (variables : List ℕ) → AreValueCells σ variables → (ps : List Pattern) (rs : List ℕ) → AreCopies s variables (patterns_tree ps) rs → label_by σ rs ≡ pattern_label (values_by σ variables) ps
built-label s σ h variables k [] rs b = ap (label_by σ) b
built-label s σ h variables k (p ∷ ps) rs (r, qs, e, b, c) = ap (label_by σ) e ∙ ap₂ (λ v w. as_label v ++ w) (built-value s σ h variables k p r b) (built-label s σ h variables k ps qs c)

built-literal : (s : Store) (σ : Solution) → Solves s σ → (variables : List ℕ) → AreValueCells σ variables → (p : PatternAtom) (a : CellAtom) → IsAtomCopy s variables p a → literal_by σ a ≡ pattern_literal (values_by σ variables) p
built-literal s σ h variables k p a b = λ i. record { sign = b.sign i; symbol = b.symbol i; args = built-terms s σ h variables k (patterns_tree p.args) a.args b.args i; label = built-label s σ h variables k p.label a.label b.label i }

built-literals : (s : Store) (σ : Solution) → Solves s σ → (variables : List ℕ) → AreValueCells σ variables → (ps : List PatternAtom) (xs : List CellAtom) → AreAtomCopies s variables ps xs → map (literal_by σ) xs ≡ map (λ (a : PatternAtom). pattern_literal (values_by σ variables) a) ps
built-literals s σ h variables k [] xs b = ap (map (literal_by σ)) b
built-literals s σ h variables k (p ∷ ps) xs (a, ys, e, b, c) = ap (map (literal_by σ)) e ∙ ap₂ (λ y zs. y ∷ zs) (built-literal s σ h variables k p a b) (built-literals s σ h variables k ps ys c)

-- ---- the laws

pub value-cell : (v : CellValue) → IsTrue (has_sort TermSort v || has_sort StringSort v) → IsTrue (is_value_cell v)
value-cell (a_term t) h = refl
value-cell (a_mark m) h = absurd (false≢true h)
value-cell (a_string w) h = refl

-- the other literals: cells that are built over variables that are there
pub rest-by_cells : (old new : Store) (sides : List Side) (t : Template) (i : CellClause) → i.selection ≡ sides → IsTrue (clause_is_below (length new.cells) i) → AddsBuilt old new → IsTrue (list_all (has_value_sort_at new) i.values) → AreAtomCopies new i.values t.literals i.literals → IsRestCopy old new sides t i
rest-by_cells old new sides t i selection names adds sorted built = record {
  selection = selection;
  longer = adds-longer old new adds;
  names = names;
  back = λ σ h. (adds-back old new adds σ h, built-literals new σ h i.values (all-weaken (has_value_sort_at new) (λ r. is_value_cell (σ r)) (λ r k. value-cell (σ r) (solved-valued new σ h r k)) i.values sorted) t.literals i.literals built);
  forth = adds-forth old new adds;
}

-- the whole clause at once
pub copy-by_cells : (old new : Store) (sides : List Side) (t : Template) (i : CellClause) → AreStores t.sorts old → IsTrue (list_all is_variable_sort t.sorts) → AddsBuilt (with_variables_of t.sorts old) new → i.selection ≡ sides → i.values ≡ places_from (length old.cells) (length t.sorts) → IsTrue (clause_is_below (length new.cells) i) → AreAtomCopies new i.values t.literals i.literals → IsFreshClause old new sides t i
copy-by_cells old new sides t i stores sorts adds selection values names built = record {
  selection = selection;
  longer = let l = variables-longer t.sorts old in let m = adds-longer mid new adds in omega (arith, l, m);
  names = names;
  back = λ σ h.
      let k = adds-back mid new adds σ h in
      let v = variables-sorted t.sorts old (length old.cells) refl sorts σ k in
      (variables-back t.sorts old σ k, subst (λ rs. IsTrue (have_sorts t.sorts (values_by σ rs))) (sym values) v.0, built-literals new σ h i.values (subst (AreValueCells σ) (sym values) v.1) t.literals i.literals built);
  forth = λ σ h vs k.
      let (τ, solved, agree, are) = variables-forth t.sorts old (length old.cells) refl stores σ h vs k in
      let (ρ, done, further) = adds-forth mid new adds τ solved in
      let l = variables-longer t.sorts old in
      (ρ, done, agree-both (length old.cells) (length mid.cells) σ τ ρ l agree further, ap (values_by ρ) values ∙ sym (values-agree (length mid.cells) τ ρ further (places_from (length old.cells) (length t.sorts)) (places-below (length old.cells) (length mid.cells) t.sorts (let m = length-variables t.sorts old in omega (arith, m)))) ∙ are);
}
  where
    mid : Store
    mid = with_variables_of t.sorts old
