-- Ground solutions of a store: after a binding, of built cells and their parts, where a variable occurs, and that a store without cycles has one.
use Rattle.std.proofs.Common.{◌⊎◌, ◌+◌, ◌++◌, inl, inr, eqb-true, eq-eqb, ◌<◌, option_map, Some, ◌==◌, ◌≡◌, ℕ, zero, suc, ◌≤◌, List, [], ◌∷◌, length, true, false, Option, None, IsTrue, refl, sym, ◌∙◌, ap, ap₂, subst, arith}
use Rattle.std.specs.List.{list_all}
use Rattle.std.specs.Option.{option_map_or}
use Rattle.std.specs.Prelude.{slice_get}
use Rattle.std.proofs.lemmas.Bool.{cases_Bool, false≢true, and_parts}
use Rattle.plain_laws.proofs.Booleans.{and-number, and-number_parts}
use Rattle.calculus.specs.declared.sort.Sort.{Sort}
use Rattle.calculus.specs.declared.sort.Sort.TheVariants.{TermSort, MarkSort, StringSort}
use Rattle.calculus.specs.Ground.{GroundTerm, GroundTerms, GroundMark, Value, Values, g_fun, g_eigen, common, no_g_terms, more_g_terms, g_new_mark, g_spare_mark, term, steps, no_values, more_values, marks_tree}
use Rattle.calculus.specs.Lists.{marks_tree-inj}
use Rattle.calculus.specs.Sizes.{g_term_size, g_terms_size, mark_size, marks_size, value_size, values_size}
use Rattle.store_theory.specs.Stores.{is_store, sort_of, has_sort_at, has_value_sort_at, parts_of, parts_fit, Cell, variable, fun_cell, eigen_cell, new_cell, string_cell, Store, OccursIn, here, in_part, EndsAt, stays, goes_on, CellValue, a_term, a_mark, a_string, has_sort, Solution, cons_term, terms_at, cons_value, values_at, cons_mark, marks_at, CellHolds, Solves}
use Rattle.store_theory.specs.Bindings.{bound_to, bind_at, with_binding, IsRanked, HasRank, SolvesPairs, part_pairs, are_alike, is_variable}
use Rattle.store_theory.proofs.BindingLaws.{sorted_cell, kept, get-bound, get-unbound, same_place}

-- ---- sorts of values

pub has_sort-once : (a b : Sort) (x : CellValue) → IsTrue (has_sort a x) → IsTrue (has_sort b x) → a ≡ b
has_sort-once TermSort TermSort x h k = refl
has_sort-once MarkSort MarkSort x h k = refl
has_sort-once StringSort StringSort x h k = refl
has_sort-once TermSort MarkSort (a_term t) h k = absurd (false≢true k)
has_sort-once TermSort MarkSort (a_mark t) h k = absurd (false≢true h)
has_sort-once TermSort MarkSort (a_string t) h k = absurd (false≢true h)
has_sort-once TermSort StringSort (a_term t) h k = absurd (false≢true k)
has_sort-once TermSort StringSort (a_mark t) h k = absurd (false≢true h)
has_sort-once TermSort StringSort (a_string t) h k = absurd (false≢true h)
has_sort-once MarkSort TermSort (a_term t) h k = absurd (false≢true h)
has_sort-once MarkSort TermSort (a_mark t) h k = absurd (false≢true k)
has_sort-once MarkSort TermSort (a_string t) h k = absurd (false≢true h)
has_sort-once MarkSort StringSort (a_term t) h k = absurd (false≢true h)
has_sort-once MarkSort StringSort (a_mark t) h k = absurd (false≢true k)
has_sort-once MarkSort StringSort (a_string t) h k = absurd (false≢true h)
has_sort-once StringSort TermSort (a_term t) h k = absurd (false≢true h)
has_sort-once StringSort TermSort (a_mark t) h k = absurd (false≢true h)
has_sort-once StringSort TermSort (a_string t) h k = absurd (false≢true k)
has_sort-once StringSort MarkSort (a_term t) h k = absurd (false≢true h)
has_sort-once StringSort MarkSort (a_mark t) h k = absurd (false≢true h)
has_sort-once StringSort MarkSort (a_string t) h k = absurd (false≢true k)

pub solved-sort : (s : Store) (σ : Solution) (n : ℕ) (c : Cell) → Solves s σ → slice_get s.cells n ≡ Some c → IsTrue (has_sort (sort_of c) (σ n))
solved-sort s σ n c h e = by c (h n c e)
  where
    by : (c : Cell) → CellHolds σ n c → IsTrue (has_sort (sort_of c) (σ n))
    by (variable sort None) k = k
    by (variable sort (Some r)) k = k.0
    by (fun_cell f rs) k = ap (has_sort TermSort) k.2
    by (eigen_cell p rs) k = ap (has_sort TermSort) k.2
    by (new_cell p rs) k = ap (has_sort MarkSort) k.2
    by (string_cell rs) k = ap (has_sort StringSort) k.2

-- cells of different sorts have different values
pub sorts-apart : (s : Store) (σ : Solution) (n k : ℕ) (c d : Cell) → Solves s σ → slice_get s.cells n ≡ Some c → slice_get s.cells k ≡ Some d → σ n ≡ σ k → sort_of c ≡ sort_of d
sorts-apart s σ n k c d h e f q = has_sort-once (sort_of c) (sort_of d) (σ n) (solved-sort s σ n c h e) (subst (λ x. IsTrue (has_sort (sort_of d) x)) (sym q) (solved-sort s σ k d h f))

-- ---- bindings

pub ends-same : (s : Store) (σ : Solution) (r v : ℕ) → Solves s σ → EndsAt s r v → σ r ≡ σ v
ends-same s σ r v h (stays e b) = refl
ends-same s σ r v h (goes_on {k = k} {sort = sort} e o) = (h r (variable sort (Some k)) e).1 ∙ ends-same s σ k v h o

pub Solves-bound : (v r : ℕ) (s : Store) (σ : Solution) (sort : Sort) → slice_get s.cells v ≡ Some (variable sort None) → IsTrue (has_sort_at s sort r) → Solves s σ → σ v ≡ σ r → Solves (with_binding v r s) σ
Solves-bound v r s σ sort o f h q n c e = elim (same_place v n) [
  | inl p ↦
      let e' : slice_get (bind_at v r s.cells) v ≡ Some c = ap (slice_get (bind_at v r s.cells)) p ∙ e in
      let a : slice_get (bind_at v r s.cells) v ≡ Some (variable sort (Some r)) = get-bound v r s.cells ∙ ap (option_map (bound_to r)) o in
      let same : variable sort (Some r) ≡ c = let w : Some (variable sort (Some r)) ≡ Some c = sym a ∙ e' in cc in
      subst (λ x. CellHolds σ n x) same (subst (λ m. IsTrue (has_sort sort (σ m)) × (σ m ≡ σ r)) p (h v (variable sort None) o, q))
  | inr p ↦ h n c (sym (get-unbound v r n s.cells p) ∙ e)
]

pub Solves-unbound : (v r : ℕ) (s : Store) (σ : Solution) (sort : Sort) → slice_get s.cells v ≡ Some (variable sort None) → Solves (with_binding v r s) σ → Solves s σ × (σ v ≡ σ r)
Solves-unbound v r s σ sort o h = (
  λ n c e. elim (same_place v n) [
    | inl p ↦
        let e' : slice_get s.cells v ≡ Some c = ap (slice_get s.cells) p ∙ e in
        let same : variable sort None ≡ c = let w : Some (variable sort None) ≡ Some c = sym o ∙ e' in cc in
        subst (λ x. CellHolds σ n x) same (subst (λ m. IsTrue (has_sort sort (σ m))) p there.0)
    | inr p ↦ h n c (get-unbound v r n s.cells p ∙ e)
  ],
  there.1,
)
  where
    there : IsTrue (has_sort sort (σ v)) × (σ v ≡ σ r)
    there = h v (variable sort (Some r)) (get-bound v r s.cells ∙ ap (option_map (bound_to r)) o)

-- ---- pairs

pub SolvesPairs-join : (σ : Solution) (ps qs : List (ℕ × ℕ)) → SolvesPairs σ ps → SolvesPairs σ qs → SolvesPairs σ (ps ++ qs)
SolvesPairs-join σ [] qs h k = k
SolvesPairs-join σ (p ∷ ps) qs h k = (h.0, SolvesPairs-join σ ps qs h.1 k)

pub SolvesPairs-split : (σ : Solution) (ps qs : List (ℕ × ℕ)) → SolvesPairs σ (ps ++ qs) → SolvesPairs σ ps × SolvesPairs σ qs
SolvesPairs-split σ [] qs h = (tt, h)
SolvesPairs-split σ (p ∷ ps) qs h = let a = SolvesPairs-split σ ps qs h.1 in ((h.0, a.0), a.1)

-- ---- built cells

cons_term-some : (x : CellValue) (o : Option GroundTerms) (ts : GroundTerms) → cons_term x o ≡ Some ts → (t : GroundTerm) × (us : GroundTerms) × (x ≡ a_term t) × (o ≡ Some us) × (ts ≡ more_g_terms t us)
cons_term-some (a_term t) (Some us) ts h = (t, us, refl, refl, let q : ts ≡ more_g_terms t us = cc in q)
cons_term-some (a_term t) None ts h = absurd (cc)
cons_term-some (a_mark m) o ts h = absurd (cc)
cons_term-some (a_string w) o ts h = absurd (cc)

cons_mark-some : (x : CellValue) (o : Option (List GroundMark)) (w : List GroundMark) → cons_mark x o ≡ Some w → (m : GroundMark) × (u : List GroundMark) × (x ≡ a_mark m) × (o ≡ Some u) × (w ≡ m ∷ u)
cons_mark-some (a_mark m) (Some u) w h = (m, u, refl, refl, let q : w ≡ m ∷ u = cc in q)
cons_mark-some (a_mark m) None w h = absurd (cc)
cons_mark-some (a_term t) o w h = absurd (cc)
cons_mark-some (a_string v) o w h = absurd (cc)

-- the value of a way that a term or a string is
data IsPart : CellValue → Value → Type 0 where
  part_term : (t : GroundTerm) → IsPart (a_term t) (term t)
  part_string : (w : List GroundMark) → IsPart (a_string w) (steps (marks_tree w))

cons_value-some : (x : CellValue) (o : Option Values) (vs : Values) → cons_value x o ≡ Some vs → (v : Value) × (us : Values) × IsPart x v × (o ≡ Some us) × (vs ≡ more_values v us)
cons_value-some (a_term t) (Some us) vs h = (term t, us, part_term t, refl, let q : vs ≡ more_values (term t) us = cc in q)
cons_value-some (a_string w) (Some us) vs h = (steps (marks_tree w), us, part_string w, refl, let q : vs ≡ more_values (steps (marks_tree w)) us = cc in q)
cons_value-some (a_term t) None vs h = absurd (cc)
cons_value-some (a_string w) None vs h = absurd (cc)
cons_value-some (a_mark m) o vs h = absurd (cc)

IsPart-once : (x y : CellValue) (u v : Value) → IsPart x u → IsPart y v → u ≡ v → x ≡ y
IsPart-once x y u v (part_term t) (part_term t') e = let q : t ≡ t' = cc in ap a_term q
IsPart-once x y u v (part_string w) (part_string w') e = let q : marks_tree w ≡ marks_tree w' = cc in ap a_string (marks_tree-inj w w' q)
IsPart-once x y u v (part_term t) (part_string w) e = absurd (cc)
IsPart-once x y u v (part_string w) (part_term t) e = absurd (cc)

terms-same : (σ : Solution) (rs qs : List ℕ) (ts : GroundTerms) → length rs ≡ length qs → terms_at σ rs ≡ Some ts → terms_at σ qs ≡ Some ts → SolvesPairs σ (part_pairs rs qs)
terms-same σ [] [] ts l h k = tt
terms-same σ [] (q ∷ qs) ts l h k = absurd (omega arith)
terms-same σ (r ∷ rs) [] ts l h k = absurd (omega arith)
terms-same σ (r ∷ rs) (q ∷ qs) ts l h k =
    let (t, us, xt, ou, tu) = cons_term-some (σ r) (terms_at σ rs) ts h in
    let (t', us', xt', ou', tu') = cons_term-some (σ q) (terms_at σ qs) ts k in
    let both : more_g_terms t us ≡ more_g_terms t' us' = sym tu ∙ tu' in
    let e : t ≡ t' = cc in
    let f : us' ≡ us = cc in
    (xt ∙ ap a_term e ∙ sym xt', terms-same σ rs qs us (omega arith) ou (ou' ∙ ap Some f))

terms-alike : (σ : Solution) (rs qs : List ℕ) → length rs ≡ length qs → SolvesPairs σ (part_pairs rs qs) → terms_at σ rs ≡ terms_at σ qs
terms-alike σ [] [] l h = refl
terms-alike σ [] (q ∷ qs) l h = absurd (omega arith)
terms-alike σ (r ∷ rs) [] l h = absurd (omega arith)
terms-alike σ (r ∷ rs) (q ∷ qs) l h = ap₂ cons_term h.0 (terms-alike σ rs qs (omega arith) h.1)

values-same : (σ : Solution) (rs qs : List ℕ) (ts : Values) → length rs ≡ length qs → values_at σ rs ≡ Some ts → values_at σ qs ≡ Some ts → SolvesPairs σ (part_pairs rs qs)
values-same σ [] [] ts l h k = tt
values-same σ [] (q ∷ qs) ts l h k = absurd (omega arith)
values-same σ (r ∷ rs) [] ts l h k = absurd (omega arith)
values-same σ (r ∷ rs) (q ∷ qs) ts l h k =
    let (t, us, xt, ou, tu) = cons_value-some (σ r) (values_at σ rs) ts h in
    let (t', us', xt', ou', tu') = cons_value-some (σ q) (values_at σ qs) ts k in
    let both : more_values t us ≡ more_values t' us' = sym tu ∙ tu' in
    let e : t ≡ t' = cc in
    let f : us' ≡ us = cc in
    (IsPart-once (σ r) (σ q) t t' xt xt' e, values-same σ rs qs us (omega arith) ou (ou' ∙ ap Some f))

values-alike : (σ : Solution) (rs qs : List ℕ) → length rs ≡ length qs → SolvesPairs σ (part_pairs rs qs) → values_at σ rs ≡ values_at σ qs
values-alike σ [] [] l h = refl
values-alike σ [] (q ∷ qs) l h = absurd (omega arith)
values-alike σ (r ∷ rs) [] l h = absurd (omega arith)
values-alike σ (r ∷ rs) (q ∷ qs) l h = ap₂ cons_value h.0 (values-alike σ rs qs (omega arith) h.1)

marks-same : (σ : Solution) (rs qs : List ℕ) (ts : List GroundMark) → length rs ≡ length qs → marks_at σ rs ≡ Some ts → marks_at σ qs ≡ Some ts → SolvesPairs σ (part_pairs rs qs)
marks-same σ [] [] ts l h k = tt
marks-same σ [] (q ∷ qs) ts l h k = absurd (omega arith)
marks-same σ (r ∷ rs) [] ts l h k = absurd (omega arith)
marks-same σ (r ∷ rs) (q ∷ qs) ts l h k =
    let (t, us, xt, ou, tu) = cons_mark-some (σ r) (marks_at σ rs) ts h in
    let (t', us', xt', ou', tu') = cons_mark-some (σ q) (marks_at σ qs) ts k in
    let both : t ∷ us ≡ t' ∷ us' = sym tu ∙ tu' in
    let e : t ≡ t' = cc in
    let f : us' ≡ us = cc in
    (xt ∙ ap a_mark e ∙ sym xt', marks-same σ rs qs us (omega arith) ou (ou' ∙ ap Some f))

marks-alike : (σ : Solution) (rs qs : List ℕ) → length rs ≡ length qs → SolvesPairs σ (part_pairs rs qs) → marks_at σ rs ≡ marks_at σ qs
marks-alike σ [] [] l h = refl
marks-alike σ [] (q ∷ qs) l h = absurd (omega arith)
marks-alike σ (r ∷ rs) [] l h = absurd (omega arith)
marks-alike σ (r ∷ rs) (q ∷ qs) l h = ap₂ cons_mark h.0 (marks-alike σ rs qs (omega arith) h.1)

-- built cells of one name are equal exactly where their parts are
pub alike-parts : (s : Store) (σ : Solution) (a b : ℕ) (c d : Cell) → Solves s σ → slice_get s.cells a ≡ Some c → slice_get s.cells b ≡ Some d → are_alike c d ≡ true → (σ a ≡ σ b → SolvesPairs σ (part_pairs (parts_of c) (parts_of d))) × (SolvesPairs σ (part_pairs (parts_of c) (parts_of d)) → σ a ≡ σ b)
alike-parts s σ a b c d h e f k = by c d (h a c e) (h b d f) k
  where
    by : (c d : Cell) → CellHolds σ a c → CellHolds σ b d → are_alike c d ≡ true → (σ a ≡ σ b → SolvesPairs σ (part_pairs (parts_of c) (parts_of d))) × (SolvesPairs σ (part_pairs (parts_of c) (parts_of d)) → σ a ≡ σ b)
    by (fun_cell g rs) (fun_cell g' qs) (ts, x, y) (us, z, w) k =
        let n = and-number_parts (g == g') (length rs) (length qs) k in (
          λ q. let e : a_term (g_fun g ts) ≡ a_term (g_fun g' us) = sym y ∙ q ∙ w in let same : us ≡ ts = cc in terms-same σ rs qs ts n.1 x (z ∙ ap Some same),
          λ p. let same : ts ≡ us = let e : Some ts ≡ Some us = sym x ∙ terms-alike σ rs qs n.1 p ∙ z in cc in y ∙ ap₂ (λ j t. a_term (g_fun j t)) (eqb-true g g' n.0) same ∙ sym w,
        )
    by (eigen_cell g rs) (eigen_cell g' qs) (ts, x, y) (us, z, w) k =
        let n = and-number_parts (g == g') (length rs) (length qs) k in (
          λ q. let e : a_term (g_eigen g ts) ≡ a_term (g_eigen g' us) = sym y ∙ q ∙ w in let same : us ≡ ts = cc in values-same σ rs qs ts n.1 x (z ∙ ap Some same),
          λ p. let same : ts ≡ us = let e : Some ts ≡ Some us = sym x ∙ values-alike σ rs qs n.1 p ∙ z in cc in y ∙ ap₂ (λ j t. a_term (g_eigen j t)) (eqb-true g g' n.0) same ∙ sym w,
        )
    by (new_cell g rs) (new_cell g' qs) (ts, x, y) (us, z, w) k =
        let n = and-number_parts (g == g') (length rs) (length qs) k in (
          λ q. let e : a_mark (g_new_mark g ts) ≡ a_mark (g_new_mark g' us) = sym y ∙ q ∙ w in let same : us ≡ ts = cc in values-same σ rs qs ts n.1 x (z ∙ ap Some same),
          λ p. let same : ts ≡ us = let e : Some ts ≡ Some us = sym x ∙ values-alike σ rs qs n.1 p ∙ z in cc in y ∙ ap₂ (λ j t. a_mark (g_new_mark j t)) (eqb-true g g' n.0) same ∙ sym w,
        )
    by (string_cell rs) (string_cell qs) (ts, x, y) (us, z, w) k =
        let n = eqb-true (length rs) (length qs) k in (
          λ q. let e : a_string ts ≡ a_string us = sym y ∙ q ∙ w in let same : us ≡ ts = cc in marks-same σ rs qs ts n x (z ∙ ap Some same),
          λ p. let same : ts ≡ us = let e : Some ts ≡ Some us = sym x ∙ marks-alike σ rs qs n p ∙ z in cc in y ∙ ap a_string same ∙ sym w,
        )
    by (variable sort o) d x y k = absurd (false≢true k)
    by (fun_cell g rs) (variable sort o) x y k = absurd (false≢true k)
    by (fun_cell g rs) (eigen_cell g' qs) x y k = absurd (false≢true k)
    by (fun_cell g rs) (new_cell g' qs) x y k = absurd (false≢true k)
    by (fun_cell g rs) (string_cell qs) x y k = absurd (false≢true k)
    by (eigen_cell g rs) (variable sort o) x y k = absurd (false≢true k)
    by (eigen_cell g rs) (fun_cell g' qs) x y k = absurd (false≢true k)
    by (eigen_cell g rs) (new_cell g' qs) x y k = absurd (false≢true k)
    by (eigen_cell g rs) (string_cell qs) x y k = absurd (false≢true k)
    by (new_cell g rs) (variable sort o) x y k = absurd (false≢true k)
    by (new_cell g rs) (fun_cell g' qs) x y k = absurd (false≢true k)
    by (new_cell g rs) (eigen_cell g' qs) x y k = absurd (false≢true k)
    by (new_cell g rs) (string_cell qs) x y k = absurd (false≢true k)
    by (string_cell rs) (variable sort o) x y k = absurd (false≢true k)
    by (string_cell rs) (fun_cell g' qs) x y k = absurd (false≢true k)
    by (string_cell rs) (eigen_cell g' qs) x y k = absurd (false≢true k)
    by (string_cell rs) (new_cell g' qs) x y k = absurd (false≢true k)

terms-count : (σ : Solution) (rs qs : List ℕ) (ts : GroundTerms) → terms_at σ rs ≡ Some ts → terms_at σ qs ≡ Some ts → length rs ≡ length qs
terms-count σ [] [] ts h k = refl
terms-count σ [] (q ∷ qs) ts h k = let (t', us', xt', ou', tu') = cons_term-some (σ q) (terms_at σ qs) ts k in absurd (cc)
terms-count σ (r ∷ rs) [] ts h k = let (t', us', xt', ou', tu') = cons_term-some (σ r) (terms_at σ rs) ts h in absurd (cc)
terms-count σ (r ∷ rs) (q ∷ qs) ts h k =
    let (t, us, xt, ou, tu) = cons_term-some (σ r) (terms_at σ rs) ts h in
    let (t', us', xt', ou', tu') = cons_term-some (σ q) (terms_at σ qs) ts k in
    let both : more_g_terms t us ≡ more_g_terms t' us' = sym tu ∙ tu' in
    let f : us' ≡ us = cc in
    ap suc (terms-count σ rs qs us ou (ou' ∙ ap Some f))

values-count : (σ : Solution) (rs qs : List ℕ) (ts : Values) → values_at σ rs ≡ Some ts → values_at σ qs ≡ Some ts → length rs ≡ length qs
values-count σ [] [] ts h k = refl
values-count σ [] (q ∷ qs) ts h k = let (t', us', xt', ou', tu') = cons_value-some (σ q) (values_at σ qs) ts k in absurd (cc)
values-count σ (r ∷ rs) [] ts h k = let (t', us', xt', ou', tu') = cons_value-some (σ r) (values_at σ rs) ts h in absurd (cc)
values-count σ (r ∷ rs) (q ∷ qs) ts h k =
    let (t, us, xt, ou, tu) = cons_value-some (σ r) (values_at σ rs) ts h in
    let (t', us', xt', ou', tu') = cons_value-some (σ q) (values_at σ qs) ts k in
    let both : more_values t us ≡ more_values t' us' = sym tu ∙ tu' in
    let f : us' ≡ us = cc in
    ap suc (values-count σ rs qs us ou (ou' ∙ ap Some f))

marks-count : (σ : Solution) (rs qs : List ℕ) (ts : List GroundMark) → marks_at σ rs ≡ Some ts → marks_at σ qs ≡ Some ts → length rs ≡ length qs
marks-count σ [] [] ts h k = refl
marks-count σ [] (q ∷ qs) ts h k = let (t', us', xt', ou', tu') = cons_mark-some (σ q) (marks_at σ qs) ts k in absurd (cc)
marks-count σ (r ∷ rs) [] ts h k = let (t', us', xt', ou', tu') = cons_mark-some (σ r) (marks_at σ rs) ts h in absurd (cc)
marks-count σ (r ∷ rs) (q ∷ qs) ts h k =
    let (t, us, xt, ou, tu) = cons_mark-some (σ r) (marks_at σ rs) ts h in
    let (t', us', xt', ou', tu') = cons_mark-some (σ q) (marks_at σ qs) ts k in
    let both : t ∷ us ≡ t' ∷ us' = sym tu ∙ tu' in
    let f : us' ≡ us = cc in
    ap suc (marks-count σ rs qs us ou (ou' ∙ ap Some f))

-- built cells that have one value are alike
pub equal-alike : (s : Store) (σ : Solution) (a b : ℕ) (c d : Cell) → Solves s σ → slice_get s.cells a ≡ Some c → slice_get s.cells b ≡ Some d → is_variable c ≡ false → is_variable d ≡ false → σ a ≡ σ b → are_alike c d ≡ true
equal-alike s σ a b c d h e f i j q = by c d (h a c e) (h b d f) i j
  where
    by : (c d : Cell) → CellHolds σ a c → CellHolds σ b d → is_variable c ≡ false → is_variable d ≡ false → are_alike c d ≡ true
    by (fun_cell g rs) (fun_cell g' qs) (ts, x, y) (us, z, w) i j =
        let e : a_term (g_fun g ts) ≡ a_term (g_fun g' us) = sym y ∙ q ∙ w in let same : us ≡ ts = cc in let name : g ≡ g' = cc in
        and-number (g == g') (length rs) (length qs) (eq-eqb g g' name) (terms-count σ rs qs ts x (z ∙ ap Some same))
    by (eigen_cell g rs) (eigen_cell g' qs) (ts, x, y) (us, z, w) i j =
        let e : a_term (g_eigen g ts) ≡ a_term (g_eigen g' us) = sym y ∙ q ∙ w in let same : us ≡ ts = cc in let name : g ≡ g' = cc in
        and-number (g == g') (length rs) (length qs) (eq-eqb g g' name) (values-count σ rs qs ts x (z ∙ ap Some same))
    by (new_cell g rs) (new_cell g' qs) (ts, x, y) (us, z, w) i j =
        let e : a_mark (g_new_mark g ts) ≡ a_mark (g_new_mark g' us) = sym y ∙ q ∙ w in let same : us ≡ ts = cc in let name : g ≡ g' = cc in
        and-number (g == g') (length rs) (length qs) (eq-eqb g g' name) (values-count σ rs qs ts x (z ∙ ap Some same))
    by (string_cell rs) (string_cell qs) (ts, x, y) (us, z, w) i j =
        let e : a_string ts ≡ a_string us = sym y ∙ q ∙ w in let same : us ≡ ts = cc in
        eq-eqb (length rs) (length qs) (marks-count σ rs qs ts x (z ∙ ap Some same))
    by (variable sort o) d x y i j = absurd (false≢true (sym i))
    by (fun_cell g rs) (variable sort o) x y i j = absurd (false≢true (sym j))
    by (fun_cell g rs) (eigen_cell g' qs) (ts, x, y) (us, z, w) i j = absurd (let e : a_term (g_fun g ts) ≡ a_term (g_eigen g' us) = sym y ∙ q ∙ w in cc)
    by (fun_cell g rs) (new_cell g' qs) (ts, x, y) (us, z, w) i j = absurd (let e : a_term (g_fun g ts) ≡ a_mark (g_new_mark g' us) = sym y ∙ q ∙ w in cc)
    by (fun_cell g rs) (string_cell qs) (ts, x, y) (us, z, w) i j = absurd (let e : a_term (g_fun g ts) ≡ a_string us = sym y ∙ q ∙ w in cc)
    by (eigen_cell g rs) (variable sort o) x y i j = absurd (false≢true (sym j))
    by (eigen_cell g rs) (fun_cell g' qs) (ts, x, y) (us, z, w) i j = absurd (let e : a_term (g_eigen g ts) ≡ a_term (g_fun g' us) = sym y ∙ q ∙ w in cc)
    by (eigen_cell g rs) (new_cell g' qs) (ts, x, y) (us, z, w) i j = absurd (let e : a_term (g_eigen g ts) ≡ a_mark (g_new_mark g' us) = sym y ∙ q ∙ w in cc)
    by (eigen_cell g rs) (string_cell qs) (ts, x, y) (us, z, w) i j = absurd (let e : a_term (g_eigen g ts) ≡ a_string us = sym y ∙ q ∙ w in cc)
    by (new_cell g rs) (variable sort o) x y i j = absurd (false≢true (sym j))
    by (new_cell g rs) (fun_cell g' qs) (ts, x, y) (us, z, w) i j = absurd (let e : a_mark (g_new_mark g ts) ≡ a_term (g_fun g' us) = sym y ∙ q ∙ w in cc)
    by (new_cell g rs) (eigen_cell g' qs) (ts, x, y) (us, z, w) i j = absurd (let e : a_mark (g_new_mark g ts) ≡ a_term (g_eigen g' us) = sym y ∙ q ∙ w in cc)
    by (new_cell g rs) (string_cell qs) (ts, x, y) (us, z, w) i j = absurd (let e : a_mark (g_new_mark g ts) ≡ a_string us = sym y ∙ q ∙ w in cc)
    by (string_cell rs) (variable sort o) x y i j = absurd (false≢true (sym j))
    by (string_cell rs) (fun_cell g' qs) (ts, x, y) (us, z, w) i j = absurd (let e : a_string ts ≡ a_term (g_fun g' us) = sym y ∙ q ∙ w in cc)
    by (string_cell rs) (eigen_cell g' qs) (ts, x, y) (us, z, w) i j = absurd (let e : a_string ts ≡ a_term (g_eigen g' us) = sym y ∙ q ∙ w in cc)
    by (string_cell rs) (new_cell g' qs) (ts, x, y) (us, z, w) i j = absurd (let e : a_string ts ≡ a_mark (g_new_mark g' us) = sym y ∙ q ∙ w in cc)

-- ---- occurrence

size_of : CellValue → ℕ
size_of (a_term t) = g_term_size t
size_of (a_mark m) = mark_size m
size_of (a_string w) = marks_size (marks_tree w)

terms-larger : (σ : Solution) (rs : List ℕ) (i k : ℕ) (ts : GroundTerms) → terms_at σ rs ≡ Some ts → slice_get rs i ≡ Some k → size_of (σ k) < suc (g_terms_size ts)
unfolding size_of
terms-larger σ [] i k ts h e = absurd (cc)
terms-larger σ (r ∷ rs) zero k ts h e =
    let (t, us, xt, ou, tu) = cons_term-some (σ r) (terms_at σ rs) ts h in
    let same : k ≡ r = cc in
    let a : size_of (σ k) ≡ g_term_size t = ap (λ q. size_of (σ q)) same ∙ ap size_of xt in
    let b : g_terms_size ts ≡ suc (g_term_size t + g_terms_size us) = ap g_terms_size tu in
    omega arith
terms-larger σ (r ∷ rs) (suc i) k ts h e =
    let (t, us, xt, ou, tu) = cons_term-some (σ r) (terms_at σ rs) ts h in
    let l = terms-larger σ rs i k us ou e in
    let b : g_terms_size ts ≡ suc (g_term_size t + g_terms_size us) = ap g_terms_size tu in
    omega arith

marks-larger : (σ : Solution) (rs : List ℕ) (i k : ℕ) (ts : List GroundMark) → marks_at σ rs ≡ Some ts → slice_get rs i ≡ Some k → size_of (σ k) < marks_size (marks_tree ts)
unfolding size_of
marks-larger σ [] i k ts h e = absurd (cc)
marks-larger σ (r ∷ rs) zero k ts h e =
    let (t, us, xt, ou, tu) = cons_mark-some (σ r) (marks_at σ rs) ts h in
    let same : k ≡ r = cc in
    let a : size_of (σ k) ≡ mark_size t = ap (λ q. size_of (σ q)) same ∙ ap size_of xt in
    let b : marks_size (marks_tree ts) ≡ suc (mark_size t + marks_size (marks_tree us)) = ap (λ w. marks_size (marks_tree w)) tu in
    omega arith
marks-larger σ (r ∷ rs) (suc i) k ts h e =
    let (t, us, xt, ou, tu) = cons_mark-some (σ r) (marks_at σ rs) ts h in
    let l = marks-larger σ rs i k us ou e in
    let b : marks_size (marks_tree ts) ≡ suc (mark_size t + marks_size (marks_tree us)) = ap (λ w. marks_size (marks_tree w)) tu in
    omega arith

size-part : (x : CellValue) (v : Value) → IsPart x v → size_of x < value_size v
unfolding size_of
size-part x v (part_term t) = omega arith
size-part x v (part_string w) = omega arith

values-larger : (σ : Solution) (rs : List ℕ) (i k : ℕ) (ts : Values) → values_at σ rs ≡ Some ts → slice_get rs i ≡ Some k → size_of (σ k) < suc (values_size ts)
values-larger σ [] i k ts h e = absurd (cc)
values-larger σ (r ∷ rs) zero k ts h e =
    let (t, us, xt, ou, tu) = cons_value-some (σ r) (values_at σ rs) ts h in
    let same : k ≡ r = cc in
    let l = size-part (σ r) t xt in
    rw (same, tu) (omega arith)
values-larger σ (r ∷ rs) (suc i) k ts h e =
    let (t, us, xt, ou, tu) = cons_value-some (σ r) (values_at σ rs) ts h in
    let l = values-larger σ rs i k us ou e in
    rw tu (omega arith)

-- a part of a built cell has a smaller value
part-smaller : (s : Store) (σ : Solution) (r i k : ℕ) (c : Cell) → Solves s σ → slice_get s.cells r ≡ Some c → slice_get (parts_of c) i ≡ Some k → is_variable c ≡ false → size_of (σ k) < size_of (σ r)
unfolding size_of
part-smaller s σ r i k c h e p v = by c (h r c e) p v
  where
    by : (c : Cell) → CellHolds σ r c → slice_get (parts_of c) i ≡ Some k → is_variable c ≡ false → size_of (σ k) < size_of (σ r)
    by (variable sort o) x p v = absurd (false≢true (sym v))
    by (fun_cell g rs) (ts, x, y) p v = let l = terms-larger σ rs i k ts x p in let e = ap size_of y in omega arith
    by (eigen_cell g rs) (ts, x, y) p v = let l = values-larger σ rs i k ts x p in let e = ap size_of y in omega arith
    by (new_cell g rs) (ts, x, y) p v = let l = values-larger σ rs i k ts x p in let e = ap size_of y in omega arith
    by (string_cell rs) (ts, x, y) p v = let l = marks-larger σ rs i k ts x p in let e = ap size_of y in omega arith

bound-equal : (s : Store) (σ : Solution) (r i k : ℕ) (c : Cell) → Solves s σ → slice_get s.cells r ≡ Some c → slice_get (parts_of c) i ≡ Some k → is_variable c ≡ true → σ r ≡ σ k
bound-equal s σ r i k c h e p v = by i c (h r c e) p v
  where
    by : (i : ℕ) (c : Cell) → CellHolds σ r c → slice_get (parts_of c) i ≡ Some k → is_variable c ≡ true → σ r ≡ σ k
    by i (variable sort None) x p v = absurd (cc)
    by zero (variable sort (Some q)) x p v = let same : q ≡ k = cc in x.1 ∙ ap σ same
    by (suc i) (variable sort (Some q)) x p v = absurd (cc)
    by i (fun_cell g rs) x p v = absurd (false≢true v)
    by i (eigen_cell g rs) x p v = absurd (false≢true v)
    by i (new_cell g rs) x p v = absurd (false≢true v)
    by i (string_cell rs) x p v = absurd (false≢true v)

size-occurs : (s : Store) (σ : Solution) (v r : ℕ) → Solves s σ → OccursIn s v r → size_of (σ v) ≤ size_of (σ r)
size-occurs s σ v r h here = omega arith
size-occurs s σ v r h (in_part i {k = k} {c = c} e p o) =
    let l = size-occurs s σ v k h o in
    elim (cases_Bool (is_variable c)) [
      | inl t ↦ let q = ap size_of (bound-equal s σ r i k c h e p t) in omega arith
      | inr f ↦ let m = part-smaller s σ r i k c h e p f in omega arith
    ]

-- what occurs in a built cell has another value, since ground values are finite
pub occurs-apart : (s : Store) (σ : Solution) (v r : ℕ) (c : Cell) → Solves s σ → slice_get s.cells r ≡ Some c → is_variable c ≡ false → OccursIn s v r → ¬ (v ≡ r) → ¬ (σ v ≡ σ r)
occurs-apart s σ v r c h e b here n q = n refl
occurs-apart s σ v r c h e b (in_part i {k = k} {c = d} e' p o) n q =
    let same : c ≡ d = let w : Some c ≡ Some d = sym e ∙ e' in cc in
    let l = size-occurs s σ v k h o in
    let m = part-smaller s σ r i k d h e' p (sym (ap is_variable same) ∙ b) in
    let t = ap size_of q in omega arith

-- ---- a store without cycles has a solution

-- what the cell says by the values of its parts
cell_value : Solution → CellValue → Cell → CellValue
cell_value σ x (variable sort None) = x
cell_value σ x (variable sort (Some r)) = σ r
cell_value σ x (fun_cell f rs) = a_term (g_fun f (option_map_or (λ ts. ts) (terms_at σ rs) no_g_terms))
cell_value σ x (eigen_cell p rs) = a_term (g_eigen p (option_map_or (λ vs. vs) (values_at σ rs) no_values))
cell_value σ x (new_cell p rs) = a_mark (g_new_mark p (option_map_or (λ vs. vs) (values_at σ rs) no_values))
cell_value σ x (string_cell rs) = a_string (option_map_or (λ w. w) (marks_at σ rs) [])

terms-follow : (σ τ : Solution) (rs : List ℕ) → ((i k : ℕ) → slice_get rs i ≡ Some k → σ k ≡ τ k) → terms_at σ rs ≡ terms_at τ rs
terms-follow σ τ [] h = refl
terms-follow σ τ (r ∷ rs) h = ap₂ cons_term (h 0 r refl) (terms-follow σ τ rs (λ i k e. h (suc i) k e))

values-follow : (σ τ : Solution) (rs : List ℕ) → ((i k : ℕ) → slice_get rs i ≡ Some k → σ k ≡ τ k) → values_at σ rs ≡ values_at τ rs
values-follow σ τ [] h = refl
values-follow σ τ (r ∷ rs) h = ap₂ cons_value (h 0 r refl) (values-follow σ τ rs (λ i k e. h (suc i) k e))

marks-follow : (σ τ : Solution) (rs : List ℕ) → ((i k : ℕ) → slice_get rs i ≡ Some k → σ k ≡ τ k) → marks_at σ rs ≡ marks_at τ rs
marks-follow σ τ [] h = refl
marks-follow σ τ (r ∷ rs) h = ap₂ cons_mark (h 0 r refl) (marks-follow σ τ rs (λ i k e. h (suc i) k e))

cell_value-follow : (σ τ : Solution) (x : CellValue) (c : Cell) → ((i k : ℕ) → slice_get (parts_of c) i ≡ Some k → σ k ≡ τ k) → cell_value σ x c ≡ cell_value τ x c
unfolding cell_value
cell_value-follow σ τ x (variable sort None) h = refl
cell_value-follow σ τ x (variable sort (Some r)) h = h 0 r refl
cell_value-follow σ τ x (fun_cell f rs) h = ap (λ o. a_term (g_fun f (option_map_or (λ ts. ts) o no_g_terms))) (terms-follow σ τ rs h)
cell_value-follow σ τ x (eigen_cell p rs) h = ap (λ o. a_term (g_eigen p (option_map_or (λ ts. ts) o no_values))) (values-follow σ τ rs h)
cell_value-follow σ τ x (new_cell p rs) h = ap (λ o. a_mark (g_new_mark p (option_map_or (λ ts. ts) o no_values))) (values-follow σ τ rs h)
cell_value-follow σ τ x (string_cell rs) h = ap (λ o. a_string (option_map_or (λ ts. ts) o [])) (marks-follow σ τ rs h)

-- the value at a cell, for which n steps down are looked at
value_by : Store → Solution → ℕ → Solution
value_by s α zero r = α r
value_by s α (suc n) r = option_map_or (cell_value (value_by s α n) (α r)) (slice_get s.cells r) (α r)

value_by-enough : (s : Store) (rank : ℕ → ℕ) → IsRanked s rank → (α : Solution) (n m r : ℕ) → rank r < n → rank r < m → value_by s α n r ≡ value_by s α m r
unfolding value_by
value_by-enough s rank h α zero m r l k = absurd (omega arith)
value_by-enough s rank h α (suc n) zero r l k = absurd (omega arith)
value_by-enough s rank h α (suc n) (suc m) r l k = by (λ q. value_by-enough s rank h α n m q) (slice_get s.cells r) refl
  where
    by : ((q : ℕ) → rank q < n → rank q < m → value_by s α n q ≡ value_by s α m q) → (o : Option Cell) → slice_get s.cells r ≡ o → option_map_or (cell_value (value_by s α n) (α r)) o (α r) ≡ option_map_or (cell_value (value_by s α m) (α r)) o (α r)
    by below None e = refl
    by below (Some c) e = cell_value-follow (value_by s α n) (value_by s α m) (α r) c (λ i q p. let a = h i r q c e p in below q (omega arith) (omega arith))

value_by-step : (s : Store) (α : Solution) (n r : ℕ) (c : Cell) → slice_get s.cells r ≡ Some c → value_by s α (suc n) r ≡ cell_value (value_by s α n) (α r) c
unfolding value_by
value_by-step s α n r c e = ap (λ o. option_map_or (cell_value (value_by s α n) (α r)) o (α r)) e

-- a value of its sort for each unbound variable
abbrev pub FitsOpen : Store → Solution → Type 0
FitsOpen s α = (n : ℕ) (sort : Sort) → slice_get s.cells n ≡ Some (variable sort None) → IsTrue (has_sort sort (α n))

value_by-sort : (s : Store) (rank : ℕ → ℕ) → IsRanked s rank → IsTrue (is_store s) → (α : Solution) → FitsOpen s α → (n r : ℕ) (c : Cell) → rank r < n → slice_get s.cells r ≡ Some c → IsTrue (has_sort (sort_of c) (value_by s α n r))
unfolding value_by cell_value
value_by-sort s rank h k α f zero r c l e = absurd (omega arith)
value_by-sort s rank h k α f (suc n) r c l e = rw e (by (λ q d. value_by-sort s rank h k α f n q d) c e ((kept s k).fits r c e))
  where
    by : ((q : ℕ) (d : Cell) → rank q < n → slice_get s.cells q ≡ Some d → IsTrue (has_sort (sort_of d) (value_by s α n q))) → (c : Cell) → slice_get s.cells r ≡ Some c → IsTrue (parts_fit s c) → IsTrue (has_sort (sort_of c) (cell_value (value_by s α n) (α r) c))
    by below (variable sort None) e p = f r sort e
    by below (variable sort (Some q)) e p =
        let w = sorted_cell s sort q p in
        let a = h 0 r q (variable sort (Some q)) e refl in
        subst (λ x. IsTrue (has_sort x (value_by s α n q))) w.2 (below q w.0 (omega arith) w.1)
    by below (fun_cell g rs) e p = refl
    by below (eigen_cell g rs) e p = refl
    by below (new_cell g rs) e p = refl
    by below (string_cell rs) e p = refl

terms-there : (s : Store) (σ : Solution) → ((r : ℕ) (c : Cell) → slice_get s.cells r ≡ Some c → IsTrue (has_sort (sort_of c) (σ r))) → (rs : List ℕ) → IsTrue (list_all (has_sort_at s TermSort) rs) → (ts : GroundTerms) × (terms_at σ rs ≡ Some ts)
terms-there s σ h [] k = (no_g_terms, refl)
terms-there s σ h (r ∷ rs) k =
    let a = and_parts (has_sort_at s TermSort r) (list_all (has_sort_at s TermSort) rs) k in
    let w = sorted_cell s TermSort r a.0 in
    let t = a_term-of (σ r) (subst (λ x. IsTrue (has_sort x (σ r))) w.2 (h r w.0 w.1)) in
    let us = terms-there s σ h rs a.1 in
    (more_g_terms t.0 us.0, ap₂ cons_term t.1 us.1)
  where
    a_term-of : (x : CellValue) → IsTrue (has_sort TermSort x) → (t : GroundTerm) × (x ≡ a_term t)
    a_term-of (a_term t) h = (t, refl)
    a_term-of (a_mark t) h = absurd (false≢true h)
    a_term-of (a_string t) h = absurd (false≢true h)

marks-there : (s : Store) (σ : Solution) → ((r : ℕ) (c : Cell) → slice_get s.cells r ≡ Some c → IsTrue (has_sort (sort_of c) (σ r))) → (rs : List ℕ) → IsTrue (list_all (has_sort_at s MarkSort) rs) → (ts : List GroundMark) × (marks_at σ rs ≡ Some ts)
marks-there s σ h [] k = ([], refl)
marks-there s σ h (r ∷ rs) k =
    let a = and_parts (has_sort_at s MarkSort r) (list_all (has_sort_at s MarkSort) rs) k in
    let w = sorted_cell s MarkSort r a.0 in
    let t = a_mark-of (σ r) (subst (λ x. IsTrue (has_sort x (σ r))) w.2 (h r w.0 w.1)) in
    let us = marks-there s σ h rs a.1 in
    (t.0 ∷ us.0, ap₂ cons_mark t.1 us.1)
  where
    a_mark-of : (x : CellValue) → IsTrue (has_sort MarkSort x) → (t : GroundMark) × (x ≡ a_mark t)
    a_mark-of (a_mark t) h = (t, refl)
    a_mark-of (a_term t) h = absurd (false≢true h)
    a_mark-of (a_string t) h = absurd (false≢true h)

values-there : (s : Store) (σ : Solution) → ((r : ℕ) (c : Cell) → slice_get s.cells r ≡ Some c → IsTrue (has_sort (sort_of c) (σ r))) → (rs : List ℕ) → IsTrue (list_all (has_value_sort_at s) rs) → (vs : Values) × (values_at σ rs ≡ Some vs)
values-there s σ h [] k = (no_values, refl)
values-there s σ h (r ∷ rs) k =
    let a = and_parts (has_value_sort_at s r) (list_all (has_value_sort_at s) rs) k in
    let us = values-there s σ h rs a.1 in
    let x = part_of (σ r) (sorted r a.0) in
    (more_values x.0 us.0, ap (cons_value (σ r)) us.1 ∙ x.1 us.0)
  where
    sorted : (r : ℕ) → IsTrue (has_value_sort_at s r) → IsTrue (has_sort TermSort (σ r)) ⊎ IsTrue (has_sort StringSort (σ r))
    sorted r a = elim (cases_Bool (has_sort_at s TermSort r)) [
      | inl t ↦ let w = sorted_cell s TermSort r t in inl (subst (λ x. IsTrue (has_sort x (σ r))) w.2 (h r w.0 w.1))
      | inr f ↦ let w = sorted_cell s StringSort r (rw f at a) in inr (subst (λ x. IsTrue (has_sort x (σ r))) w.2 (h r w.0 w.1))
    ]

    part_of : (x : CellValue) → IsTrue (has_sort TermSort x) ⊎ IsTrue (has_sort StringSort x) → (v : Value) × ((us : Values) → cons_value x (Some us) ≡ Some (more_values v us))
    part_of (a_term t) h = (term t, λ us. refl)
    part_of (a_string w) h = (steps (marks_tree w), λ us. refl)
    part_of (a_mark m) (inl h) = absurd (false≢true h)
    part_of (a_mark m) (inr h) = absurd (false≢true h)

-- each choice of values for the unbound variables belongs to one ground solution
pub solution_by : (s : Store) → IsTrue (is_store s) → HasRank s → (α : Solution) → FitsOpen s α → (σ : Solution) × Solves s σ × ((n : ℕ) (sort : Sort) → slice_get s.cells n ≡ Some (variable sort None) → σ n ≡ α n)
unfolding cell_value
solution_by s k (rank, h) α f = (value, λ n c e. by n c e ((kept s k).fits n c e) (valued n c e), λ n sort e. valued n (variable sort None) e)
  where
    value : Solution
    value = λ r. value_by s α (suc (rank r)) r

    sorted : (r : ℕ) (c : Cell) → slice_get s.cells r ≡ Some c → IsTrue (has_sort (sort_of c) (value_by s α (suc (rank r)) r))
    sorted r c e = value_by-sort s rank h k α f (suc (rank r)) r c (omega arith) e

    valued : (n : ℕ) (c : Cell) → slice_get s.cells n ≡ Some c → value_by s α (suc (rank n)) n ≡ cell_value (λ r. value_by s α (suc (rank r)) r) (α n) c
    valued n c e = value_by-step s α (rank n) n c e ∙ cell_value-follow (value_by s α (rank n)) (λ r. value_by s α (suc (rank r)) r) (α n) c (λ i q p. let a = h i n q c e p in value_by-enough s rank h α (rank n) (suc (rank q)) q (omega arith) (omega arith))

    by : (n : ℕ) (c : Cell) → slice_get s.cells n ≡ Some c → IsTrue (parts_fit s c) → value_by s α (suc (rank n)) n ≡ cell_value (λ r. value_by s α (suc (rank r)) r) (α n) c → CellHolds (λ r. value_by s α (suc (rank r)) r) n c
    by n (variable sort None) e p v = sorted n (variable sort None) e
    by n (variable sort (Some r)) e p v = (sorted n (variable sort (Some r)) e, v)
    by n (fun_cell g rs) e p v = let w = terms-there s (λ r. value_by s α (suc (rank r)) r) sorted rs p in (w.0, w.1, v ∙ ap (λ o. a_term (g_fun g (option_map_or (λ ts. ts) o no_g_terms))) w.1)
    by n (eigen_cell g rs) e p v = let w = values-there s (λ r. value_by s α (suc (rank r)) r) sorted rs p in (w.0, w.1, v ∙ ap (λ o. a_term (g_eigen g (option_map_or (λ ts. ts) o no_values))) w.1)
    by n (new_cell g rs) e p v = let w = values-there s (λ r. value_by s α (suc (rank r)) r) sorted rs p in (w.0, w.1, v ∙ ap (λ o. a_mark (g_new_mark g (option_map_or (λ ts. ts) o no_values))) w.1)
    by n (string_cell rs) e p v = let w = marks-there s (λ r. value_by s α (suc (rank r)) r) sorted rs p in (w.0, w.1, v ∙ ap (λ o. a_string (option_map_or (λ ts. ts) o [])) w.1)

-- some value of the sort
some_value : Sort → CellValue
some_value TermSort = a_term (common 0)
some_value MarkSort = a_mark (g_spare_mark 0)
some_value StringSort = a_string []

pub some_solution : (s : Store) → IsTrue (is_store s) → HasRank s → (σ : Solution) × Solves s σ
unfolding some_value
some_solution s k h = let w = solution_by s k h (λ n. some_value (option_map_or sort_of (slice_get s.cells n) TermSort)) (λ n sort e. rw e (fits sort)) in (w.0, w.1)
  where
    fits : (sort : Sort) → has_sort sort (some_value sort) ≡ true
    fits TermSort = refl
    fits MarkSort = refl
    fits StringSort = refl
