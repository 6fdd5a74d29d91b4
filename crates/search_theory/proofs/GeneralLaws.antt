-- Where lists of cells have equal values by one solution, and their cells carry over to another, the lists have equal values by that.
use Rattle.std.proofs.Common.{◌≡◌, ℕ, zero, suc, List, [], ◌∷◌, Bool, true, false, ◌||◌, IsTrue, refl, sym, ◌∙◌, ap, ap₂, subst, Option, Some, None, slice_get}
use Rattle.plain_laws.proofs.Every.{all-at}
use Rattle.calculus.specs.declared.sort.Sort.{Sort}
use Rattle.calculus.specs.declared.sort.Sort.TheVariants.{TermSort, MarkSort, StringSort}
use Rattle.calculus.specs.Ground.{GroundTerm, GroundTerms, GroundMark, Value, Values, g_fun, g_eigen, common, own, no_g_terms, more_g_terms, g_new_mark, g_spare_mark, term, steps, no_values, more_values, marks_tree}
use Rattle.calculus.specs.Lists.{marks_tree-inj}
use Rattle.store_theory.specs.Stores.{Cell, variable, fun_cell, eigen_cell, new_cell, string_cell, Store, parts_of, has_sort_at, has_value_sort_at, parts_fit, is_store, CellValue, a_term, a_mark, a_string, Solution, cons_term, terms_at, cons_value, values_at, cons_mark, marks_at}
use Rattle.search_theory.proofs.SpareLaws.{cell-fits, cell-sorted}
use Rattle.search_theory.specs.CellsIn.{IsPart}

-- ---- the parts of a list of values

pub record TermParts (σ : Solution) (r : ℕ) (rs : List ℕ) (ts : GroundTerms) : Type 0 where
  pub first : GroundTerm
  pub rest : GroundTerms
  pub is_first : σ r ≡ a_term first
  pub are_rest : terms_at σ rs ≡ Some rest
  pub all_of_them : ts ≡ more_g_terms first rest

pub term-parts : (σ : Solution) (r : ℕ) (rs : List ℕ) (ts : GroundTerms) → terms_at σ (r ∷ rs) ≡ Some ts → TermParts σ r rs ts
term-parts σ r rs ts e = by (σ r) (terms_at σ rs) refl refl e
  where
    by : (v : CellValue) (o : Option GroundTerms) → σ r ≡ v → terms_at σ rs ≡ o → cons_term v o ≡ Some ts → TermParts σ r rs ts
    by (a_term t) (Some us) f g h = let q : more_g_terms t us ≡ ts = cc h in record { first = t; rest = us; is_first = f; are_rest = g; all_of_them = sym q }
    by (a_term t) None f g h = cc h
    by (a_mark m) o f g h = cc h
    by (a_string w) o f g h = cc h

pub record ValueParts (σ : Solution) (r : ℕ) (rs : List ℕ) (vs : Values) : Type 0 where
  pub first : Value
  pub rest : Values
  pub are_rest : values_at σ rs ≡ Some rest
  pub all_of_them : vs ≡ more_values first rest
  -- the first is the value at r alone
  pub first_only : (k : ℕ) (ks : List ℕ) (us : Values) → values_at σ (k ∷ ks) ≡ Some (more_values first us) → σ r ≡ σ k

values-at-first : (σ : Solution) (k : ℕ) (ks : List ℕ) (w : Value) (us : Values) → values_at σ (k ∷ ks) ≡ Some (more_values w us) → (values_at σ ks ≡ Some us) × (((t : GroundTerm) → w ≡ term t → σ k ≡ a_term t) × ((m : List GroundMark) → w ≡ steps (marks_tree m) → σ k ≡ a_string m))
values-at-first σ k ks w us e = by (σ k) (values_at σ ks) refl refl e
  where
    by : (v : CellValue) (o : Option Values) → σ k ≡ v → values_at σ ks ≡ o → cons_value v o ≡ Some (more_values w us) → (values_at σ ks ≡ Some us) × (((t : GroundTerm) → w ≡ term t → σ k ≡ a_term t) × ((m : List GroundMark) → w ≡ steps (marks_tree m) → σ k ≡ a_string m))
    by (a_term t) (Some xs) f g h =
        let q : xs ≡ us = cc h in
        let p : term t ≡ w = cc h in
        (g ∙ ap Some q, ((λ u eu. let z : t ≡ u = cc (p, eu) in f ∙ ap a_term z), (λ m em. let z : term t ≡ steps (marks_tree m) = p ∙ em in cc z)))
    by (a_string x) (Some xs) f g h =
        let q : xs ≡ us = cc h in
        let p : steps (marks_tree x) ≡ w = cc h in
        (g ∙ ap Some q, ((λ u eu. let z : steps (marks_tree x) ≡ term u = p ∙ eu in cc z), (λ m em. let z : marks_tree x ≡ marks_tree m = cc (p, em) in f ∙ ap a_string (marks_tree-inj x m z))))
    by (a_term t) None f g h = cc h
    by (a_string x) None f g h = cc h
    by (a_mark m) o f g h = cc h

pub value-parts : (σ : Solution) (r : ℕ) (rs : List ℕ) (vs : Values) → values_at σ (r ∷ rs) ≡ Some vs → ValueParts σ r rs vs
value-parts σ r rs vs e = by (σ r) (values_at σ rs) refl refl e
  where
    by : (v : CellValue) (o : Option Values) → σ r ≡ v → values_at σ rs ≡ o → cons_value v o ≡ Some vs → ValueParts σ r rs vs
    by (a_term t) (Some us) f g h =
        let q : more_values (term t) us ≡ vs = cc h in
        record { first = term t; rest = us; are_rest = g; all_of_them = sym q; first_only = λ k ks xs d. f ∙ sym ((values-at-first σ k ks (term t) xs d).1.0 t refl) }
    by (a_string w) (Some us) f g h =
        let q : more_values (steps (marks_tree w)) us ≡ vs = cc h in
        record { first = steps (marks_tree w); rest = us; are_rest = g; all_of_them = sym q; first_only = λ k ks xs d. f ∙ sym ((values-at-first σ k ks (steps (marks_tree w)) xs d).1.1 w refl) }
    by (a_term t) None f g h = cc h
    by (a_string w) None f g h = cc h
    by (a_mark m) o f g h = cc h

pub record MarkParts (σ : Solution) (r : ℕ) (rs : List ℕ) (w : List GroundMark) : Type 0 where
  pub first : GroundMark
  pub rest : List GroundMark
  pub is_first : σ r ≡ a_mark first
  pub are_rest : marks_at σ rs ≡ Some rest
  pub all_of_them : w ≡ first ∷ rest

pub mark-parts : (σ : Solution) (r : ℕ) (rs : List ℕ) (w : List GroundMark) → marks_at σ (r ∷ rs) ≡ Some w → MarkParts σ r rs w
mark-parts σ r rs w e = by (σ r) (marks_at σ rs) refl refl e
  where
    by : (v : CellValue) (o : Option (List GroundMark)) → σ r ≡ v → marks_at σ rs ≡ o → cons_mark v o ≡ Some w → MarkParts σ r rs w
    by (a_mark m) (Some us) f g h = let q : m ∷ us ≡ w = cc h in record { first = m; rest = us; is_first = f; are_rest = g; all_of_them = sym q }
    by (a_mark m) None f g h = cc h
    by (a_term t) o f g h = cc h
    by (a_string v) o f g h = cc h

-- ---- lists with equal values by σ have equal values by τ, where their cells have

abbrev pub Carries : Solution → Solution → List ℕ → List ℕ → Type 0
Carries σ τ rs ks = (i j : ℕ) → IsPart i rs → IsPart j ks → σ i ≡ σ j → τ i ≡ τ j

later : (σ τ : Solution) (r k : ℕ) (rs ks : List ℕ) → Carries σ τ (r ∷ rs) (k ∷ ks) → Carries σ τ rs ks
later σ τ r k rs ks h i j p q e = h i j (suc p.0, p.1) (suc q.0, q.1) e

pub terms-carried : (σ τ : Solution) (rs ks : List ℕ) (ts : GroundTerms) → terms_at σ rs ≡ Some ts → terms_at σ ks ≡ Some ts → Carries σ τ rs ks → terms_at τ rs ≡ terms_at τ ks
terms-carried σ τ [] [] ts e f h = refl
terms-carried σ τ [] (k ∷ ks) ts e f h = let p = term-parts σ k ks ts f in let q : no_g_terms ≡ ts = cc e in let z : no_g_terms ≡ more_g_terms p.first p.rest = q ∙ p.all_of_them in cc z
terms-carried σ τ (r ∷ rs) [] ts e f h = let p = term-parts σ r rs ts e in let q : no_g_terms ≡ ts = cc f in let z : no_g_terms ≡ more_g_terms p.first p.rest = q ∙ p.all_of_them in cc z
terms-carried σ τ (r ∷ rs) (k ∷ ks) ts e f h =
    let p = term-parts σ r rs ts e in
    let q = term-parts σ k ks ts f in
    let z : more_g_terms p.first p.rest ≡ more_g_terms q.first q.rest = sym p.all_of_them ∙ q.all_of_them in
    let a : p.first ≡ q.first = cc z in
    let b : p.rest ≡ q.rest = cc z in
    ap₂ cons_term (h r k (0, refl) (0, refl) (p.is_first ∙ ap a_term a ∙ sym q.is_first)) (terms-carried σ τ rs ks p.rest p.are_rest (q.are_rest ∙ ap Some (sym b)) (later σ τ r k rs ks h))

pub values-carried : (σ τ : Solution) (rs ks : List ℕ) (vs : Values) → values_at σ rs ≡ Some vs → values_at σ ks ≡ Some vs → Carries σ τ rs ks → values_at τ rs ≡ values_at τ ks
values-carried σ τ [] [] vs e f h = refl
values-carried σ τ [] (k ∷ ks) vs e f h = let p = value-parts σ k ks vs f in let q : no_values ≡ vs = cc e in let z : no_values ≡ more_values p.first p.rest = q ∙ p.all_of_them in cc z
values-carried σ τ (r ∷ rs) [] vs e f h = let p = value-parts σ r rs vs e in let q : no_values ≡ vs = cc f in let z : no_values ≡ more_values p.first p.rest = q ∙ p.all_of_them in cc z
values-carried σ τ (r ∷ rs) (k ∷ ks) vs e f h =
    let p = value-parts σ r rs vs e in
    let q = value-parts σ k ks vs f in
    let z : more_values p.first p.rest ≡ more_values q.first q.rest = sym p.all_of_them ∙ q.all_of_them in
    let b : p.rest ≡ q.rest = cc z in
    let same = p.first_only k ks p.rest (f ∙ ap Some p.all_of_them) in
    ap₂ cons_value (h r k (0, refl) (0, refl) same) (values-carried σ τ rs ks p.rest p.are_rest (q.are_rest ∙ ap Some (sym b)) (later σ τ r k rs ks h))

pub marks-carried : (σ τ : Solution) (rs ks : List ℕ) (w : List GroundMark) → marks_at σ rs ≡ Some w → marks_at σ ks ≡ Some w → Carries σ τ rs ks → marks_at τ rs ≡ marks_at τ ks
marks-carried σ τ [] [] w e f h = refl
marks-carried σ τ [] (k ∷ ks) w e f h = let p = mark-parts σ k ks w f in let q : [] ≡ w = cc e in let z : [] ≡ p.first ∷ p.rest = q ∙ p.all_of_them in cc z
marks-carried σ τ (r ∷ rs) [] w e f h = let p = mark-parts σ r rs w e in let q : [] ≡ w = cc f in let z : [] ≡ p.first ∷ p.rest = q ∙ p.all_of_them in cc z
marks-carried σ τ (r ∷ rs) (k ∷ ks) w e f h =
    let p = mark-parts σ r rs w e in
    let q = mark-parts σ k ks w f in
    let z : p.first ∷ p.rest ≡ q.first ∷ q.rest = sym p.all_of_them ∙ q.all_of_them in
    let a : p.first ≡ q.first = cc z in
    let b : p.rest ≡ q.rest = cc z in
    ap₂ cons_mark (h r k (0, refl) (0, refl) (p.is_first ∙ ap a_mark a ∙ sym q.is_first)) (marks-carried σ τ rs ks p.rest p.are_rest (q.are_rest ∙ ap Some (sym b)) (later σ τ r k rs ks h))

-- ---- which kind of cell a value is from

abbrev pub value_tag : CellValue → ℕ
value_tag (a_term (g_fun f ts)) = 1
value_tag (a_term (g_eigen p vs)) = 2
value_tag (a_term (common k)) = 0
value_tag (a_term (own k w)) = 0
value_tag (a_mark (g_new_mark p vs)) = 3
value_tag (a_mark (g_spare_mark k)) = 4
value_tag (a_string w) = 5

-- the parts of a cell are cells
pub part-cell : (s : Store) → IsTrue (is_store s) → (r k : ℕ) (c : Cell) → slice_get s.cells r ≡ Some c → IsPart k (parts_of c) → (d : Cell) × (slice_get s.cells k ≡ Some d)
part-cell s h r k c e p = by c (cell-fits s h r c e) p
  where
    sorted : (sort : Sort) → IsTrue (has_sort_at s sort k) → (d : Cell) × (slice_get s.cells k ≡ Some d)
    sorted sort q = let t = cell-sorted s sort k q in (t.0, t.1)

    valued : IsTrue (has_value_sort_at s k) → (d : Cell) × (slice_get s.cells k ≡ Some d)
    valued q = either (has_sort_at s TermSort k) (has_sort_at s StringSort k) (sorted TermSort) (sorted StringSort) q
      where
        either : {A : Type 0} (a b : Bool) → (IsTrue a → A) → (IsTrue b → A) → IsTrue (a || b) → A
        either true b f g x = f refl
        either false b f g x = g x

    by : (c : Cell) → IsTrue (parts_fit s c) → IsPart k (parts_of c) → (d : Cell) × (slice_get s.cells k ≡ Some d)
    by (variable sort None) f q = let z = q.1 in cc z
    by (variable sort (Some j)) f q = one q.0 q.1
      where
        one : (i : ℕ) → slice_get (j ∷ []) i ≡ Some k → (d : Cell) × (slice_get s.cells k ≡ Some d)
        one zero z = let same : j ≡ k = cc z in sorted sort (subst (λ x. IsTrue (has_sort_at s sort x)) same f)
        one (suc i) z = cc z
    by (fun_cell g rs) f q = sorted TermSort (all-at (has_sort_at s TermSort) rs q.0 k f q.1)
    by (eigen_cell x rs) f q = valued (all-at (has_value_sort_at s) rs q.0 k f q.1)
    by (new_cell x rs) f q = valued (all-at (has_value_sort_at s) rs q.0 k f q.1)
    by (string_cell rs) f q = sorted MarkSort (all-at (has_sort_at s MarkSort) rs q.0 k f q.1)

pub same-some : {A : Type 0} (o p : Option A) (x y : A) → o ≡ Some x → p ≡ Some y → o ≡ p → x ≡ y
same-some o p x y e f g = let z : Some x ≡ Some y = sym e ∙ g ∙ f in cc z
