-- What is made for cells are their values by own spares, as the table grows.
use Rattle.std.proofs.Common.{◌≡◌, ◌+◌, ◌≤◌, ℕ, List, [], ◌∷◌, ◌++◌, false, length, map, take, refl, sym, ◌∙◌, ap, ap₂, subst, Option, None, Some, slice_get, append_assoc, append-nil}
use Rattle.std.proofs.lemmas.List.{map-append}
use Rattle.calculus.specs.declared.sort.Sort.TheVariants.{TermSort, MarkSort, StringSort}
use Rattle.calculus.specs.Ground as tree
use Rattle.calculus.specs.Lists.{g_terms_tree}
use Rattle.store_theory.specs.Bindings.{EndsIn, IsEnd}
use Rattle.store_theory.specs.Stores.{Cell, variable, fun_cell, eigen_cell, new_cell, string_cell, is_bound, Store, EndsAt, CellValue, a_term, a_mark, a_string, Solution, cons_term, terms_at, cons_value, values_at, cons_mark, marks_at, join_label, label_at}
use Rattle.store_theory.specs.Templates.{as_term, as_value, as_label}
use Rattle.store_theory.proofs.BindingLaws.{ends-once}
use Rattle.search_theory.specs.States.{label_by, terms_by, values_by}
use Rattle.term_store.specs.Shown.{head_of}
use Rattle.term_store.specs.declared.cell.Head.{Head}
use Rattle.formula_core.specs.GroundLists.{GroundList, IsGrown, no_list, the_g_term, the_mark, the_value, the_terms, the_marks, the_values, AreNormalTerms, AreNormalMarks, AreNormalValues}
use Rattle.formula_core.specs.declared.ground.GroundTerm.{GroundTerm}
use Rattle.formula_core.specs.declared.ground.GroundTerm.TheVariants as program
use Rattle.formula_core.specs.declared.ground.GroundMark.TheVariants as mark
use Rattle.formula_core.specs.declared.ground.GroundMark.{GroundMark}
use Rattle.formula_core.specs.declared.ground.Value.{Value}
use Rattle.formula_core.proofs.GrownLaws.{term-grown, mark-grown, marks-grown, term-normal-grown, mark-normal-grown}
use Rattle.tableau_reading.specs.Grounds.{AreSparesAt, IsGroundOf, IsSpareAt, Needs, home_of, made_of, needs_of, or_nothing, spare_at}
use Rattle.tableau_reading.specs.declared.grounds.Ground.{Ground}
use Rattle.tableau_reading.specs.declared.grounds.Ground.TheVariants as ground
use Rattle.tableau_reading.specs.declared.homes.Homes.{Homes}
use Rattle.search_tree.proofs.Places.{take-next}

-- ---- tables that grow

pub ground-grown : (a b : List GroundList) → IsGrown a b → (g : Ground) (v : CellValue) → IsGroundOf a g v → IsGroundOf b g v
ground-grown a b k (ground.Term t) v h = record { normal = term-normal-grown a b k t h.normal; value = ap a_term (term-grown a b k t h.normal) ∙ h.value }
ground-grown a b k (ground.Mark m) v h = record { normal = mark-normal-grown a b k m h.normal; value = ap a_mark (mark-grown a b k m h.normal) ∙ h.value }
ground-grown a b k (ground.Marks w) v h = record { normal = marks-normal-grown a b k w h.normal; value = ap a_string (marks-grown a b k w h.normal) ∙ h.value }
  where
    marks-normal-grown : (a b : List GroundList) → IsGrown a b → (w : _) → AreNormalMarks a w → AreNormalMarks b w
    marks-normal-grown a b k w n e = n (sym (marks-grown a b k w n) ∙ e)

pub grown-self : (ls : List GroundList) → length ls ≤ no_list → IsGrown ls ls
grown-self ls l = record { added = []; grown = sym (append-nil ls); most = l }

-- ---- lists of values, one more

pub terms-more : (ls : List GroundList) (σ : Solution) (refs : List ℕ) (i k : ℕ) (items : List GroundTerm) (t : GroundTerm) → slice_get refs i ≡ Some k → the_g_term ls t ≡ as_term (σ k) → map (the_g_term ls) items ≡ map (λ r. as_term (σ r)) (take i refs) → map (the_g_term ls) (items ++ t ∷ []) ≡ map (λ r. as_term (σ r)) (take (i + 1) refs)
terms-more ls σ refs i k items t e g h =
    map-append (the_g_term ls) items (t ∷ [])
    ∙ ap₂ (λ xs (x : tree.GroundTerm). xs ++ x ∷ []) h g
    ∙ sym (map-append (λ r. as_term (σ r)) (take i refs) (k ∷ []))
    ∙ ap (map (λ r. as_term (σ r))) (sym (take-next refs i k e))

pub values-more : (ls : List GroundList) (σ : Solution) (refs : List ℕ) (i k : ℕ) (items : List Value) (v : Value) → slice_get refs i ≡ Some k → the_value ls v ≡ as_value (σ k) → map (the_value ls) items ≡ values_by σ (take i refs) → map (the_value ls) (items ++ v ∷ []) ≡ values_by σ (take (i + 1) refs)
values-more ls σ refs i k items v e g h =
    map-append (the_value ls) items (v ∷ [])
    ∙ ap₂ (λ xs (x : tree.Value). xs ++ x ∷ []) h g
    ∙ sym (map-append (λ r. as_value (σ r)) (take i refs) (k ∷ []))
    ∙ ap (values_by σ) (sym (take-next refs i k e))

pub label-end : (σ : Solution) (rs : List ℕ) (k : ℕ) → label_by σ (rs ++ k ∷ []) ≡ label_by σ rs ++ as_label (σ k)
label-end σ [] k = append-nil (as_label (σ k))
label-end σ (r ∷ rs) k = ap (λ w. as_label (σ r) ++ w) (label-end σ rs k) ∙ sym (append_assoc (as_label (σ r)) (label_by σ rs) (as_label (σ k)))

pub label-more : (σ : Solution) (refs : List ℕ) (i k : ℕ) (w : List tree.GroundMark) → slice_get refs i ≡ Some k → w ≡ label_by σ (take i refs) → w ++ as_label (σ k) ≡ label_by σ (take (i + 1) refs)
label-more σ refs i k w e h =
    ap (λ v. v ++ as_label (σ k)) h
    ∙ sym (label-end σ (take i refs) k)
    ∙ ap (label_by σ) (sym (take-next refs i k e))

pub mark-label : (ls : List GroundList) (m : GroundMark) (v : CellValue) → IsGroundOf ls (ground.Mark m) v → map (the_mark ls) (m ∷ []) ≡ as_label v
mark-label ls m v g = ap as_label g.value

pub string-label : (ls : List GroundList) (w : _) (items : List GroundMark) (v : CellValue) → map (the_mark ls) items ≡ the_marks ls w → IsGroundOf ls (ground.Marks w) v → map (the_mark ls) items ≡ as_label v
string-label ls w items v e g = e ∙ ap as_label g.value

-- ---- the values of cells

pub terms-from : (σ : Solution) (rs : List ℕ) (ts : tree.GroundTerms) → terms_at σ rs ≡ Some ts → ts ≡ terms_by σ rs
terms-from σ [] ts e = cc e
terms-from σ (r ∷ rs) ts e = by (σ r) (terms_at σ rs) refl refl e (λ us k. terms-from σ rs us k)
  where
    by : (v : CellValue) (o : Option tree.GroundTerms) → σ r ≡ v → terms_at σ rs ≡ o → cons_term v o ≡ Some ts → ((us : tree.GroundTerms) → terms_at σ rs ≡ Some us → us ≡ terms_by σ rs) → ts ≡ tree.more_g_terms (as_term (σ r)) (terms_by σ rs)
    by (a_term t) (Some us) f g z ih = let q : tree.more_g_terms t us ≡ ts = cc z in sym q ∙ ap₂ tree.more_g_terms (sym (ap as_term f)) (ih us g)
    by (a_term t) None f g z ih = cc z
    by (a_mark m) o f g z ih = cc z
    by (a_string w) o f g z ih = cc z

pub values-from : (σ : Solution) (rs : List ℕ) (vs : tree.Values) → values_at σ rs ≡ Some vs → vs ≡ tree.values_tree (values_by σ rs)
values-from σ [] vs e = cc e
values-from σ (r ∷ rs) vs e = by (σ r) (values_at σ rs) refl refl e (λ us k. values-from σ rs us k)
  where
    by : (v : CellValue) (o : Option tree.Values) → σ r ≡ v → values_at σ rs ≡ o → cons_value v o ≡ Some vs → ((us : tree.Values) → values_at σ rs ≡ Some us → us ≡ tree.values_tree (values_by σ rs)) → vs ≡ tree.more_values (as_value (σ r)) (tree.values_tree (values_by σ rs))
    by (a_term t) (Some us) f g z ih = let q : tree.more_values (tree.term t) us ≡ vs = cc z in sym q ∙ ap₂ tree.more_values (sym (ap as_value f)) (ih us g)
    by (a_string w) (Some us) f g z ih = let q : tree.more_values (tree.steps (tree.marks_tree w)) us ≡ vs = cc z in sym q ∙ ap₂ tree.more_values (sym (ap as_value f)) (ih us g)
    by (a_term t) None f g z ih = cc z
    by (a_string w) None f g z ih = cc z
    by (a_mark m) o f g z ih = cc z

pub marks-from : (σ : Solution) (rs : List ℕ) (w : List tree.GroundMark) → marks_at σ rs ≡ Some w → w ≡ label_by σ rs
marks-from σ [] w e = cc e
marks-from σ (r ∷ rs) w e = by (σ r) (marks_at σ rs) refl refl e (λ us k. marks-from σ rs us k)
  where
    by : (v : CellValue) (o : Option (List tree.GroundMark)) → σ r ≡ v → marks_at σ rs ≡ o → cons_mark v o ≡ Some w → ((us : List tree.GroundMark) → marks_at σ rs ≡ Some us → us ≡ label_by σ rs) → w ≡ as_label (σ r) ++ label_by σ rs
    by (a_mark m) (Some us) f g z ih = let q : m ∷ us ≡ w = cc z in sym q ∙ ap₂ (λ xs ys. xs ++ ys) (sym (ap as_label f)) (ih us g)
    by (a_mark m) None f g z ih = cc z
    by (a_term t) o f g z ih = cc z
    by (a_string v) o f g z ih = cc z

pub label-from : (σ : Solution) (rs : List ℕ) (w : List tree.GroundMark) → label_at σ rs ≡ Some w → w ≡ label_by σ rs
label-from σ [] w e = cc e
label-from σ (r ∷ rs) w e = by (σ r) (label_at σ rs) refl refl e (λ us k. label-from σ rs us k)
  where
    by : (v : CellValue) (o : Option (List tree.GroundMark)) → σ r ≡ v → label_at σ rs ≡ o → join_label v o ≡ Some w → ((us : List tree.GroundMark) → label_at σ rs ≡ Some us → us ≡ label_by σ rs) → w ≡ as_label (σ r) ++ label_by σ rs
    by (a_mark m) (Some us) f g z ih = let q : m ∷ us ≡ w = cc z in sym q ∙ ap₂ (λ xs ys. xs ++ ys) (sym (ap as_label f)) (ih us g)
    by (a_string v) (Some us) f g z ih = let q : v ++ us ≡ w = cc z in sym q ∙ ap₂ (λ xs ys. xs ++ ys) (sym (ap as_label f)) (ih us g)
    by (a_mark m) None f g z ih = cc z
    by (a_string v) None f g z ih = cc z
    by (a_term t) o f g z ih = cc z

-- ---- the cell at an end

-- the head that is found there is that of the cell
pub head-there : (s : Store) (v : ℕ) (c : Cell) (h : Head) → IsEnd s v → slice_get s.cells v ≡ Some c → EndsIn s v (λ d. head_of d ≡ h) → head_of c ≡ h
head-there s v c h (d, f, unbound) e (w, x, ends, g, is) =
    let same : v ≡ w = ends-once s v v w (EndsAt.stays f unbound) ends in
    let q : x ≡ c = let z : Some x ≡ Some c = sym g ∙ ap (slice_get s.cells) (sym same) ∙ e in cc z in
    subst (λ y. head_of y ≡ h) q is

spare-value : (home : Option (List ℕ)) (σ : Solution) (v : ℕ) (rs : List ℕ) → rs ≡ or_nothing home → IsSpareAt home σ TermSort v → σ v ≡ spare_at home v (label_by σ rs)
spare-value None σ v rs e k = k
spare-value (Some qs) σ v rs e (w, l, k) = k ∙ ap (λ x. a_term (tree.own v (tree.marks_tree x))) (label-from σ qs w l ∙ ap (label_by σ) (sym e))

-- the value of an unbound or built cell, by what is found there
pub value-there : (s : Store) (h : Homes) (v : ℕ) (rs : List ℕ) (σ : Solution) (x : Head) → IsEnd s v → Needs s h v rs → EndsIn s v (λ d. head_of d ≡ x) → AreSparesAt s h σ → σ v ≡ made_of (home_of h v) σ v x rs
value-there s h v rs σ x end n ends sp = subst (λ y. σ v ≡ made_of (home_of h v) σ v y rs) (head-there s v n.cell x end n.stands ends) (by n.cell n.stands n.needs (unbound end))
  where
    unbound : IsEnd s v → is_bound n.cell ≡ false
    unbound (d, f, u) = let q : d ≡ n.cell = let z : Some d ≡ Some n.cell = sym f ∙ n.stands in cc z in subst (λ y. is_bound y ≡ false) q u

    by : (c : Cell) → slice_get s.cells v ≡ Some c → rs ≡ needs_of h v c → is_bound c ≡ false → σ v ≡ made_of (home_of h v) σ v (head_of c) rs
    by (variable TermSort None) e q u = spare-value (home_of h v) σ v rs q (sp.spares v TermSort e)
    by (variable MarkSort None) e q u = sp.spares v MarkSort e
    by (variable StringSort None) e q u = sp.spares v StringSort e
    by (variable sort (Some k)) e q u = cc u
    by (fun_cell f qs) e q u = let (ts, a, b) = sp.solves v (fun_cell f qs) e in b ∙ ap (λ t. a_term (tree.g_fun f t)) (terms-from σ qs ts a ∙ ap (terms_by σ) (sym q))
    by (eigen_cell p qs) e q u = let (vs, a, b) = sp.solves v (eigen_cell p qs) e in b ∙ ap (λ t. a_term (tree.g_eigen p t)) (values-from σ qs vs a ∙ ap (λ ks. tree.values_tree (values_by σ ks)) (sym q))
    by (new_cell p qs) e q u = let (vs, a, b) = sp.solves v (new_cell p qs) e in b ∙ ap (λ t. a_mark (tree.g_new_mark p t)) (values-from σ qs vs a ∙ ap (λ ks. tree.values_tree (values_by σ ks)) (sym q))
    by (string_cell qs) e q u = let (w, a, b) = sp.solves v (string_cell qs) e in b ∙ ap a_string (marks-from σ qs w a ∙ ap (label_by σ) (sym q))

-- what is built for the cell
pub ground-there : (s : Store) (h : Homes) (v : ℕ) (rs : List ℕ) (σ : Solution) (x : Head) (ls : List GroundList) (g : Ground) → IsEnd s v → Needs s h v rs → EndsIn s v (λ d. head_of d ≡ x) → AreSparesAt s h σ → IsGroundOf ls g (made_of (home_of h v) σ v x rs) → IsGroundOf ls g (σ v)
ground-there s h v rs σ x ls g end n ends sp k = subst (IsGroundOf ls g) (sym (value-there s h v rs σ x end n ends sp)) k

-- ---- the terms and names that are made

pub terms-tree : (σ : Solution) (rs : List ℕ) → g_terms_tree (map (λ r. as_term (σ r)) rs) ≡ terms_by σ rs
terms-tree σ [] = refl
terms-tree σ (r ∷ rs) = ap (tree.more_g_terms (as_term (σ r))) (terms-tree σ rs)

pub function-made : (ls : List GroundList) (σ : Solution) (f : _) (rs : List ℕ) (n : _) (ts : List tree.GroundTerm) → AreNormalTerms ls n → the_terms ls n ≡ ts → ts ≡ map (λ r. as_term (σ r)) rs → IsGroundOf ls (ground.Term (program.Fun f n)) (a_term (tree.g_fun f.0 (terms_by σ rs)))
function-made ls σ f rs n ts k e h = record { normal = k; value = ap (λ us. a_term (tree.g_fun f.0 (g_terms_tree us))) (e ∙ h) ∙ ap (λ us. a_term (tree.g_fun f.0 us)) (terms-tree σ rs) }

pub eigen-made : (ls : List GroundList) (σ : Solution) (p : _) (rs : List ℕ) (n : _) (vs : List tree.Value) → AreNormalValues ls n → the_values ls n ≡ vs → vs ≡ values_by σ rs → IsGroundOf ls (ground.Term (program.Eigen p n)) (a_term (tree.g_eigen p.0 (tree.values_tree (values_by σ rs))))
eigen-made ls σ p rs n vs k e h = record { normal = k; value = ap (λ us. a_term (tree.g_eigen p.0 (tree.values_tree us))) (e ∙ h) }

pub mark-made : (ls : List GroundList) (σ : Solution) (p : _) (rs : List ℕ) (n : _) (vs : List tree.Value) → AreNormalValues ls n → the_values ls n ≡ vs → vs ≡ values_by σ rs → IsGroundOf ls (ground.Mark (mark.New p n)) (a_mark (tree.g_new_mark p.0 (tree.values_tree (values_by σ rs))))
mark-made ls σ p rs n vs k e h = record { normal = k; value = ap (λ us. a_mark (tree.g_new_mark p.0 (tree.values_tree us))) (e ∙ h) }

pub string-made : (ls : List GroundList) (σ : Solution) (rs : List ℕ) (n : _) (w : List tree.GroundMark) → AreNormalMarks ls n → the_marks ls n ≡ w → w ≡ label_by σ rs → IsGroundOf ls (ground.Marks n) (a_string (label_by σ rs))
string-made ls σ rs n w k e h = record { normal = k; value = ap a_string (e ∙ h) }

pub own-made : (ls : List GroundList) (σ : Solution) (v : ℕ) (home : Option (List ℕ)) (qs rs : List ℕ) (n : _) (w : List tree.GroundMark) → home ≡ Some qs → AreNormalMarks ls n → the_marks ls n ≡ w → w ≡ label_by σ rs → IsGroundOf ls (ground.Term (program.Own v n)) (spare_at home v (label_by σ rs))
own-made ls σ v home qs rs n w e a b c = record { normal = a; value = ap (λ u. a_term (tree.own v (tree.marks_tree u))) (b ∙ c) ∙ sym (ap (λ o. spare_at o v (label_by σ rs)) e) }

pub common-made : (ls : List GroundList) (v : ℕ) (home : Option (List ℕ)) (w : List tree.GroundMark) → home ≡ None → IsGroundOf ls (ground.Term (program.Common v)) (spare_at home v w)
common-made ls v home w e = record { normal = refl; value = sym (ap (λ o. spare_at o v w) e) }
