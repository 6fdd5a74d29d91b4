-- Spares are admitted: where cells are built right and strings have lengths that are steps, each value is admitted, whatever admitted values
-- the unbound variables have.
use Rattle.std.proofs.Common.{◌≡◌, ℕ, zero, suc, ◌+◌, ◌<◌, ◌≤◌, ◌==◌, List, [], ◌∷◌, ◌++◌, length, Bool, true, false, ◌&&◌, ◌||◌, IsTrue, refl, sym, ◌∙◌, ap, subst, Option, Some, None, option_and_then, slice_get, nat_le, inl, inr, arith, eqb-true, eq-eqb, leb-true, le-leb, length-append, append-nil, if◌then◌else◌}
use Rattle.std.specs.List.{list_all}
use Rattle.std.specs.Option.{option_map_or}
use Rattle.std.proofs.lemmas.Bool.{false≢true, and_parts, and_from}
use Rattle.plain_laws.proofs.Every.{all-at, all-weaken}
use Rattle.calculus.specs.declared.sort.Sort.{Sort}
use Rattle.calculus.specs.declared.sort.Sort.TheVariants.{TermSort, MarkSort, StringSort}
use Rattle.calculus.specs.declared.setting.Logic.{Logic}
use Rattle.calculus.specs.declared.setting.Logic.TheVariants.{Classical, Intuitionistic, D, T as LogicT, S4, S5}
use Rattle.calculus.specs.declared.kind.Shape.{Shape}
use Rattle.calculus.specs.declared.kind.Shape.TheVariants.{Alpha, Beta, Gamma, Delta, Literal}
use Rattle.calculus.specs.declared.kind.ModalPart.{ModalPart}
use Rattle.calculus.specs.declared.kind.ModalPart.TheVariants.{Plain, Nu, Pi}
use Rattle.calculus.specs.Syntax.{Problem}
use Rattle.calculus.specs.Ground.{GroundTerm, GroundTerms, GroundMark, Marks, Value, Values, g_fun, g_eigen, g_new_mark, g_spare_mark, common, no_marks, more_marks, more_values, term, steps, marks_list, marks_tree, values_tree, values_list, g_terms_list}
use Rattle.calculus.specs.Lists.{marks_list-marks_tree, values_list-values_tree}
use Rattle.calculus.specs.Equality.{mark_eq}
use Rattle.calculus.specs.Kinds.{shape_of, modal_of}
use Rattle.calculus.specs.Positions.{Node}
use Rattle.calculus.specs.Labels.{is_prefix, steps_to, nu_label, is_step_length}
use Rattle.calculus.specs.Skolem.{Reached, take_string, after_modal, take_term, after_shape, is_step, fits_along, way_to, at_root, fits_way, is_empty, is_delta_position, is_pi_position, has_function, is_admitted, are_admitted, is_admitted_mark, are_admitted_marks, is_admitted_value, are_admitted_values}
use Rattle.store_theory.specs.Stores.{Cell, variable, fun_cell, eigen_cell, new_cell, string_cell, Store, parts_of, has_sort_at, has_value_sort_at, parts_fit, is_store, CellValue, a_term, a_mark, a_string, has_sort, Solution, terms_at, cons_value, values_at, marks_at, join_label, label_at, Solves, GammaCell, IsHome, IsOwnSpare, AreOwnSpares}
use Rattle.calculus.specs.Sizes.{g_term_size, g_terms_size, mark_size, marks_size, values_size}
use Rattle.calculus.specs.Space.{has_labels}
use Rattle.store_theory.specs.Systems.{is_label, is_gamma_cell}
use Rattle.calculus.proofs.EqualityLaws.{mark_eq-tells, list_eq-tells}
use Rattle.store_theory.specs.Templates.{as_term, as_value, as_label, is_step_value, is_choice_of_values}
use Rattle.search_theory.specs.States.{terms_by, label_by, values_by}
use Rattle.search_theory.specs.LabelledCells.{sort_values, is_labelled_cell, AreLabelled}
use Rattle.search_theory.proofs.SpareLaws.{IsRanked, cell-fits, cell-sorted, or-both}
use Rattle.search_theory.specs.CellsIn.{IsPart}
use Rattle.search_theory.proofs.RuleLaws.{letter_spare, letters, rule_value, rule-fixed, ranked-letters}
use Rattle.search_theory.proofs.GeneralLaws.{term-parts, mark-parts, part-cell}
use Rattle.search_theory.proofs.BuildingLaws.{solved-sorted}
use Rattle.search_theory.proofs.AtomLaws.{terms_at-by, values_at-by, marks_at-by}

-- ---- a string of a step's length is a step

prefix-more : (w s : List GroundMark) → IsTrue (is_prefix mark_eq w (w ++ s))
prefix-more [] s = refl
prefix-more (m ∷ w) s = and_from (mark_eq m m) (is_prefix mark_eq w (w ++ s)) ((mark_eq-tells m m).1 refl) (prefix-more w s)

no-marks : (s : List GroundMark) → length s ≡ 0 → s ≡ []
no-marks [] e = refl
no-marks (m ∷ s) e = absurd (omega (arith, e))

step-by_length : (l : Logic) (w s : List GroundMark) → IsTrue (is_step_length l (length s)) → IsTrue (steps_to mark_eq l w (nu_label l w s))
step-by_length Classical w s h =
    let none = no-marks s (eqb-true (length s) 0 h) in
    (list_eq-tells mark_eq mark_eq-tells w (w ++ s)).1 (sym (append-nil w) ∙ ap (λ x. w ++ x) (sym none))
step-by_length Intuitionistic w s h = prefix-more w s
step-by_length D w s h = and_from (is_prefix mark_eq w (w ++ s)) (length (w ++ s) == length w + 1) (prefix-more w s) (eq-eqb (length (w ++ s)) (length w + 1) (length-append w s ∙ ap (λ n. length w + n) (eqb-true (length s) 1 h)))
step-by_length LogicT w s h = and_from (is_prefix mark_eq w (w ++ s)) (nat_le (length (w ++ s)) (length w + 1)) (prefix-more w s) (le-leb (length (w ++ s)) (length w + 1) (let e = length-append w s in let k = leb-true (length s) 1 h in omega (arith, e, k)))
step-by_length S4 w s h = prefix-more w s
step-by_length S5 w s h = h

-- ---- values fit a way by their sorts, where strings are steps

-- values of the same sorts
abbrev pub AreAlike : List Value → List Value → Type 0
AreAlike [] [] = Unit {0}
AreAlike (term t ∷ vs) (term u ∷ us) = AreAlike vs us
AreAlike (steps w ∷ vs) (steps v ∷ us) = AreAlike vs us
AreAlike _ _ = ⊥

abbrev AreSteps : Logic → List Value → Type 0
AreSteps l vs = IsTrue (list_all (is_step_value l) vs)

-- what comes after one position fits
abbrev FitsRest : Logic → List Node → Type 0
FitsRest l ns = (r q : Reached) → AreAlike q.rest r.rest → AreSteps l q.rest → IsTrue (fits_along l ns r) → IsTrue (fits_along l ns q)

abbrev NextFits : Logic → List Node → (Reached → Bool) → Option Reached → Type 0
NextFits l ns p o = IsTrue (option_map_or (λ (next : Reached). p next && fits_along l ns next) o false)

plain-shape : (l : Logic) (ns : List Node) → FitsRest l ns → (cr cq : Reached → Bool) (r q : Reached) → AreAlike q.rest r.rest → AreSteps l q.rest → IsTrue (cq q) → NextFits l ns cr (Some r) → NextFits l ns cq (Some q)
plain-shape l ns ih cr cq r q a s k h = and_from (cq q) (fits_along l ns q) k (ih r q a s (and_parts (cr r) (fits_along l ns r) h).1)

term-shape : (l : Logic) (ns : List Node) → FitsRest l ns → (cr cq : Reached → Bool) (r q : Reached) (us vs : List Value) → AreAlike vs us → AreSteps l vs → ((x : Reached) → x.label ≡ q.label → IsTrue (cq x)) → NextFits l ns cr (take_term r us) → NextFits l ns cq (take_term q vs)
term-shape l ns ih cr cq r q [] vs a s k h = absurd (false≢true h)
term-shape l ns ih cr cq r q (steps w ∷ us) vs a s k h = absurd (false≢true h)
term-shape l ns ih cr cq r q (term t ∷ us) [] a s k h = absurd a
term-shape l ns ih cr cq r q (term t ∷ us) (steps w ∷ vs) a s k h = absurd a
term-shape l ns ih cr cq r q (term t ∷ us) (term u ∷ vs) a s k h =
    let x : Reached = record { label = q.label; taken = q.taken ++ term u ∷ []; rest = vs } in
    let y : Reached = record { label = r.label; taken = r.taken ++ term t ∷ []; rest = us } in
    and_from (cq x) (fits_along l ns x) (k x refl) (ih y x a s (and_parts (cr y) (fits_along l ns y) h).1)

shape-fits : (l : Logic) (ns : List Node) → FitsRest l ns → (h : Shape) (cr cq : Reached → Bool) (r q : Reached) → AreAlike q.rest r.rest → AreSteps l q.rest → ((x : Reached) → x.label ≡ q.label → IsTrue (cq x)) → NextFits l ns cr (after_shape h r) → NextFits l ns cq (after_shape h q)
shape-fits l ns ih Alpha cr cq r q a s k h = plain-shape l ns ih cr cq r q a s (k q refl) h
shape-fits l ns ih Beta cr cq r q a s k h = plain-shape l ns ih cr cq r q a s (k q refl) h
shape-fits l ns ih Delta cr cq r q a s k h = plain-shape l ns ih cr cq r q a s (k q refl) h
shape-fits l ns ih Literal cr cq r q a s k h = plain-shape l ns ih cr cq r q a s (k q refl) h
shape-fits l ns ih Gamma cr cq r q a s k h = term-shape l ns ih cr cq r q r.rest q.rest a s k h

string-fits : (l : Logic) (ns : List Node) → FitsRest l ns → (h : Shape) (r q : Reached) (us vs : List Value) → AreAlike vs us → AreSteps l vs → NextFits l ns (is_step l Nu r) (option_and_then (after_shape h) (take_string l r us)) → NextFits l ns (is_step l Nu q) (option_and_then (after_shape h) (take_string l q vs))
string-fits l ns ih h r q [] vs a s k = absurd (false≢true k)
string-fits l ns ih h r q (term t ∷ us) vs a s k = absurd (false≢true k)
string-fits l ns ih h r q (steps w ∷ us) [] a s k = absurd a
string-fits l ns ih h r q (steps w ∷ us) (term u ∷ vs) a s k = absurd a
string-fits l ns ih h r q (steps w ∷ us) (steps v ∷ vs) a s k =
    let both = and_parts (is_step_length l (length (marks_list v))) (list_all (is_step_value l) vs) s in
    shape-fits l ns ih h (is_step l Nu r) (is_step l Nu q)
    (record { label = nu_label l r.label (marks_list w); taken = r.taken ++ steps w ∷ []; rest = us })
    (record { label = nu_label l q.label (marks_list v); taken = q.taken ++ steps v ∷ []; rest = vs })
    a both.1 (λ x e. subst (λ z. IsTrue (steps_to mark_eq l q.label z)) (sym e) (step-by_length l q.label (marks_list v) both.0)) k

modal-fits : (l : Logic) (ns : List Node) → FitsRest l ns → (m : ModalPart) (h : Shape) (p : ℕ) (r q : Reached) → AreAlike q.rest r.rest → AreSteps l q.rest → NextFits l ns (is_step l m r) (option_and_then (after_shape h) (after_modal l p m r)) → NextFits l ns (is_step l m q) (option_and_then (after_shape h) (after_modal l p m q))
modal-fits l ns ih Plain h p r q a s k = shape-fits l ns ih h (is_step l Plain r) (is_step l Plain q) r q a s (λ x e. refl) k
modal-fits l ns ih Pi h p r q a s k = shape-fits l ns ih h (is_step l Pi r) (is_step l Pi q) _ _ a s (λ x e. refl) k
modal-fits l ns ih Nu h p r q a s k = string-fits l ns ih h r q r.rest q.rest a s k

none-alike : (vs us : List Value) → AreAlike vs us → IsTrue (is_empty us) → IsTrue (is_empty vs)
none-alike [] us a h = refl
none-alike (term t ∷ vs) [] a h = absurd a
none-alike (steps w ∷ vs) [] a h = absurd a
none-alike (v ∷ vs) (u ∷ us) a h = absurd (false≢true h)

fits-alike : (l : Logic) (ns : List Node) → FitsRest l ns
fits-alike l [] r q a s h = none-alike q.rest r.rest a h
fits-alike l (n ∷ ns) r q a s h = modal-fits l ns (fits-alike l ns) (modal_of l n.sign n.formula) (shape_of n.sign n.formula) n.position r q a s h

pub way-alike : (P : Problem) (p : ℕ) (us vs : List Value) → AreAlike vs us → IsTrue (list_all (is_step_value P.setting.logic) vs) → IsTrue (fits_way P p us) → IsTrue (fits_way P p vs)
way-alike P p us vs a s h = fits-alike P.setting.logic (way_to P p) (at_root us) (at_root vs) a s h

-- ---- good values

abbrev pub IsGood : Problem → CellValue → Type 0
IsGood P (a_term t) = IsTrue (is_admitted P t)
IsGood P (a_mark m) = IsTrue (is_admitted_mark P m)
IsGood P (a_string w) = IsTrue (are_admitted_marks P (marks_tree w)) × IsTrue (is_step_length P.setting.logic (length w))

good-terms : (P : Problem) (σ : Solution) (rs : List ℕ) → IsTrue (list_all (λ r. has_sort TermSort (σ r)) rs) → ((k : ℕ) → IsPart k rs → IsGood P (σ k)) → IsTrue (are_admitted P (terms_by σ rs))
good-terms P σ [] a h = refl
good-terms P σ (r ∷ rs) a h =
    let p = and_parts (has_sort TermSort (σ r)) (list_all (λ k. has_sort TermSort (σ k)) rs) a in
    and_from (is_admitted P (as_term (σ r))) (are_admitted P (terms_by σ rs)) (one (σ r) p.0 (h r (0, refl))) (good-terms P σ rs p.1 (λ k q. h k (suc q.0, q.1)))
  where
    one : (v : CellValue) → IsTrue (has_sort TermSort v) → IsGood P v → IsTrue (is_admitted P (as_term v))
    one (a_term t) b g = g
    one (a_mark m) b g = absurd (false≢true b)
    one (a_string w) b g = absurd (false≢true b)

good-marks : (P : Problem) (σ : Solution) (rs : List ℕ) → IsTrue (list_all (λ r. has_sort MarkSort (σ r)) rs) → ((k : ℕ) → IsPart k rs → IsGood P (σ k)) → IsTrue (are_admitted_marks P (marks_tree (label_by σ rs)))
good-marks P σ [] a h = refl
good-marks P σ (r ∷ rs) a h =
    let p = and_parts (has_sort MarkSort (σ r)) (list_all (λ k. has_sort MarkSort (σ k)) rs) a in
    one (σ r) p.0 (h r (0, refl)) (good-marks P σ rs p.1 (λ k q. h k (suc q.0, q.1)))
  where
    one : (v : CellValue) → IsTrue (has_sort MarkSort v) → IsGood P v → IsTrue (are_admitted_marks P (marks_tree (label_by σ rs))) → IsTrue (are_admitted_marks P (marks_tree (as_label v ++ label_by σ rs)))
    one (a_mark m) b g more = and_from (is_admitted_mark P m) (are_admitted_marks P (marks_tree (label_by σ rs))) g more
    one (a_term t) b g more = absurd (false≢true b)
    one (a_string w) b g more = absurd (false≢true b)

abbrev is_value : CellValue → Bool
is_value v = has_sort TermSort v || has_sort StringSort v

value-admitted : (P : Problem) (v : CellValue) → IsTrue (is_value v) → IsGood P v → IsTrue (is_admitted_value P (as_value v)) × IsTrue (is_step_value P.setting.logic (as_value v))
value-admitted P (a_term t) b g = (g, refl)
value-admitted P (a_mark m) b g = absurd (false≢true b)
value-admitted P (a_string w) b g = (g.0, subst (λ x. IsTrue (is_step_length P.setting.logic (length x))) (sym (marks_list-marks_tree w)) g.1)

good-values : (P : Problem) (σ : Solution) (rs : List ℕ) → IsTrue (list_all (λ r. is_value (σ r)) rs) → ((k : ℕ) → IsPart k rs → IsGood P (σ k)) → IsTrue (are_admitted_values P (values_tree (values_by σ rs))) × IsTrue (list_all (is_step_value P.setting.logic) (values_by σ rs))
good-values P σ [] a h = (refl, refl)
good-values P σ (r ∷ rs) a h =
    let p = and_parts (is_value (σ r)) (list_all (λ k. is_value (σ k)) rs) a in
    let one = value-admitted P (σ r) p.0 (h r (0, refl)) in
    let more = good-values P σ rs p.1 (λ k q. h k (suc q.0, q.1)) in
    (and_from (is_admitted_value P (as_value (σ r))) (are_admitted_values P (values_tree (values_by σ rs))) one.0 more.0, and_from (is_step_value P.setting.logic (as_value (σ r))) (list_all (is_step_value P.setting.logic) (values_by σ rs)) one.1 more.1)

-- the clause's values are a choice of values
pub good-choice : (P : Problem) (σ : Solution) (rs : List ℕ) → IsTrue (list_all (λ r. has_sort TermSort (σ r) || has_sort StringSort (σ r)) rs) → ((k : ℕ) → IsPart k rs → IsGood P (σ k)) → IsTrue (is_choice_of_values P (values_by σ rs))
good-choice P σ [] a h = refl
good-choice P σ (r ∷ rs) a h =
    let p = and_parts (is_value (σ r)) (list_all (λ k. is_value (σ k)) rs) a in
    let one = value-admitted P (σ r) p.0 (h r (0, refl)) in
    let more = and_parts (list_all (is_admitted_value P) (values_by σ rs)) (list_all (is_step_value P.setting.logic) (values_by σ rs)) (good-choice P σ rs p.1 (λ k q. h k (suc q.0, q.1))) in
    and_from (list_all (is_admitted_value P) (values_by σ (r ∷ rs))) (list_all (is_step_value P.setting.logic) (values_by σ (r ∷ rs)))
    (and_from (is_admitted_value P (as_value (σ r))) (list_all (is_admitted_value P) (values_by σ rs)) one.0 more.0)
    (and_from (is_step_value P.setting.logic (as_value (σ r))) (list_all (is_step_value P.setting.logic) (values_by σ rs)) one.1 more.1)

-- values of cells have the sorts that stand for them
sorts-alike : (s : Store) (σ : Solution) → Solves s σ → (rs : List ℕ) → IsTrue (list_all (has_value_sort_at s) rs) → AreAlike (values_by σ rs) (sort_values s rs)
sorts-alike s σ h [] a = tt
sorts-alike s σ h (r ∷ rs) a =
    let p = and_parts (has_value_sort_at s r) (list_all (has_value_sort_at s) rs) a in
    by (has_sort_at s TermSort r) refl p.0 (sorts-alike s σ h rs p.1)
  where
    term-alike : (v : CellValue) (t : GroundTerm) (vs us : List Value) → IsTrue (has_sort TermSort v) → AreAlike vs us → AreAlike (as_value v ∷ vs) (term t ∷ us)
    term-alike (a_term x) t vs us k m = m
    term-alike (a_mark x) t vs us k m = absurd (false≢true k)
    term-alike (a_string x) t vs us k m = absurd (false≢true k)

    string-alike : (v : CellValue) (w : Marks) (vs us : List Value) → IsTrue (has_sort StringSort v) → AreAlike vs us → AreAlike (as_value v ∷ vs) (steps w ∷ us)
    string-alike (a_term x) w vs us k m = absurd (false≢true k)
    string-alike (a_mark x) w vs us k m = absurd (false≢true k)
    string-alike (a_string x) w vs us k m = m

    by : (t : Bool) → has_sort_at s TermSort r ≡ t → IsTrue (t || has_sort_at s StringSort r) → AreAlike (values_by σ rs) (sort_values s rs) → AreAlike (as_value (σ r) ∷ values_by σ rs) ((if t then term (common 0) else steps (more_marks (g_spare_mark 0) no_marks)) ∷ sort_values s rs)
    by true e k m = term-alike (σ r) (common 0) (values_by σ rs) (sort_values s rs) (solved-sorted s σ h TermSort r e) m
    by false e k m = string-alike (σ r) (more_marks (g_spare_mark 0) no_marks) (values_by σ rs) (sort_values s rs) (solved-sorted s σ h StringSort r k) m

number-of : (σ : Solution) (rs : List ℕ) → length (g_terms_list (terms_by σ rs)) ≡ length rs
number-of σ [] = refl
number-of σ (r ∷ rs) = ap suc (number-of σ rs)

-- ---- the law

length-of : (σ : Solution) (rs : List ℕ) → IsTrue (list_all (λ r. has_sort MarkSort (σ r)) rs) → length (label_by σ rs) ≡ length rs
length-of σ [] a = refl
length-of σ (r ∷ rs) a =
    let p = and_parts (has_sort MarkSort (σ r)) (list_all (λ k. has_sort MarkSort (σ k)) rs) a in
    one (σ r) p.0 (length-of σ rs p.1)
  where
    one : (v : CellValue) → IsTrue (has_sort MarkSort v) → length (label_by σ rs) ≡ length rs → length (as_label v ++ label_by σ rs) ≡ suc (length rs)
    one (a_mark m) k e = ap suc e
    one (a_term t) k e = absurd (false≢true k)
    one (a_string w) k e = absurd (false≢true k)

-- the size of a value
abbrev pub weight : CellValue → ℕ
weight (a_term t) = g_term_size t
weight (a_mark m) = mark_size m
weight (a_string w) = marks_size (marks_tree w)

pub terms-lighter : (σ : Solution) (rs : List ℕ) (ts : GroundTerms) (i k : ℕ) → terms_at σ rs ≡ Some ts → slice_get rs i ≡ Some k → weight (σ k) ≤ g_terms_size ts
terms-lighter σ [] ts i k e p = cc p
terms-lighter σ (r ∷ rs) ts zero k e p =
    let q = term-parts σ r rs ts e in
    let same : r ≡ k = cc p in
    let a : weight (σ k) ≡ g_term_size q.first = ap weight (sym (ap σ same) ∙ q.is_first) in
    let b : g_terms_size ts ≡ suc (g_term_size q.first + g_terms_size q.rest) = ap g_terms_size q.all_of_them in
    omega (arith, a, b)
terms-lighter σ (r ∷ rs) ts (suc i) k e p =
    let q = term-parts σ r rs ts e in
    let a = terms-lighter σ rs q.rest i k q.are_rest p in
    let b : g_terms_size ts ≡ suc (g_term_size q.first + g_terms_size q.rest) = ap g_terms_size q.all_of_them in
    omega (arith, a, b)

pub marks-lighter : (σ : Solution) (rs : List ℕ) (w : List GroundMark) (i k : ℕ) → marks_at σ rs ≡ Some w → slice_get rs i ≡ Some k → weight (σ k) ≤ marks_size (marks_tree w)
marks-lighter σ [] w i k e p = cc p
marks-lighter σ (r ∷ rs) w zero k e p =
    let q = mark-parts σ r rs w e in
    let same : r ≡ k = cc p in
    let a : weight (σ k) ≡ mark_size q.first = ap weight (sym (ap σ same) ∙ q.is_first) in
    let b : marks_size (marks_tree w) ≡ suc (mark_size q.first + marks_size (marks_tree q.rest)) = ap (λ x. marks_size (marks_tree x)) q.all_of_them in
    omega (arith, a, b)
marks-lighter σ (r ∷ rs) w (suc i) k e p =
    let q = mark-parts σ r rs w e in
    let a = marks-lighter σ rs q.rest i k q.are_rest p in
    let b : marks_size (marks_tree w) ≡ suc (mark_size q.first + marks_size (marks_tree q.rest)) = ap (λ x. marks_size (marks_tree x)) q.all_of_them in
    omega (arith, a, b)

record ValueSplit (σ : Solution) (r : ℕ) (rs : List ℕ) (vs : Values) : Type 0 where
  rest : Values
  are_rest : values_at σ rs ≡ Some rest
  larger : weight (σ r) + values_size rest ≤ values_size vs

value-split : (σ : Solution) (r : ℕ) (rs : List ℕ) (vs : Values) → values_at σ (r ∷ rs) ≡ Some vs → ValueSplit σ r rs vs
value-split σ r rs vs e = by (σ r) (values_at σ rs) refl refl e
  where
    by : (v : CellValue) (o : Option Values) → σ r ≡ v → values_at σ rs ≡ o → cons_value v o ≡ Some vs → ValueSplit σ r rs vs
    by (a_term t) (Some us) f g h =
        let q : more_values (term t) us ≡ vs = cc h in
        let a : weight (σ r) ≡ g_term_size t = ap weight f in
        let b : suc (suc (g_term_size t) + values_size us) ≡ values_size vs = ap values_size q in
        record { rest = us; are_rest = g; larger = omega (arith, a, b) }
    by (a_string w) (Some us) f g h =
        let q : more_values (steps (marks_tree w)) us ≡ vs = cc h in
        let a : weight (σ r) ≡ marks_size (marks_tree w) = ap weight f in
        let b : suc (suc (marks_size (marks_tree w)) + values_size us) ≡ values_size vs = ap values_size q in
        record { rest = us; are_rest = g; larger = omega (arith, a, b) }
    by (a_term t) None f g h = cc h
    by (a_string w) None f g h = cc h
    by (a_mark m) o f g h = cc h

pub values-lighter : (σ : Solution) (rs : List ℕ) (vs : Values) (i k : ℕ) → values_at σ rs ≡ Some vs → slice_get rs i ≡ Some k → weight (σ k) ≤ values_size vs
values-lighter σ [] vs i k e p = cc p
values-lighter σ (r ∷ rs) vs zero k e p = let q = value-split σ r rs vs e in let l = q.larger in let same : r ≡ k = cc p in let a : weight (σ r) ≡ weight (σ k) = ap (λ x. weight (σ x)) same in omega (arith, a, l)
values-lighter σ (r ∷ rs) vs (suc i) k e p = let q = value-split σ r rs vs e in let l = q.larger in let a = values-lighter σ rs q.rest i k q.are_rest p in omega (arith, a, l)

-- the parts of a cell have no larger values
pub part-lighter : (s : Store) (σ : Solution) → Solves s σ → (r k : ℕ) (c : Cell) → slice_get s.cells r ≡ Some c → IsPart k (parts_of c) → weight (σ k) ≤ weight (σ r)
part-lighter s σ t r k (variable sort None) e p = let z = p.1 in cc z
part-lighter s σ t r k (variable sort (Some j)) e (zero, q) = let same : j ≡ k = cc q in let a : weight (σ r) ≡ weight (σ k) = ap weight ((t r (variable sort (Some j)) e).1 ∙ ap σ same) in omega (arith, a)
part-lighter s σ t r k (variable sort (Some j)) e (suc i, q) = cc q
part-lighter s σ t r k (fun_cell f rs) e p = let q = t r (fun_cell f rs) e in let a = terms-lighter σ rs q.0 p.0 k q.1 p.1 in let b : weight (σ r) ≡ suc (g_terms_size q.0) = ap weight q.2 in omega (arith, a, b)
part-lighter s σ t r k (eigen_cell x rs) e p = let q = t r (eigen_cell x rs) e in let a = values-lighter σ rs q.0 p.0 k q.1 p.1 in let b : weight (σ r) ≡ suc (values_size q.0) = ap weight q.2 in omega (arith, a, b)
part-lighter s σ t r k (new_cell x rs) e p = let q = t r (new_cell x rs) e in let a = values-lighter σ rs q.0 p.0 k q.1 p.1 in let b : weight (σ r) ≡ suc (values_size q.0) = ap weight q.2 in omega (arith, a, b)
part-lighter s σ t r k (string_cell rs) e p = let q = t r (string_cell rs) e in let a = marks-lighter σ rs q.0 p.0 k q.1 p.1 in let b : weight (σ r) ≡ marks_size (marks_tree q.0) = ap weight q.2 in omega (arith, a, b)

-- cells of In with smaller values than m are good
abbrev GoodBelow : Problem → (ℕ → Type 0) → Store → Solution → ℕ → Type 0
GoodBelow P In s σ m = (k : ℕ) (d : Cell) → weight (σ k) < m → In k → slice_get s.cells k ≡ Some d → IsGood P (σ k)

-- the values of unbound variables are good where all smaller values are
abbrev pub SparesGood : Problem → (ℕ → Type 0) → Store → Solution → Type 0
SparesGood P In s σ = (v : ℕ) (sort : Sort) → In v → slice_get s.cells v ≡ Some (variable sort None) → ((k : ℕ) (d : Cell) → weight (σ k) < weight (σ v) → In k → slice_get s.cells k ≡ Some d → IsGood P (σ k)) → IsGood P (σ v)

good-layer : (P : Problem) (In : ℕ → Type 0) (s : Store) (rank : ℕ → ℕ) (bound : ℕ) (σ : Solution) → IsTrue (is_store s) → IsRanked s rank bound → AreLabelled P In s → Solves s σ → SparesGood P In s σ → (m : ℕ) → GoodBelow P In s σ m → (n r : ℕ) (c : Cell) → rank r < n → weight (σ r) ≤ m → In r → slice_get s.cells r ≡ Some c → IsGood P (σ r)
good-layer P In s rank bound σ h ranked labelled t spares m outer zero r c l w i e = absurd (omega (arith, l))
good-layer P In s rank bound σ h ranked labelled t spares m outer (suc n) r c l w i e = by c e (cell-fits s h r c e) (labelled.built r c i e) (λ k p. below k p (λ d x y u z. good-layer P In s rank bound σ h ranked labelled t spares m outer n k d x y u z))
  where
    below : (k : ℕ) → IsPart k (parts_of c) → ((d : Cell) → rank k < n → weight (σ k) ≤ m → In k → slice_get s.cells k ≡ Some d → IsGood P (σ k)) → IsGood P (σ k)
    below k p ih =
        let d = part-cell s h r k c e p in
        let fall = ranked.falls r k c e p in
        let light = part-lighter s σ t r k c e p in
        ih d.0 (omega (arith, l, fall)) (omega (arith, w, light)) (labelled.names r k p.0 c i e p.1) d.1

    sorted : (sort : Sort) (rs : List ℕ) → IsTrue (list_all (has_sort_at s sort) rs) → IsTrue (list_all (λ k. has_sort sort (σ k)) rs)
    sorted sort rs a = all-weaken (has_sort_at s sort) (λ k. has_sort sort (σ k)) (solved-sorted s σ t sort) rs a

    valued : (rs : List ℕ) → IsTrue (list_all (has_value_sort_at s) rs) → IsTrue (list_all (λ k. is_value (σ k)) rs)
    valued rs a = all-weaken (has_value_sort_at s) (λ k. is_value (σ k)) (λ k q. or-both (has_sort_at s TermSort k) (has_sort_at s StringSort k) (has_sort TermSort (σ k)) (has_sort StringSort (σ k)) (solved-sorted s σ t TermSort k) (solved-sorted s σ t StringSort k) q) rs a

    by : (d : Cell) → slice_get s.cells r ≡ Some d → IsTrue (parts_fit s d) → IsTrue (is_labelled_cell P s d) → ((k : ℕ) → IsPart k (parts_of c) → IsGood P (σ k)) → IsGood P (σ r)
    by d f a b parts = let z : Some d ≡ Some c = sym f ∙ e in let q : d ≡ c = cc z in built d f a b (λ k p. parts k (subst (λ x. IsPart k (parts_of x)) q p))
      where
        built : (x : Cell) → slice_get s.cells r ≡ Some x → IsTrue (parts_fit s x) → IsTrue (is_labelled_cell P s x) → ((k : ℕ) → IsPart k (parts_of x) → IsGood P (σ k)) → IsGood P (σ r)
        built (variable sort None) g u v ih = spares r sort i g (λ k d x y z. outer k d (omega (arith, w, x)) y z)
        built (variable sort (Some k)) g u v ih = subst (IsGood P) (sym (t r (variable sort (Some k)) g).1) (ih k (0, refl))
        built (fun_cell x rs) g u v ih =
            let q = t r (fun_cell x rs) g in
            subst (IsGood P) (sym (q.2 ∙ ap (λ ts. a_term (g_fun x ts)) (sym (terms_at-by σ rs q.0 q.1))))
            (and_from (has_function P.symbols x (length (g_terms_list (terms_by σ rs)))) (are_admitted P (terms_by σ rs)) (subst (λ m. IsTrue (has_function P.symbols x m)) (sym (number-of σ rs)) v) (good-terms P σ rs (sorted TermSort rs u) ih))
        built (eigen_cell x rs) g u v ih =
            let q = t r (eigen_cell x rs) g in
            let m = and_parts (is_delta_position P x) (fits_way P x (sort_values s rs)) v in
            let k = good-values P σ rs (valued rs u) ih in
            subst (IsGood P) (sym (q.2 ∙ ap (λ vs. a_term (g_eigen x vs)) (sym (values_at-by σ rs q.0 q.1))))
            (and_from (is_delta_position P x && fits_way P x (values_list (values_tree (values_by σ rs)))) (are_admitted_values P (values_tree (values_by σ rs)))
            (and_from (is_delta_position P x) (fits_way P x (values_list (values_tree (values_by σ rs)))) m.0 (subst (λ vs. IsTrue (fits_way P x vs)) (sym (values_list-values_tree (values_by σ rs))) (way-alike P x (sort_values s rs) (values_by σ rs) (sorts-alike s σ t rs u) k.1 m.1))) k.0)
        built (new_cell x rs) g u v ih =
            let q = t r (new_cell x rs) g in
            let m = and_parts (is_pi_position P x) (fits_way P x (sort_values s rs)) v in
            let k = good-values P σ rs (valued rs u) ih in
            subst (IsGood P) (sym (q.2 ∙ ap (λ vs. a_mark (g_new_mark x vs)) (sym (values_at-by σ rs q.0 q.1))))
            (and_from (is_pi_position P x && fits_way P x (values_list (values_tree (values_by σ rs)))) (are_admitted_values P (values_tree (values_by σ rs)))
            (and_from (is_pi_position P x) (fits_way P x (values_list (values_tree (values_by σ rs)))) m.0 (subst (λ vs. IsTrue (fits_way P x vs)) (sym (values_list-values_tree (values_by σ rs))) (way-alike P x (sort_values s rs) (values_by σ rs) (sorts-alike s σ t rs u) k.1 m.1))) k.0)
        built (string_cell rs) g u v ih =
            let q = t r (string_cell rs) g in
            subst (IsGood P) (sym (q.2 ∙ ap a_string (sym (marks_at-by σ rs q.0 q.1))))
            (good-marks P σ rs (sorted MarkSort rs u) ih, subst (λ m. IsTrue (is_step_length P.setting.logic m)) (sym (length-of σ rs (sorted MarkSort rs u))) v)

good-below : (P : Problem) (In : ℕ → Type 0) (s : Store) (rank : ℕ → ℕ) (bound : ℕ) (σ : Solution) → IsTrue (is_store s) → IsRanked s rank bound → AreLabelled P In s → Solves s σ → SparesGood P In s σ → (m : ℕ) → GoodBelow P In s σ m
good-below P In s rank bound σ h ranked labelled t spares zero k d l i e = absurd (omega (arith, l))
good-below P In s rank bound σ h ranked labelled t spares (suc m) k d l i e = good-layer P In s rank bound σ h ranked labelled t spares m (good-below P In s rank bound σ h ranked labelled t spares m) (suc (rank k)) k d (omega arith) (omega (arith, l)) i e

-- each cell of In has a good value
pub good-cells : (P : Problem) (In : ℕ → Type 0) (s : Store) (rank : ℕ → ℕ) (bound : ℕ) (σ : Solution) → IsTrue (is_store s) → IsRanked s rank bound → AreLabelled P In s → Solves s σ → SparesGood P In s σ → (r : ℕ) (c : Cell) → In r → slice_get s.cells r ≡ Some c → IsGood P (σ r)
good-cells P In s rank bound σ h ranked labelled t spares r c i e = good-below P In s rank bound σ h ranked labelled t spares (suc (weight (σ r))) r c (omega arith) i e

-- ---- own spares, and strings of one character

pub one-step : (l : Logic) → IsTrue (has_labels l) → IsTrue (is_step_length l 1)
one-step Classical h = absurd (false≢true h)
one-step Intuitionistic h = refl
one-step D h = refl
one-step LogicT h = refl
one-step S4 h = refl
one-step S5 h = refl

pub letters-good : (P : Problem) (In : ℕ → Type 0) (s : Store) (rank : ℕ → ℕ) (bound : ℕ) → IsTrue (has_labels P.setting.logic) → IsTrue (is_store s) → IsRanked s rank bound → SparesGood P In s (rule_value letters s bound)
letters-good P In s rank bound labels h ranked v sort i e smaller = by sort (rule-fixed letters s rank bound (ranked-letters s rank bound ranked) v (variable sort None) e)
  where
    by : (x : Sort) → rule_value letters s bound v ≡ letter_spare (rule_value letters s bound) v x → IsGood P (rule_value letters s bound v)
    by TermSort q = subst (IsGood P) (sym q) refl
    by MarkSort q = subst (IsGood P) (sym q) refl
    by StringSort q = subst (IsGood P) (sym q) (refl, one-step P.setting.logic labels)

marks-both : (P : Problem) (w v : List GroundMark) → IsTrue (are_admitted_marks P (marks_tree w)) → IsTrue (are_admitted_marks P (marks_tree v)) → IsTrue (are_admitted_marks P (marks_tree (w ++ v)))
marks-both P [] v a b = b
marks-both P (m ∷ w) v a b = let p = and_parts (is_admitted_mark P m) (are_admitted_marks P (marks_tree w)) a in and_from (is_admitted_mark P m) (are_admitted_marks P (marks_tree (w ++ v))) p.0 (marks-both P w v p.1 b)

size-both : (w v : List GroundMark) → marks_size (marks_tree (w ++ v)) ≡ marks_size (marks_tree w) + marks_size (marks_tree v)
size-both [] v = omega arith
size-both (m ∷ w) v = let e = size-both w v in omega (arith, e)

-- the cells of a label are good where their values are smaller than the label
label-good : (P : Problem) (σ : Solution) (rs : List ℕ) (w : List GroundMark) → label_at σ rs ≡ Some w → ((k : ℕ) → IsPart k rs → weight (σ k) ≤ marks_size (marks_tree w) → IsGood P (σ k)) → IsTrue (are_admitted_marks P (marks_tree w))
label-good P σ [] w e h = let q : [] ≡ w = cc e in subst (λ x. IsTrue (are_admitted_marks P (marks_tree x))) q refl
label-good P σ (r ∷ rs) w e h = by (σ r) (label_at σ rs) refl refl e (λ u f k. label-good P σ rs u f k)
  where
    by : (v : CellValue) (o : Option (List GroundMark)) → σ r ≡ v → label_at σ rs ≡ o → join_label v o ≡ Some w → ((u : List GroundMark) → label_at σ rs ≡ Some u → ((k : ℕ) → IsPart k rs → weight (σ k) ≤ marks_size (marks_tree u) → IsGood P (σ k)) → IsTrue (are_admitted_marks P (marks_tree u))) → IsTrue (are_admitted_marks P (marks_tree w))
    by (a_mark m) (Some u) f g z ih =
        let q : m ∷ u ≡ w = cc z in
        let size : suc (mark_size m + marks_size (marks_tree u)) ≡ marks_size (marks_tree w) = ap (λ x. marks_size (marks_tree x)) q in
        let here : weight (σ r) ≡ mark_size m = ap weight f in
        let first = subst (IsGood P) f (h r (0, refl) (omega (arith, here, size))) in
        subst (λ x. IsTrue (are_admitted_marks P (marks_tree x))) q (and_from (is_admitted_mark P m) (are_admitted_marks P (marks_tree u)) first (ih u g (λ k p l. h k (suc p.0, p.1) (omega (arith, l, size)))))
    by (a_string x) (Some u) f g z ih =
        let q : x ++ u ≡ w = cc z in
        let size : marks_size (marks_tree x) + marks_size (marks_tree u) ≡ marks_size (marks_tree w) = sym (size-both x u) ∙ ap (λ y. marks_size (marks_tree y)) q in
        let here : weight (σ r) ≡ marks_size (marks_tree x) = ap weight f in
        let first = subst (IsGood P) f (h r (0, refl) (omega (arith, here, size))) in
        subst (λ y. IsTrue (are_admitted_marks P (marks_tree y))) q (marks-both P x u first.0 (ih u g (λ k p l. h k (suc p.0, p.1) (omega (arith, l, size)))))
    by (a_mark m) None f g z ih = cc z
    by (a_string x) None f g z ih = cc z
    by (a_term y) o f g z ih = cc z

-- the home of a variable is a label of the system, or the root
home-admitted : (P : Problem) (In : ℕ → Type 0) (s : Store) (σ : Solution) (v : ℕ) (gs : List GammaCell) (h : List GroundMark) → IsHome s σ v gs h → IsTrue (list_all (is_gamma_cell s) gs) → ((j k : ℕ) (g : GammaCell) → slice_get gs j ≡ Some g → IsPart k g.label → In k) → ((k : ℕ) (d : Cell) → weight (σ k) < suc (marks_size (marks_tree h)) → In k → slice_get s.cells k ≡ Some d → IsGood P (σ k)) → IsTrue (are_admitted_marks P (marks_tree h))
home-admitted P In s σ v [] h e a i good = subst (λ x. IsTrue (are_admitted_marks P (marks_tree x))) (sym e) refl
home-admitted P In s σ v (g ∷ gs) h (inl (held, l)) a i good =
    let p = and_parts (is_gamma_cell s g) (list_all (is_gamma_cell s) gs) a in
    let q = and_parts (has_sort_at s TermSort g.term) (is_label s g.label) p.0 in
    label-good P σ g.label h l (λ k part light. (let c = all-at (λ r. has_sort_at s MarkSort r || has_sort_at s StringSort r) g.label part.0 k q.1 part.1 in let d = there k c in good k d.0 (omega (arith, light)) (i 0 k g refl part) d.1))
  where
    there : (k : ℕ) → IsTrue (has_sort_at s MarkSort k || has_sort_at s StringSort k) → (d : Cell) × (slice_get s.cells k ≡ Some d)
    there k c = by (has_sort_at s MarkSort k) refl c
      where
        by : (b : Bool) → has_sort_at s MarkSort k ≡ b → IsTrue (b || has_sort_at s StringSort k) → (d : Cell) × (slice_get s.cells k ≡ Some d)
        by true e x = let t = cell-sorted s MarkSort k e in (t.0, t.1)
        by false e x = let t = cell-sorted s StringSort k x in (t.0, t.1)
home-admitted P In s σ v (g ∷ gs) h (inr (not_held, more)) a i good =
    let p = and_parts (is_gamma_cell s g) (list_all (is_gamma_cell s) gs) a in
    home-admitted P In s σ v gs h more p.1 (λ j k x e q. i (suc j) k x e q) good

-- own spares of both kinds, where no string of In is unbound and the labels of the gamma terms are of In
pub own-good : (b : Bool) (P : Problem) (In : ℕ → Type 0) (s : Store) (gammas : List GammaCell) (σ : Solution) (number : ℕ → ℕ) → ((v : ℕ) → In v → ¬ (slice_get s.cells v ≡ Some (variable StringSort None))) → IsTrue (list_all (is_gamma_cell s) gammas) → ((j k : ℕ) (g : GammaCell) → slice_get gammas j ≡ Some g → IsPart k g.label → In k) → AreOwnSpares b s gammas σ number → SparesGood P In s σ
own-good b P In s gammas σ number no_open a labels own_spares v sort i e smaller = by b sort e (own_spares.spares v sort e)
  where
    by : (t : Bool) (x : Sort) → slice_get s.cells v ≡ Some (variable x None) → IsOwnSpare t s gammas σ x v (number v) → IsGood P (σ v)
    by t StringSort f k = absurd (no_open v i f)
    by t MarkSort f k = subst (IsGood P) (sym k) refl
    by true TermSort f k = subst (IsGood P) (sym k) refl
    by false TermSort f (h, home, k) = subst (IsGood P) (sym k) (home-admitted P In s σ v gammas h home a labels (λ r d l w z. smaller r d (let x : weight (σ v) ≡ suc (marks_size (marks_tree h)) = ap weight k in omega (arith, l, x)) w z))
