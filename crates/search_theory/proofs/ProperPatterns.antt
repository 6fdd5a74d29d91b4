-- The patterns of a template are right: each name in them is proper in the instance by spare values, and whether values fit a way depends on
-- their sorts alone.
use Rattle.std.proofs.Common.{ℕ, zero, suc, ◌+◌, List, [], ◌∷◌, length, map, true, ◌&&◌, ◌||◌, IsTrue, refl, sym, ◌∙◌, ap, subst, slice_get, slice_index_or, Contains}
use Rattle.std.specs.List.{list_all}
use Rattle.std.proofs.lemmas.Bool.{false≢true, and_parts, and_from}
use Rattle.std.proofs.Math.Bool.{or-false}
use Rattle.std.proofs.lemmas.List.Folds.{list_all-append}
use Rattle.calculus.specs.declared.sign.Sign.TheVariants.{F}
use Rattle.calculus.specs.declared.sign.Side.{Side}
use Rattle.calculus.specs.declared.sort.Sort.{Sort}
use Rattle.calculus.specs.declared.sort.Sort.TheVariants.{TermSort, MarkSort, StringSort}
use Rattle.calculus.specs.Syntax.{Problem}
use Rattle.calculus.specs.Clauses.{selections}
use Rattle.calculus.specs.Ground.{Value, g_fun, g_eigen, g_new_mark, term, steps, values_list, g_terms_list}
use Rattle.calculus.specs.Skolem.{has_function, is_delta_position, is_pi_position, fits_way, is_admitted, are_admitted, is_admitted_mark, is_admitted_value, are_admitted_values}
use Rattle.calculus.specs.Problems.{formula_fits}
use Rattle.calculus.specs.Space.{has_labels}
use Rattle.calculus.proofs.InstanceLaws.{literal_is_proper, gamma_is_proper}
use Rattle.store_theory.specs.Patterns.{Pattern, Patterns, p_var, p_fun, p_eigen, p_new, no_patterns, more_patterns, patterns_tree, PatternAtom, PatternGamma, Template, pattern_fits, are_term_patterns, are_value_patterns, is_label_pattern, atom_fits, gamma_fits}
use Rattle.store_theory.specs.Templates.{as_term, as_value, as_label, value_of_variable, pattern_value, pattern_terms, pattern_values, pattern_label, pattern_literal, pattern_gamma, literals_by, have_sorts, is_choice_of_values, strings_from, IsTemplateOf}
use Rattle.search_theory.specs.Regular.{number_of_patterns}
use Rattle.search_theory.specs.RightPatterns.{spare_value, spare_values, pattern_sorts, is_right_pattern, are_right_patterns, is_right_atom, is_right_gamma, AreRight}
use Rattle.search_theory.proofs.BuildingLaws.{is_variable_sort}
use Rattle.search_theory.proofs.AdmittedLaws.{AreAlike, way-alike}
use Rattle.search_theory.proofs.ClassicalTemplates.{length-patterns}
use Rattle.search_theory.proofs.TemplateFits.{terms-tree}
use Rattle.search_theory.proofs.TemplateExists.{template-exists}
use Rattle.search_theory.proofs.TemplateSorts.{template-sorts}
use Rattle.search_theory.proofs.LabelledBuilt.{spare-steps, spare-instance, literals-proper, gammas-proper}

-- ---- the values on a way are of the sorts of their patterns

variable-alike : (sorts : List Sort) (k : ℕ) (vs us : List Value) → AreAlike vs us → AreAlike (spare_value (slice_index_or sorts k TermSort) ∷ vs) (as_value (value_of_variable (slice_get (spare_values sorts) k)) ∷ us)
variable-alike [] k vs us h = h
variable-alike (TermSort ∷ sorts) zero vs us h = h
variable-alike (MarkSort ∷ sorts) zero vs us h = h
variable-alike (StringSort ∷ sorts) zero vs us h = h
variable-alike (sort ∷ sorts) (suc k) vs us h = variable-alike sorts k vs us h

-- a mark is no value that a way takes
values-of_sorts : (sorts : List Sort) (ps : Patterns) → IsTrue (are_value_patterns sorts ps) → AreAlike (spare_values (pattern_sorts sorts ps)) (values_list (pattern_values (spare_values sorts) ps))
values-of_sorts sorts no_patterns h = tt
values-of_sorts sorts (more_patterns p ps) h = one p q.0 (values-of_sorts sorts ps q.1)
  where
    q : IsTrue (pattern_fits sorts TermSort p || pattern_fits sorts StringSort p) × IsTrue (are_value_patterns sorts ps)
    q = and_parts (pattern_fits sorts TermSort p || pattern_fits sorts StringSort p) (are_value_patterns sorts ps) h

    one : (x : Pattern) → IsTrue (pattern_fits sorts TermSort x || pattern_fits sorts StringSort x) → AreAlike (spare_values (pattern_sorts sorts ps)) (values_list (pattern_values (spare_values sorts) ps)) → AreAlike (spare_values (pattern_sorts sorts (more_patterns x ps))) (values_list (pattern_values (spare_values sorts) (more_patterns x ps)))
    one (p_var k) f m = variable-alike sorts k (spare_values (pattern_sorts sorts ps)) (values_list (pattern_values (spare_values sorts) ps)) m
    one (p_fun g xs) f m = m
    one (p_eigen y xs) f m = m
    one (p_new y xs) f m = absurd (false≢true f)

way-right : (P : Problem) (sorts : List Sort) (p : ℕ) (ps : Patterns) → IsTrue (has_labels P.setting.logic) → IsTrue (are_value_patterns sorts ps) → IsTrue (fits_way P p (values_list (pattern_values (spare_values sorts) ps))) → IsTrue (fits_way P p (spare_values (pattern_sorts sorts ps)))
way-right P sorts p ps labels f h = way-alike P p (values_list (pattern_values (spare_values sorts) ps)) (spare_values (pattern_sorts sorts ps)) (values-of_sorts sorts ps f) (spare-steps P.setting.logic labels (pattern_sorts sorts ps)) h

-- ---- patterns

-- what fits inside the pattern, and that its value by spare values holds proper names
abbrev IsProper : Problem → List Sort → Pattern → Type 0
IsProper P sorts (p_var k) = Unit {0}
IsProper P sorts (p_fun f ps) = IsTrue (are_term_patterns sorts ps) × IsTrue (is_admitted P (g_fun f (pattern_terms (spare_values sorts) ps)))
IsProper P sorts (p_eigen p ps) = IsTrue (are_value_patterns sorts ps) × IsTrue (is_admitted P (g_eigen p (pattern_values (spare_values sorts) ps)))
IsProper P sorts (p_new p ps) = IsTrue (are_value_patterns sorts ps) × IsTrue (is_admitted_mark P (g_new_mark p (pattern_values (spare_values sorts) ps)))

proper-term : (P : Problem) (sorts : List Sort) (p : Pattern) → IsTrue (pattern_fits sorts TermSort p) → IsTrue (is_admitted P (as_term (pattern_value (spare_values sorts) p))) → IsProper P sorts p
proper-term P sorts (p_var k) f h = tt
proper-term P sorts (p_fun g ps) f h = (f, h)
proper-term P sorts (p_eigen y ps) f h = (f, h)
proper-term P sorts (p_new y ps) f h = absurd (false≢true f)

proper-value : (P : Problem) (sorts : List Sort) (p : Pattern) → IsTrue (pattern_fits sorts TermSort p || pattern_fits sorts StringSort p) → IsTrue (is_admitted_value P (as_value (pattern_value (spare_values sorts) p))) → IsProper P sorts p
proper-value P sorts (p_var k) f h = tt
proper-value P sorts (p_fun g ps) f h = (sym (or-false (are_term_patterns sorts ps)) ∙ f, h)
proper-value P sorts (p_eigen y ps) f h = (sym (or-false (are_value_patterns sorts ps)) ∙ f, h)
proper-value P sorts (p_new y ps) f h = absurd (false≢true f)

proper-item : (P : Problem) (sorts : List Sort) (p : Pattern) → IsTrue (pattern_fits sorts MarkSort p || pattern_fits sorts StringSort p) → IsTrue (list_all (is_admitted_mark P) (as_label (pattern_value (spare_values sorts) p))) → IsProper P sorts p
proper-item P sorts (p_var k) f h = tt
proper-item P sorts (p_fun g ps) f h = absurd (false≢true f)
proper-item P sorts (p_eigen y ps) f h = absurd (false≢true f)
proper-item P sorts (p_new y ps) f h = (sym (or-false (are_value_patterns sorts ps)) ∙ f, (and_parts (is_admitted_mark P (g_new_mark y (pattern_values (spare_values sorts) ps))) true h).0)

mutual
  pattern-right : (P : Problem) (sorts : List Sort) (p : Pattern) → IsTrue (has_labels P.setting.logic) → IsProper P sorts p → IsTrue (is_right_pattern P sorts p)
  pattern-right P sorts (p_var k) labels h = refl
  pattern-right P sorts (p_fun g ps) labels h =
      let ts = pattern_terms (spare_values sorts) ps in
      let q = and_parts (has_function P.symbols g (length (g_terms_list ts))) (are_admitted P ts) h.1 in
      and_from (has_function P.symbols g (number_of_patterns ps)) (are_right_patterns P sorts ps) (ap (has_function P.symbols g) (sym (length-patterns (spare_values sorts) ps)) ∙ q.0) (terms-right P sorts ps labels h.0 q.1)
  pattern-right P sorts (p_eigen p ps) labels h =
      let vs = pattern_values (spare_values sorts) ps in
      let q = and_parts (is_delta_position P p && fits_way P p (values_list vs)) (are_admitted_values P vs) h.1 in
      let r = and_parts (is_delta_position P p) (fits_way P p (values_list vs)) q.0 in
      and_from (is_delta_position P p && fits_way P p (spare_values (pattern_sorts sorts ps))) (are_right_patterns P sorts ps)
      (and_from (is_delta_position P p) (fits_way P p (spare_values (pattern_sorts sorts ps))) r.0 (way-right P sorts p ps labels h.0 r.1)) (values-right P sorts ps labels h.0 q.1)
  pattern-right P sorts (p_new p ps) labels h =
      let vs = pattern_values (spare_values sorts) ps in
      let q = and_parts (is_pi_position P p && fits_way P p (values_list vs)) (are_admitted_values P vs) h.1 in
      let r = and_parts (is_pi_position P p) (fits_way P p (values_list vs)) q.0 in
      and_from (is_pi_position P p && fits_way P p (spare_values (pattern_sorts sorts ps))) (are_right_patterns P sorts ps)
      (and_from (is_pi_position P p) (fits_way P p (spare_values (pattern_sorts sorts ps))) r.0 (way-right P sorts p ps labels h.0 r.1)) (values-right P sorts ps labels h.0 q.1)

  terms-right : (P : Problem) (sorts : List Sort) (ps : Patterns) → IsTrue (has_labels P.setting.logic) → IsTrue (are_term_patterns sorts ps) → IsTrue (are_admitted P (pattern_terms (spare_values sorts) ps)) → IsTrue (are_right_patterns P sorts ps)
  terms-right P sorts no_patterns labels f h = refl
  terms-right P sorts (more_patterns p ps) labels f h =
      let w = and_parts (pattern_fits sorts TermSort p) (are_term_patterns sorts ps) f in
      let q = and_parts (is_admitted P (as_term (pattern_value (spare_values sorts) p))) (are_admitted P (pattern_terms (spare_values sorts) ps)) h in
      and_from (is_right_pattern P sorts p) (are_right_patterns P sorts ps) (pattern-right P sorts p labels (proper-term P sorts p w.0 q.0)) (terms-right P sorts ps labels w.1 q.1)

  values-right : (P : Problem) (sorts : List Sort) (ps : Patterns) → IsTrue (has_labels P.setting.logic) → IsTrue (are_value_patterns sorts ps) → IsTrue (are_admitted_values P (pattern_values (spare_values sorts) ps)) → IsTrue (are_right_patterns P sorts ps)
  values-right P sorts no_patterns labels f h = refl
  values-right P sorts (more_patterns p ps) labels f h =
      let w = and_parts (pattern_fits sorts TermSort p || pattern_fits sorts StringSort p) (are_value_patterns sorts ps) f in
      let q = and_parts (is_admitted_value P (as_value (pattern_value (spare_values sorts) p))) (are_admitted_values P (pattern_values (spare_values sorts) ps)) h in
      and_from (is_right_pattern P sorts p) (are_right_patterns P sorts ps) (pattern-right P sorts p labels (proper-value P sorts p w.0 q.0)) (values-right P sorts ps labels w.1 q.1)

-- ---- arguments and labels

label-right : (P : Problem) (sorts : List Sort) (ps : List Pattern) → IsTrue (has_labels P.setting.logic) → IsTrue (is_label_pattern sorts ps) → IsTrue (list_all (is_admitted_mark P) (pattern_label (spare_values sorts) ps)) → IsTrue (are_right_patterns P sorts (patterns_tree ps))
label-right P sorts [] labels f h = refl
label-right P sorts (p ∷ ps) labels f h =
    let first = as_label (pattern_value (spare_values sorts) p) in
    let rest = pattern_label (spare_values sorts) ps in
    let w = and_parts (pattern_fits sorts MarkSort p || pattern_fits sorts StringSort p) (is_label_pattern sorts ps) f in
    let q = and_parts (list_all (is_admitted_mark P) first) (list_all (is_admitted_mark P) rest) (sym (list_all-append (is_admitted_mark P) first rest) ∙ h) in
    and_from (is_right_pattern P sorts p) (are_right_patterns P sorts (patterns_tree ps)) (pattern-right P sorts p labels (proper-item P sorts p w.0 q.0)) (label-right P sorts ps labels w.1 q.1)

atoms-right : (P : Problem) (sorts : List Sort) (xs : List PatternAtom) → IsTrue (has_labels P.setting.logic) → IsTrue (list_all (atom_fits sorts) xs) → IsTrue (list_all (literal_is_proper P) (map (λ (a : PatternAtom). pattern_literal (spare_values sorts) a) xs)) → IsTrue (list_all (is_right_atom P sorts) xs)
atoms-right P sorts [] labels f h = refl
atoms-right P sorts (a ∷ xs) labels f h =
    let vs = spare_values sorts in
    let w = and_parts (atom_fits sorts a) (list_all (atom_fits sorts) xs) f in
    let v = and_parts (list_all (pattern_fits sorts TermSort) a.args) (is_label_pattern sorts a.label) w.0 in
    let q = and_parts (literal_is_proper P (pattern_literal vs a)) (list_all (literal_is_proper P) (map (λ (b : PatternAtom). pattern_literal vs b) xs)) h in
    let r = and_parts (are_admitted P (pattern_terms vs (patterns_tree a.args))) (list_all (is_admitted_mark P) (pattern_label vs a.label)) q.0 in
    and_from (is_right_atom P sorts a) (list_all (is_right_atom P sorts) xs)
    (and_from (are_right_patterns P sorts (patterns_tree a.args)) (are_right_patterns P sorts (patterns_tree a.label)) (terms-right P sorts (patterns_tree a.args) labels (terms-tree sorts a.args v.0) r.0) (label-right P sorts a.label labels v.1 r.1))
    (atoms-right P sorts xs labels w.1 q.1)

gammas-right : (P : Problem) (sorts : List Sort) (gs : List PatternGamma) → IsTrue (has_labels P.setting.logic) → IsTrue (list_all (gamma_fits sorts) gs) → IsTrue (list_all (gamma_is_proper P) (map (λ (g : PatternGamma). pattern_gamma (spare_values sorts) g) gs)) → IsTrue (list_all (is_right_gamma P sorts) gs)
gammas-right P sorts [] labels f h = refl
gammas-right P sorts (g ∷ gs) labels f h =
    let vs = spare_values sorts in
    let w = and_parts (gamma_fits sorts g) (list_all (gamma_fits sorts) gs) f in
    let v = and_parts (pattern_fits sorts TermSort g.term) (is_label_pattern sorts g.label) w.0 in
    let q = and_parts (gamma_is_proper P (pattern_gamma vs g)) (list_all (gamma_is_proper P) (map (λ (x : PatternGamma). pattern_gamma vs x) gs)) h in
    let r = and_parts (is_admitted P (as_term (pattern_value vs g.term))) (list_all (is_admitted_mark P) (pattern_label vs g.label)) q.0 in
    and_from (is_right_gamma P sorts g) (list_all (is_right_gamma P sorts) gs)
    (and_from (is_right_pattern P sorts g.term) (are_right_patterns P sorts (patterns_tree g.label)) (pattern-right P sorts g.term labels (proper-term P sorts g.term v.0 r.0)) (label-right P sorts g.label labels v.1 r.1))
    (gammas-right P sorts gs labels w.1 q.1)

strings-right : (P : Problem) (sorts : List Sort) (n : ℕ) (ss : List Sort) → IsTrue (are_right_patterns P sorts (patterns_tree (strings_from n ss)))
strings-right P sorts n [] = refl
strings-right P sorts n (TermSort ∷ ss) = strings-right P sorts (n + 1) ss
strings-right P sorts n (MarkSort ∷ ss) = strings-right P sorts (n + 1) ss
strings-right P sorts n (StringSort ∷ ss) = strings-right P sorts (n + 1) ss

-- ---- templates

-- what a template of a selection builds is right
pub template-right : (P : Problem) (sides : List Side) (t : Template) → IsTrue (has_labels P.setting.logic) → IsTrue (formula_fits P.setting.logic P.symbols 0 P.formula) → IsTemplateOf P sides t → IsTrue (list_all is_variable_sort t.sorts) → AreRight P t
template-right P sides t labels fits right sorts =
    let f = and_parts (list_all (atom_fits t.sorts) t.literals && list_all (pattern_fits t.sorts StringSort) t.strings) (list_all (gamma_fits t.sorts) t.gammas) right.fits in
    let w = and_parts (list_all (atom_fits t.sorts) t.literals) (list_all (pattern_fits t.sorts StringSort) t.strings) f.0 in
    record {
      literals = atoms-right P t.sorts t.literals labels w.0 (literals-proper P sides t labels fits right sorts);
      strings = subst (λ ps. IsTrue (are_right_patterns P t.sorts (patterns_tree ps))) (sym right.strings) (strings-right P t.sorts 0 t.sorts);
      gammas = gammas-right P t.sorts t.gammas labels f.1 (gammas-proper P sides t labels fits right sorts);
    }

-- values that a template takes have variable sorts alone
taken-sorts : (ss : List Sort) (vs : List Value) → IsTrue (have_sorts ss vs) → IsTrue (list_all is_variable_sort ss)
taken-sorts [] vs h = refl
taken-sorts (s ∷ ss) [] h = absurd (false≢true h)
taken-sorts (TermSort ∷ ss) (term t ∷ vs) h = taken-sorts ss vs h
taken-sorts (TermSort ∷ ss) (steps w ∷ vs) h = absurd (false≢true h)
taken-sorts (MarkSort ∷ ss) (v ∷ vs) h = absurd (false≢true h)
taken-sorts (StringSort ∷ ss) (term t ∷ vs) h = absurd (false≢true h)
taken-sorts (StringSort ∷ ss) (steps w ∷ vs) h = taken-sorts ss vs h

-- the variables of each template of a selection are terms and strings
pub selection-sorts : (P : Problem) (sides : List Side) (t : Template) → IsTrue (has_labels P.setting.logic) → IsTrue (formula_fits P.setting.logic P.symbols 0 P.formula) → Contains (selections P.formula F) sides → IsTemplateOf P sides t → IsTrue (list_all is_variable_sort t.sorts)
selection-sorts P sides t labels fits within h =
    let (u, e, k) = template-exists P sides fits within in
    let vs = spare_values u.sorts in
    let i = spare-instance P sides u labels k (template-sorts P sides u e) in
    let (chosen, same) = (h.instances vs (literals_by vs u)).0 i in
    taken-sorts t.sorts vs (and_parts (have_sorts t.sorts vs) (is_choice_of_values P vs) chosen).0

-- so what it builds is right
pub selection-right : (P : Problem) (sides : List Side) (t : Template) → IsTrue (has_labels P.setting.logic) → IsTrue (formula_fits P.setting.logic P.symbols 0 P.formula) → Contains (selections P.formula F) sides → IsTemplateOf P sides t → AreRight P t
selection-right P sides t labels fits within h = template-right P sides t labels fits h (selection-sorts P sides t labels fits within h)
