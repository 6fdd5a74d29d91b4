-- Copies of the problem's templates leave the search's own cells built right.
use Rattle.std.proofs.Common.{◌≡◌, ℕ, zero, suc, List, [], ◌∷◌, map, Bool, true, false, ◌&&◌, ◌||◌, IsTrue, refl, sym, ◌∙◌, ap, ap₂, Option, None, Some, option_map, slice_get, slice_index_or, if◌then◌else◌}
use Rattle.std.specs.Prelude.{Contains}
use Rattle.std.specs.List.{list_all}
use Rattle.std.specs.Option.{option_map_or}
use Rattle.std.proofs.lemmas.Bool.{and_from, and_parts, false≢true}
use Rattle.plain_laws.proofs.Every.{all-at, all-weaken}
use Rattle.store_theory.specs.Bindings.{NamesFrom}
use Rattle.calculus.specs.Clauses.{selections}
use Rattle.calculus.specs.Equality.{sort_eq}
use Rattle.calculus.specs.Ground.{common, g_spare_mark, more_marks, no_marks, steps, term}
use Rattle.store_theory.specs.Patterns.{HaveSortsAt, Pattern, PatternAtom, PatternGamma, Patterns, Template, more_patterns, no_patterns, p_eigen, p_fun, p_new, p_var, patterns_tree, without_literal}
use Rattle.calculus.specs.Problems.{formula_fits}
use Rattle.calculus.specs.Skolem.{fits_way, has_function, is_delta_position, is_pi_position}
use Rattle.calculus.specs.Space.{has_labels}
use Rattle.store_theory.specs.Stores.{Cell, Store, eigen_cell, fun_cell, has_value_sort_at, is_store, new_cell, sort_of, string_cell, variable}
use Rattle.calculus.specs.Syntax.{Problem}
use Rattle.store_theory.specs.Templates.{IsTemplateOf}
use Rattle.calculus.specs.declared.setting.Logic.{Logic}
use Rattle.calculus.specs.declared.setting.Logic.TheVariants.{Classical, Intuitionistic, D, T, S4, S5}
use Rattle.calculus.specs.declared.sign.Sign.TheVariants.{F}
use Rattle.calculus.specs.declared.sign.Side.{Side}
use Rattle.calculus.specs.declared.sort.Sort.{Sort}
use Rattle.calculus.specs.declared.sort.Sort.TheVariants.{TermSort, MarkSort, StringSort}
use Rattle.search_theory.specs.LabelledCells.{is_labelled_cell, sort_value, sort_values}
use Rattle.search_theory.specs.Regular as regular
use Rattle.search_theory.specs.Regular.{is_term_sort}
use Rattle.search_theory.specs.RightPatterns.{AreRight, are_right_patterns, is_right_atom, is_right_gamma, is_right_pattern, pattern_sort, pattern_sorts, spare_value, spare_values}
use Rattle.search_theory.proofs.BelowLaws.{all-remove}
use Rattle.search_theory.proofs.BuildingLaws.{is_variable_sort}
use Rattle.search_theory.proofs.ProperPatterns.{selection-right, selection-sorts}
use Rattle.search_theory.proofs.SpareLaws.{cell-fits}
use Rattle.term_store.specs.Signatures.{AreAllowedFrom, BuildsWithin, IsAllowedCell, Signature, allows, allows_all, allows_atom, allows_gamma, allows_template, number_of_patterns, sort_of_pattern, sorts_of_patterns}
use Rattle.search_tree.specs.OwnStores.{AreOwn, is_search_cell}
use Rattle.search_tree.proofs.ClassicalCopies.{classical_signature, numbers-alike, selection-classical, template-allowed}
use Rattle.search_tree.proofs.OwnLaws.{names-own}

abbrev pub is_own_sort : Problem → Sort → Bool
is_own_sort P TermSort = true
is_own_sort P MarkSort = false
is_own_sort P StringSort = has_labels P.setting.logic

-- variables for terms, and for strings where there are labels; function symbols with their arities; and names with parts of the sorts of
-- the way to their position
abbrev pub own_signature : Problem → Signature
own_signature P = record {
  sorts = is_own_sort P;
  functions = has_function P.symbols;
  eigenvariables = λ p ss. is_delta_position P p && fits_way P p (spare_values ss);
  marks = λ p ss. is_pi_position P p && fits_way P p (spare_values ss);
}

-- ---- own cells and the signature

value-there : (s : Store) (sort : Sort) (r : ℕ) → option_map sort_of (slice_get s.cells r) ≡ Some sort → sort_value s r ≡ spare_value sort
value-there s sort r e = ap (λ (o : Option Sort). if option_map_or (sort_eq TermSort) o false then term (common 0) else steps (more_marks (g_spare_mark 0) no_marks)) e ∙ by sort
  where
    by : (x : Sort) → (if sort_eq TermSort x then term (common 0) else steps (more_marks (g_spare_mark 0) no_marks)) ≡ spare_value x
    by TermSort = refl
    by MarkSort = refl
    by StringSort = refl

values-there : (s : Store) (ss : List Sort) (rs : List ℕ) → HaveSortsAt s ss rs → sort_values s rs ≡ spare_values ss
values-there s [] rs have = ap (sort_values s) have
values-there s (sort ∷ ss) rs (r, qs, e, at, more) = ap (sort_values s) e ∙ ap (λ v. v ∷ sort_values s qs) (value-there s sort r at) ∙ ap (λ vs. spare_value sort ∷ vs) (values-there s ss qs more)

-- values that are there have sorts
valued-sort : (s : Store) (r : ℕ) → IsTrue (has_value_sort_at s r) → (sort : Sort) × (option_map sort_of (slice_get s.cells r) ≡ Some sort)
valued-sort s r h = by (option_map sort_of (slice_get s.cells r)) refl h
  where
    by : (o : Option Sort) → option_map sort_of (slice_get s.cells r) ≡ o → IsTrue (option_map_or (sort_eq TermSort) o false || option_map_or (sort_eq StringSort) o false) → (sort : Sort) × (option_map sort_of (slice_get s.cells r) ≡ Some sort)
    by None e h = absurd (false≢true h)
    by (Some sort) e h = (sort, e)

valued-sorts : (s : Store) (rs : List ℕ) → IsTrue (list_all (has_value_sort_at s) rs) → (ss : List Sort) × HaveSortsAt s ss rs
valued-sorts s [] h = ([], refl)
valued-sorts s (r ∷ rs) h =
    let w = and_parts (has_value_sort_at s r) (list_all (has_value_sort_at s) rs) h in
    let one = valued-sort s r w.0 in
    let rest = valued-sorts s rs w.1 in
    (one.0 ∷ rest.0, (r, rs, refl, one.1, rest.1))

cell-allowed : (P : Problem) (s : Store) (r : ℕ) (c : Cell) → IsTrue (is_store s) → slice_get s.cells r ≡ Some c → IsTrue (is_labelled_cell P s c) → IsTrue (is_search_cell P c) → IsAllowedCell (own_signature P) s c
cell-allowed P s r (variable TermSort b) st e h k = refl
cell-allowed P s r (variable MarkSort b) st e h k = absurd (false≢true k)
cell-allowed P s r (variable StringSort b) st e h k = k
cell-allowed P s r (fun_cell f rs) st e h k = h
cell-allowed P s r (eigen_cell p rs) st e h k =
    let (ss, have) = valued-sorts s rs (cell-fits s st r (eigen_cell p rs) e) in
    (ss, have, ap (λ vs. is_delta_position P p && fits_way P p vs) (sym (values-there s ss rs have)) ∙ h)
cell-allowed P s r (new_cell p rs) st e h k =
    let (ss, have) = valued-sorts s rs (cell-fits s st r (new_cell p rs) e) in
    (ss, have, ap (λ vs. is_pi_position P p && fits_way P p vs) (sym (values-there s ss rs have)) ∙ h)
cell-allowed P s r (string_cell rs) st e h k = absurd (false≢true k)

allowed-cell : (P : Problem) (s : Store) (c : Cell) → IsAllowedCell (own_signature P) s c → IsTrue (is_labelled_cell P s c) × IsTrue (is_search_cell P c)
allowed-cell P s (variable TermSort b) h = (refl, refl)
allowed-cell P s (variable MarkSort b) h = absurd (false≢true h)
allowed-cell P s (variable StringSort b) h = (refl, h)
allowed-cell P s (fun_cell f rs) h = (h, refl)
allowed-cell P s (eigen_cell p rs) (ss, have, h) = (ap (λ vs. is_delta_position P p && fits_way P p vs) (values-there s ss rs have) ∙ h, refl)
allowed-cell P s (new_cell p rs) (ss, have, h) = (ap (λ vs. is_pi_position P p && fits_way P p vs) (values-there s ss rs have) ∙ h, refl)
allowed-cell P s (string_cell rs) h = absurd h

-- what was built within the signature over own cells is the search's own
pub own-copied : (P : Problem) (base : ℕ) (old new : Store) (copied : Signature → Bool) → IsTrue (is_store old) → BuildsWithin copied old new → IsTrue (copied (own_signature P)) → NamesFrom base new → AreOwn P base old → AreOwn P base new
own-copied P base old new copied st within allowed names h = record {
  labelled = record { built = λ r c l e. (allowed-cell P new c (came r c l e)).0; names = names-own base new names };
  cells = λ r c l e. (allowed-cell P new c (came r c l e)).1;
}
  where
    came : AreAllowedFrom (own_signature P) base new
    came = within (own_signature P) base allowed (λ r c l e. cell-allowed P old r c st e (h.labelled.built r c l e) (h.cells r c l e))

-- ---- right patterns

sort-alike : (sorts : List Sort) (p : Pattern) → pattern_sort sorts p ≡ sort_of_pattern sorts p
sort-alike sorts (p_var k) = refl
sort-alike sorts (p_fun f ps) = refl
sort-alike sorts (p_eigen p ps) = refl
sort-alike sorts (p_new p ps) = refl

sorts-alike : (sorts : List Sort) (ps : Patterns) → pattern_sorts sorts ps ≡ sorts_of_patterns sorts ps
sorts-alike sorts no_patterns = refl
sorts-alike sorts (more_patterns p ps) = ap₂ (λ x xs. x ∷ xs) (sort-alike sorts p) (sorts-alike sorts ps)

mutual
  right-allowed : (P : Problem) (sorts : List Sort) (p : Pattern) → IsTrue (is_right_pattern P sorts p) → IsTrue (allows (own_signature P) sorts p)
  right-allowed P sorts (p_var k) h = refl
  right-allowed P sorts (p_fun f ps) h =
      let w = and_parts (has_function P.symbols f (regular.number_of_patterns ps)) (are_right_patterns P sorts ps) h in
      and_from (has_function P.symbols f (number_of_patterns ps)) (allows_all (own_signature P) sorts ps) (ap (has_function P.symbols f) (sym (numbers-alike ps)) ∙ w.0) (all_right-allowed P sorts ps w.1)
  right-allowed P sorts (p_eigen p ps) h =
      let w = and_parts (is_delta_position P p && fits_way P p (spare_values (pattern_sorts sorts ps))) (are_right_patterns P sorts ps) h in
      and_from (is_delta_position P p && fits_way P p (spare_values (sorts_of_patterns sorts ps))) (allows_all (own_signature P) sorts ps) (ap (λ ss. is_delta_position P p && fits_way P p (spare_values ss)) (sym (sorts-alike sorts ps)) ∙ w.0) (all_right-allowed P sorts ps w.1)
  right-allowed P sorts (p_new p ps) h =
      let w = and_parts (is_pi_position P p && fits_way P p (spare_values (pattern_sorts sorts ps))) (are_right_patterns P sorts ps) h in
      and_from (is_pi_position P p && fits_way P p (spare_values (sorts_of_patterns sorts ps))) (allows_all (own_signature P) sorts ps) (ap (λ ss. is_pi_position P p && fits_way P p (spare_values ss)) (sym (sorts-alike sorts ps)) ∙ w.0) (all_right-allowed P sorts ps w.1)

  all_right-allowed : (P : Problem) (sorts : List Sort) (ps : Patterns) → IsTrue (are_right_patterns P sorts ps) → IsTrue (allows_all (own_signature P) sorts ps)
  all_right-allowed P sorts no_patterns h = refl
  all_right-allowed P sorts (more_patterns p ps) h =
      let w = and_parts (is_right_pattern P sorts p) (are_right_patterns P sorts ps) h in
      and_from (allows (own_signature P) sorts p) (allows_all (own_signature P) sorts ps) (right-allowed P sorts p w.0) (all_right-allowed P sorts ps w.1)

-- ---- what the signature allows of a template

pub record Allowed (P : Problem) (t : Template) : Type 0 where
  pub sorts : IsTrue (list_all (own_signature P).sorts t.sorts)
  pub literals : IsTrue (list_all (allows_atom (own_signature P) t.sorts) t.literals)
  pub strings : IsTrue (allows_all (own_signature P) t.sorts (patterns_tree t.strings))
  pub gammas : IsTrue (list_all (allows_gamma (own_signature P) t.sorts) t.gammas)

pub allowed-head : (P : Problem) (t : Template) (place : ℕ) (p : PatternAtom) → Allowed P t → slice_get t.literals place ≡ Some p → IsTrue (list_all (own_signature P).sorts t.sorts && allows_atom (own_signature P) t.sorts p)
allowed-head P t place p h e = and_from (list_all (own_signature P).sorts t.sorts) (allows_atom (own_signature P) t.sorts p) h.sorts (all-at (allows_atom (own_signature P) t.sorts) t.literals place p h.literals e)

allowed-template : (P : Problem) (t : Template) → Allowed P t → IsTrue (allows_template (own_signature P) t)
allowed-template P t h =
    and_from (list_all (allows_atom (own_signature P) t.sorts) t.literals && allows_all (own_signature P) t.sorts (patterns_tree t.strings)) (list_all (allows_gamma (own_signature P) t.sorts) t.gammas)
    (and_from (list_all (allows_atom (own_signature P) t.sorts) t.literals) (allows_all (own_signature P) t.sorts (patterns_tree t.strings)) h.literals h.strings) h.gammas

pub allowed-whole : (P : Problem) (t : Template) → Allowed P t → IsTrue (list_all (own_signature P).sorts t.sorts && allows_template (own_signature P) t)
allowed-whole P t h = and_from (list_all (own_signature P).sorts t.sorts) (allows_template (own_signature P) t) h.sorts (allowed-template P t h)

pub allowed-rest : (P : Problem) (t : Template) (place : ℕ) → Allowed P t → IsTrue (allows_template (own_signature P) (without_literal place t))
allowed-rest P t place h = allowed-template P (without_literal place t) (record { sorts = h.sorts; literals = all-remove (allows_atom (own_signature P) t.sorts) t.literals place h.literals; strings = h.strings; gammas = h.gammas })

-- ---- templates in logics with labels

right-atom : (P : Problem) (sorts : List Sort) (a : PatternAtom) → IsTrue (is_right_atom P sorts a) → IsTrue (allows_atom (own_signature P) sorts a)
right-atom P sorts a h =
    let w = and_parts (are_right_patterns P sorts (patterns_tree a.args)) (are_right_patterns P sorts (patterns_tree a.label)) h in
    and_from (allows_all (own_signature P) sorts (patterns_tree a.args)) (allows_all (own_signature P) sorts (patterns_tree a.label)) (all_right-allowed P sorts (patterns_tree a.args) w.0) (all_right-allowed P sorts (patterns_tree a.label) w.1)

right-gamma : (P : Problem) (sorts : List Sort) (g : PatternGamma) → IsTrue (is_right_gamma P sorts g) → IsTrue (allows_gamma (own_signature P) sorts g)
right-gamma P sorts g h =
    let w = and_parts (is_right_pattern P sorts g.term) (are_right_patterns P sorts (patterns_tree g.label)) h in
    and_from (allows (own_signature P) sorts g.term) (allows_all (own_signature P) sorts (patterns_tree g.label)) (right-allowed P sorts g.term w.0) (all_right-allowed P sorts (patterns_tree g.label) w.1)

variable-own : (P : Problem) → IsTrue (has_labels P.setting.logic) → (sort : Sort) → IsTrue (is_variable_sort sort) → IsTrue (is_own_sort P sort)
variable-own P labels TermSort h = refl
variable-own P labels MarkSort h = absurd (false≢true h)
variable-own P labels StringSort h = labels

labelled-allowed : (P : Problem) (t : Template) → IsTrue (has_labels P.setting.logic) → IsTrue (list_all is_variable_sort t.sorts) → AreRight P t → Allowed P t
labelled-allowed P t labels sorts h = record {
  sorts = all-weaken is_variable_sort (is_own_sort P) (variable-own P labels) t.sorts sorts;
  literals = all-weaken (is_right_atom P t.sorts) (allows_atom (own_signature P) t.sorts) (right-atom P t.sorts) t.literals h.literals;
  strings = all_right-allowed P t.sorts (patterns_tree t.strings) h.strings;
  gammas = all-weaken (is_right_gamma P t.sorts) (allows_gamma (own_signature P) t.sorts) (right-gamma P t.sorts) t.gammas h.gammas;
}

-- ---- classical templates

term-at : (sorts : List Sort) (k : ℕ) → IsTrue (list_all is_term_sort sorts) → slice_index_or sorts k TermSort ≡ TermSort
term-at [] k h = refl
term-at (TermSort ∷ sorts) zero h = refl
term-at (MarkSort ∷ sorts) zero h = absurd (false≢true h)
term-at (StringSort ∷ sorts) zero h = absurd (false≢true h)
term-at (sort ∷ sorts) (suc k) h = term-at sorts k (and_parts (is_term_sort sort) (list_all is_term_sort sorts) h).1

term-pattern : (P : Problem) (sorts : List Sort) (p : Pattern) → IsTrue (list_all is_term_sort sorts) → IsTrue (allows (classical_signature P) sorts p) → sort_of_pattern sorts p ≡ TermSort
term-pattern P sorts (p_var k) t h = term-at sorts k t
term-pattern P sorts (p_fun f ps) t h = refl
term-pattern P sorts (p_eigen p ps) t h = refl
term-pattern P sorts (p_new p ps) t h = absurd (false≢true h)

-- spare constants are the spare values of these sorts
spares-alike : (P : Problem) (sorts : List Sort) (ps : Patterns) → IsTrue (list_all is_term_sort sorts) → IsTrue (allows_all (classical_signature P) sorts ps) → map (λ s. term (common 0)) (sorts_of_patterns sorts ps) ≡ spare_values (sorts_of_patterns sorts ps)
spares-alike P sorts no_patterns t h = refl
spares-alike P sorts (more_patterns p ps) t h =
    let w = and_parts (allows (classical_signature P) sorts p) (allows_all (classical_signature P) sorts ps) h in
    ap₂ (λ v vs. v ∷ vs) (sym (ap spare_value (term-pattern P sorts p t w.0))) (spares-alike P sorts ps t w.1)

mutual
  classical-own : (P : Problem) (sorts : List Sort) (p : Pattern) → IsTrue (list_all is_term_sort sorts) → IsTrue (allows (classical_signature P) sorts p) → IsTrue (allows (own_signature P) sorts p)
  classical-own P sorts (p_var k) t h = refl
  classical-own P sorts (p_fun f ps) t h =
      let w = and_parts (has_function P.symbols f (number_of_patterns ps)) (allows_all (classical_signature P) sorts ps) h in
      and_from (has_function P.symbols f (number_of_patterns ps)) (allows_all (own_signature P) sorts ps) w.0 (all_classical-own P sorts ps t w.1)
  classical-own P sorts (p_eigen p ps) t h =
      let w = and_parts (is_delta_position P p && fits_way P p (map (λ s. term (common 0)) (sorts_of_patterns sorts ps))) (allows_all (classical_signature P) sorts ps) h in
      and_from (is_delta_position P p && fits_way P p (spare_values (sorts_of_patterns sorts ps))) (allows_all (own_signature P) sorts ps) (ap (λ vs. is_delta_position P p && fits_way P p vs) (sym (spares-alike P sorts ps t w.1)) ∙ w.0) (all_classical-own P sorts ps t w.1)
  classical-own P sorts (p_new p ps) t h = absurd (false≢true h)

  all_classical-own : (P : Problem) (sorts : List Sort) (ps : Patterns) → IsTrue (list_all is_term_sort sorts) → IsTrue (allows_all (classical_signature P) sorts ps) → IsTrue (allows_all (own_signature P) sorts ps)
  all_classical-own P sorts no_patterns t h = refl
  all_classical-own P sorts (more_patterns p ps) t h =
      let w = and_parts (allows (classical_signature P) sorts p) (allows_all (classical_signature P) sorts ps) h in
      and_from (allows (own_signature P) sorts p) (allows_all (own_signature P) sorts ps) (classical-own P sorts p t w.0) (all_classical-own P sorts ps t w.1)

classical-atom : (P : Problem) (sorts : List Sort) → IsTrue (list_all is_term_sort sorts) → (a : PatternAtom) → IsTrue (allows_atom (classical_signature P) sorts a) → IsTrue (allows_atom (own_signature P) sorts a)
classical-atom P sorts t a h =
    let w = and_parts (allows_all (classical_signature P) sorts (patterns_tree a.args)) (allows_all (classical_signature P) sorts (patterns_tree a.label)) h in
    and_from (allows_all (own_signature P) sorts (patterns_tree a.args)) (allows_all (own_signature P) sorts (patterns_tree a.label)) (all_classical-own P sorts (patterns_tree a.args) t w.0) (all_classical-own P sorts (patterns_tree a.label) t w.1)

classical-gamma : (P : Problem) (sorts : List Sort) → IsTrue (list_all is_term_sort sorts) → (g : PatternGamma) → IsTrue (allows_gamma (classical_signature P) sorts g) → IsTrue (allows_gamma (own_signature P) sorts g)
classical-gamma P sorts t g h =
    let w = and_parts (allows (classical_signature P) sorts g.term) (allows_all (classical_signature P) sorts (patterns_tree g.label)) h in
    and_from (allows (own_signature P) sorts g.term) (allows_all (own_signature P) sorts (patterns_tree g.label)) (classical-own P sorts g.term t w.0) (all_classical-own P sorts (patterns_tree g.label) t w.1)

term-own : (P : Problem) (sort : Sort) → IsTrue (is_term_sort sort) → IsTrue (is_own_sort P sort)
term-own P TermSort h = refl
term-own P MarkSort h = absurd (false≢true h)
term-own P StringSort h = absurd (false≢true h)

term-variable : (sort : Sort) → IsTrue (is_term_sort sort) → IsTrue (is_variable_sort sort)
term-variable TermSort h = refl
term-variable MarkSort h = absurd (false≢true h)
term-variable StringSort h = absurd (false≢true h)

classical-allowed : (P : Problem) (t : Template) → IsTrue (list_all is_term_sort t.sorts) → IsTrue (list_all (classical_signature P).sorts t.sorts && allows_template (classical_signature P) t) → Allowed P t
classical-allowed P t sorts h =
    let g = classical_signature P in
    let w = and_parts (list_all g.sorts t.sorts) (allows_template g t) h in
    let v = and_parts (list_all (allows_atom g t.sorts) t.literals && allows_all g t.sorts (patterns_tree t.strings)) (list_all (allows_gamma g t.sorts) t.gammas) w.1 in
    let u = and_parts (list_all (allows_atom g t.sorts) t.literals) (allows_all g t.sorts (patterns_tree t.strings)) v.0 in
    record {
      sorts = all-weaken is_term_sort (is_own_sort P) (term-own P) t.sorts sorts;
      literals = all-weaken (allows_atom g t.sorts) (allows_atom (own_signature P) t.sorts) (classical-atom P t.sorts sorts) t.literals u.0;
      strings = all_classical-own P t.sorts (patterns_tree t.strings) sorts u.1;
      gammas = all-weaken (allows_gamma g t.sorts) (allows_gamma (own_signature P) t.sorts) (classical-gamma P t.sorts sorts) t.gammas v.1;
    }

-- ---- the templates of a problem

pub no_labels-classical : (l : Logic) → has_labels l ≡ false → l ≡ Classical
no_labels-classical Classical e = refl
no_labels-classical Intuitionistic e = cc e
no_labels-classical D e = cc e
no_labels-classical T e = cc e
no_labels-classical S4 e = cc e
no_labels-classical S5 e = cc e

-- the variables of a template of the problem are terms and strings, and its copies are built right
pub record IsOwnTemplate (P : Problem) (t : Template) : Type 0 where
  pub sorts : IsTrue (list_all is_variable_sort t.sorts)
  pub allowed : Allowed P t

pub template-own : (P : Problem) (sides : List Side) (t : Template) → IsTrue (formula_fits P.setting.logic P.symbols 0 P.formula) → Contains (selections P.formula F) sides → IsTemplateOf P sides t → IsOwnTemplate P t
template-own P sides t fits within h = by (has_labels P.setting.logic) refl
  where
    by : (b : Bool) → has_labels P.setting.logic ≡ b → IsOwnTemplate P t
    by true labels =
        let sorts = selection-sorts P sides t labels fits within h in
        record { sorts = sorts; allowed = labelled-allowed P t labels sorts (selection-right P sides t labels fits within h) }
    by false e =
        let classical = no_labels-classical P.setting.logic e in
        let k = selection-classical P sides t classical fits within h in
        record { sorts = all-weaken is_term_sort is_variable_sort term-variable t.sorts k.sorts; allowed = classical-allowed P t k.sorts (template-allowed P sides t classical fits h k) }
