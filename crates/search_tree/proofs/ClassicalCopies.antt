-- Copies of classical templates leave a classical store classical, and the templates of a classical matrix are classical.
use Rattle.std.proofs.Common.{◌≡◌, ◌+◌, ℕ, zero, suc, List, [], ◌∷◌, map, Bool, true, false, ◌&&◌, ◌||◌, IsTrue, refl, sym, ◌∙◌, ap, subst, Option, None, Some, slice_get}
use Rattle.std.specs.Prelude.{Contains}
use Rattle.std.specs.List.{AllByRecursion, list_all}
use Rattle.std.specs.Option.{option_map_or}
use Rattle.std.proofs.lemmas.Bool.{false≢true, and_from, and_parts}
use Rattle.calculus.specs.declared.setting.Logic.TheVariants.{Classical}
use Rattle.calculus.specs.declared.sign.Sign.TheVariants.{F}
use Rattle.calculus.specs.declared.sign.Side.{Side}
use Rattle.calculus.specs.declared.sort.Sort.{Sort}
use Rattle.calculus.specs.declared.sort.Sort.TheVariants.{TermSort, MarkSort, StringSort}
use Rattle.calculus.specs.Clauses.{selections}
use Rattle.calculus.specs.ComputedInstances.{Part, instance_of}
use Rattle.calculus.specs.Equality.{list_eq, literal_eq, sort_eq}
use Rattle.calculus.specs.Ground.{GroundLiteral, Value, common, g_eigen, g_fun, term}
use Rattle.store_theory.specs.Patterns.{Pattern, Patterns, PatternAtom, PatternGamma, Template, are_term_patterns, are_value_patterns, atom_fits, gamma_fits, is_label_pattern, more_patterns, no_patterns, p_eigen, p_fun, p_new, p_var, pattern_fits, patterns_tree, template_fits}
use Rattle.calculus.specs.Problems.{formula_fits}
use Rattle.calculus.specs.Skolem.{fits_way, has_function, is_delta_position, is_empty}
use Rattle.calculus.specs.Syntax.{Problem}
use Rattle.store_theory.specs.Templates.{IsTemplateOf, as_term, have_sorts, is_choice_of_values, literals_by, pattern_gamma, pattern_label, pattern_literal, pattern_terms, pattern_value, pattern_values, strings_from}
use Rattle.calculus.proofs.InstanceLaws.{instance-proper}
use Rattle.search_theory.specs.Regular as regular
use Rattle.search_theory.specs.Regular.{IsClassicalTemplate, are_classical_patterns, is_classical_cell, is_classical_pattern, is_classical_store, is_own_cell, is_term_sort, spares_for}
use Rattle.search_theory.proofs.ClassicalTemplates.{classical-atoms, commons, commons-chosen, commons-sorted, is_plain_atom, no_new, none_new, proper-by, template-classical}
use Rattle.search_theory.proofs.TemplateExists.{template-exists}
use Rattle.term_store.specs.Signatures.{Signature, allows, allows_all, allows_atom, allows_gamma, allows_template, number_of_patterns, sorts_of_patterns}
use Rattle.search_tree.proofs.ClassicalGammas.{IsSpareUse, gammas-spare}

-- ---- the signature of a classical problem

-- function symbols with their arities, and eigenvariables with as many terms as stand on their ways
abbrev pub classical_signature : Problem → Signature
classical_signature P = record {
  sorts = is_term_sort;
  functions = has_function P.symbols;
  eigenvariables = λ p ss. is_delta_position P p && fits_way P p (map (λ s. term (common 0)) ss);
  marks = λ p ss. false;
}

-- ---- patterns

pub numbers-alike : (ps : Patterns) → regular.number_of_patterns ps ≡ number_of_patterns ps
numbers-alike no_patterns = refl
numbers-alike (more_patterns p ps) = ap suc (numbers-alike ps)

spares-for_patterns : (sorts : List Sort) (ps : Patterns) → spares_for ps ≡ map (λ s. term (common 0)) (sorts_of_patterns sorts ps)
spares-for_patterns sorts no_patterns = refl
spares-for_patterns sorts (more_patterns p ps) = ap (λ vs. term (common 0) ∷ vs) (spares-for_patterns sorts ps)

mutual
  pattern-allowed : (P : Problem) (sorts : List Sort) (p : Pattern) → IsTrue (is_classical_pattern P p) → IsTrue (allows (classical_signature P) sorts p)
  pattern-allowed P sorts (p_var k) h = refl
  pattern-allowed P sorts (p_fun f ps) h =
      let w = and_parts (has_function P.symbols f (regular.number_of_patterns ps)) (are_classical_patterns P ps) h in
      and_from (has_function P.symbols f (number_of_patterns ps)) (allows_all (classical_signature P) sorts ps) (ap (has_function P.symbols f) (sym (numbers-alike ps)) ∙ w.0) (patterns-allowed P sorts ps w.1)
  pattern-allowed P sorts (p_eigen p ps) h =
      let w = and_parts (is_delta_position P p && fits_way P p (spares_for ps)) (are_classical_patterns P ps) h in
      and_from (is_delta_position P p && fits_way P p (map (λ s. term (common 0)) (sorts_of_patterns sorts ps))) (allows_all (classical_signature P) sorts ps) (ap (λ vs. is_delta_position P p && fits_way P p vs) (sym (spares-for_patterns sorts ps)) ∙ w.0) (patterns-allowed P sorts ps w.1)
  pattern-allowed P sorts (p_new p ps) h = absurd (false≢true h)

  patterns-allowed : (P : Problem) (sorts : List Sort) (ps : Patterns) → IsTrue (are_classical_patterns P ps) → IsTrue (allows_all (classical_signature P) sorts ps)
  patterns-allowed P sorts no_patterns h = refl
  patterns-allowed P sorts (more_patterns p ps) h =
      let w = and_parts (is_classical_pattern P p) (are_classical_patterns P ps) h in
      and_from (allows (classical_signature P) sorts p) (allows_all (classical_signature P) sorts ps) (pattern-allowed P sorts p w.0) (patterns-allowed P sorts ps w.1)

no-label : (g : Signature) (sorts : List Sort) (ps : List Pattern) → IsTrue (is_empty ps) → IsTrue (allows_all g sorts (patterns_tree ps))
no-label g sorts [] h = refl
no-label g sorts (p ∷ ps) h = absurd (false≢true h)

pub atom-allowed : (P : Problem) (sorts : List Sort) (a : PatternAtom) → IsTrue (are_classical_patterns P (patterns_tree a.args) && is_empty a.label) → IsTrue (allows_atom (classical_signature P) sorts a)
atom-allowed P sorts a h =
    let w = and_parts (are_classical_patterns P (patterns_tree a.args)) (is_empty a.label) h in
    and_from (allows_all (classical_signature P) sorts (patterns_tree a.args)) (allows_all (classical_signature P) sorts (patterns_tree a.label)) (patterns-allowed P sorts (patterns_tree a.args) w.0) (no-label (classical_signature P) sorts a.label w.1)

pub atoms-allowed : (P : Problem) (sorts : List Sort) (xs : List PatternAtom) → IsTrue (list_all (λ (a : PatternAtom). are_classical_patterns P (patterns_tree a.args) && is_empty a.label) xs) → IsTrue (list_all (allows_atom (classical_signature P) sorts) xs)
atoms-allowed P sorts [] h = refl
atoms-allowed P sorts (a ∷ xs) h =
    let w = and_parts (are_classical_patterns P (patterns_tree a.args) && is_empty a.label) (list_all (λ (b : PatternAtom). are_classical_patterns P (patterns_tree b.args) && is_empty b.label) xs) h in
    and_from (allows_atom (classical_signature P) sorts a) (list_all (allows_atom (classical_signature P) sorts) xs) (atom-allowed P sorts a w.0) (atoms-allowed P sorts xs w.1)

-- ---- any template of a selection is classical

sorts-are_terms : (ss us : List Sort) → IsTrue (have_sorts ss (commons us)) → IsTrue (list_all is_term_sort ss)
sorts-are_terms [] us h = refl
sorts-are_terms (s ∷ ss) [] h = absurd (false≢true h)
sorts-are_terms (TermSort ∷ ss) (u ∷ us) h = sorts-are_terms ss us h
sorts-are_terms (MarkSort ∷ ss) (u ∷ us) h = absurd (false≢true h)
sorts-are_terms (StringSort ∷ ss) (u ∷ us) h = absurd (false≢true h)

-- no variable has another sort
no-variable : (ss : List Sort) (sort : Sort) (k : ℕ) → IsTrue (list_all is_term_sort ss) → sort_eq sort TermSort ≡ false → option_map_or (sort_eq sort) (slice_get ss k) false ≡ false
no-variable [] sort k h e = refl
no-variable (TermSort ∷ ss) sort zero h e = e
no-variable (MarkSort ∷ ss) sort zero h e = absurd (false≢true h)
no-variable (StringSort ∷ ss) sort zero h e = absurd (false≢true h)
no-variable (s ∷ ss) sort (suc k) h e = no-variable ss sort k (and_parts (is_term_sort s) (list_all is_term_sort ss) h).1 e

no-string : (ss : List Sort) (p : Pattern) → IsTrue (list_all is_term_sort ss) → pattern_fits ss StringSort p ≡ false
no-string ss (p_var k) h = no-variable ss StringSort k h refl
no-string ss (p_fun f ps) h = refl
no-string ss (p_eigen p ps) h = refl
no-string ss (p_new p ps) h = refl

or-first : (a b : Bool) → b ≡ false → IsTrue (a || b) → IsTrue a
or-first true b e h = refl
or-first false b e h = absurd (false≢true (sym e ∙ h))

mutual
  term-plain : (ss : List Sort) (p : Pattern) → IsTrue (list_all is_term_sort ss) → IsTrue (pattern_fits ss TermSort p) → IsTrue (no_new p)
  term-plain ss (p_var k) h f = refl
  term-plain ss (p_fun g ps) h f = terms-plain ss ps h f
  term-plain ss (p_eigen q ps) h f = values-plain ss ps h f
  term-plain ss (p_new q ps) h f = absurd (false≢true f)

  terms-plain : (ss : List Sort) (ps : Patterns) → IsTrue (list_all is_term_sort ss) → IsTrue (are_term_patterns ss ps) → IsTrue (none_new ps)
  terms-plain ss no_patterns h f = refl
  terms-plain ss (more_patterns p ps) h f =
      let w = and_parts (pattern_fits ss TermSort p) (are_term_patterns ss ps) f in
      and_from (no_new p) (none_new ps) (term-plain ss p h w.0) (terms-plain ss ps h w.1)

  values-plain : (ss : List Sort) (ps : Patterns) → IsTrue (list_all is_term_sort ss) → IsTrue (are_value_patterns ss ps) → IsTrue (none_new ps)
  values-plain ss no_patterns h f = refl
  values-plain ss (more_patterns p ps) h f =
      let w = and_parts (pattern_fits ss TermSort p || pattern_fits ss StringSort p) (are_value_patterns ss ps) f in
      and_from (no_new p) (none_new ps) (term-plain ss p h (or-first (pattern_fits ss TermSort p) (pattern_fits ss StringSort p) (no-string ss p h) w.0)) (values-plain ss ps h w.1)

args-plain : (ss : List Sort) (ps : List Pattern) → IsTrue (list_all is_term_sort ss) → IsTrue (list_all (pattern_fits ss TermSort) ps) → IsTrue (none_new (patterns_tree ps))
args-plain ss [] h f = refl
args-plain ss (p ∷ ps) h f =
    let w = and_parts (pattern_fits ss TermSort p) (list_all (pattern_fits ss TermSort) ps) f in
    and_from (no_new p) (none_new (patterns_tree ps)) (term-plain ss p h w.0) (args-plain ss ps h w.1)

label-plain : (ss : List Sort) (vs : List Value) (ps : List Pattern) → IsTrue (list_all is_term_sort ss) → IsTrue (is_label_pattern ss ps) → pattern_label vs ps ≡ [] → IsTrue (is_empty ps)
label-plain ss vs [] h f e = refl
label-plain ss vs (p ∷ ps) h f e =
    let w = and_parts (pattern_fits ss MarkSort p || pattern_fits ss StringSort p) (is_label_pattern ss ps) f in
    absurd (by p (or-first (pattern_fits ss MarkSort p) (pattern_fits ss StringSort p) (no-string ss p h) w.0) e)
  where
    by : (q : Pattern) → IsTrue (pattern_fits ss MarkSort q) → pattern_label vs (q ∷ ps) ≡ [] → ⊥
    by (p_var k) f e = false≢true (sym (no-variable ss MarkSort k h refl) ∙ f)
    by (p_fun g qs) f e = false≢true f
    by (p_eigen g qs) f e = false≢true f
    by (p_new g qs) f e = cc e

label-of_plain : (vs : List Value) (ps : List Pattern) → IsTrue (is_empty ps) → pattern_label vs ps ≡ []
label-of_plain vs [] h = refl
label-of_plain vs (p ∷ ps) h = absurd (false≢true h)

-- literals of the same values as classical ones are plain
literals-plain : (P : Problem) (ss : List Sort) (vs : List Value) (xs ys : List PatternAtom) → IsTrue (list_all is_term_sort ss) → IsTrue (list_all (atom_fits ss) xs) → IsTrue (list_all (λ (a : PatternAtom). are_classical_patterns P (patterns_tree a.args) && is_empty a.label) ys) → map (λ (a : PatternAtom). pattern_literal vs a) ys ≡ map (λ (a : PatternAtom). pattern_literal vs a) xs → IsTrue (list_all is_plain_atom xs)
literals-plain P ss vs [] ys h f c e = refl
literals-plain P ss vs (x ∷ xs) [] h f c e = let z : [] ≡ pattern_literal vs x ∷ map (λ (a : PatternAtom). pattern_literal vs a) xs = e in absurd (cc z)
literals-plain P ss vs (x ∷ xs) (y ∷ ys) h f c e =
    let w = and_parts (atom_fits ss x) (list_all (atom_fits ss) xs) f in
    let v = and_parts (list_all (pattern_fits ss TermSort) x.args) (is_label_pattern ss x.label) w.0 in
    let d = and_parts (are_classical_patterns P (patterns_tree y.args) && is_empty y.label) (list_all (λ (a : PatternAtom). are_classical_patterns P (patterns_tree a.args) && is_empty a.label) ys) c in
    let k = and_parts (are_classical_patterns P (patterns_tree y.args)) (is_empty y.label) d.0 in
    let one : pattern_literal vs y ≡ pattern_literal vs x = cc e in
    let rest : map (λ (a : PatternAtom). pattern_literal vs a) ys ≡ map (λ (a : PatternAtom). pattern_literal vs a) xs = cc e in
    let label : pattern_label vs x.label ≡ [] = sym (ap (λ (l : GroundLiteral). l.label) one) ∙ label-of_plain vs y.label k.1 in
    and_from (is_plain_atom x) (list_all is_plain_atom xs) (and_from (none_new (patterns_tree x.args)) (is_empty x.label) (args-plain ss x.args h v.0) (label-plain ss vs x.label h v.1 label)) (literals-plain P ss vs xs ys h w.1 d.1 rest)

literals-fit : (t : Template) → IsTrue (template_fits t) → IsTrue (list_all (atom_fits t.sorts) t.literals)
literals-fit t h = (and_parts (list_all (atom_fits t.sorts) t.literals) (list_all (pattern_fits t.sorts StringSort) t.strings) (and_parts (list_all (atom_fits t.sorts) t.literals && list_all (pattern_fits t.sorts StringSort) t.strings) (list_all (gamma_fits t.sorts) t.gammas) h).0).0

-- two templates of one selection, of which one is classical
both-classical : (P : Problem) (sides : List Side) (t u : Template) → IsTrue (formula_fits P.setting.logic P.symbols 0 P.formula) → IsTemplateOf P sides t → IsTemplateOf P sides u → IsClassicalTemplate P u → IsClassicalTemplate P t
both-classical P sides t u fits ht hu cu =
    let vs = commons u.sorts in
    let i = (hu.instances vs (literals_by vs u)).1 (and_from (have_sorts u.sorts vs) (is_choice_of_values P vs) (commons-sorted u.sorts cu.sorts) (commons-chosen P u.sorts), refl) in
    let (chosen, same) = (ht.instances vs (literals_by vs u)).0 i in
    let sorts = sorts-are_terms t.sorts u.sorts (and_parts (have_sorts t.sorts vs) (is_choice_of_values P vs) chosen).0 in
    let plain = literals-plain P t.sorts vs t.literals u.literals sorts (literals-fit t ht.fits) cu.literals same in
    let ws = commons t.sorts in
    let j = (ht.instances ws (literals_by ws t)).1 (and_from (have_sorts t.sorts ws) (is_choice_of_values P ws) (commons-sorted t.sorts sorts) (commons-chosen P t.sorts), refl) in
    let proper = proper-by P (literals_by ws t) (instance_of P sides ws) (instance-proper P sides ws fits) j in
    record { literals = classical-atoms P t.sorts t.literals plain proper; sorts = sorts }

-- each template of a selection of a classical problem is classical
pub selection-classical : (P : Problem) (sides : List Side) (t : Template) → P.setting.logic ≡ Classical → IsTrue (formula_fits P.setting.logic P.symbols 0 P.formula) → Contains (selections P.formula F) sides → IsTemplateOf P sides t → IsClassicalTemplate P t
selection-classical P sides t c fits within h =
    let (u, e, k) = template-exists P sides fits within in
    both-classical P sides t u fits h k (template-classical P sides u c fits e)

-- ---- what a classical signature allows of a template

gamma-allowed : (P : Problem) (ss : List Sort) (vs : List Value) (g : PatternGamma) → IsTrue (list_all is_term_sort ss) → IsTrue (gamma_fits ss g) → IsSpareUse (pattern_gamma vs g) → IsTrue (allows_gamma (classical_signature P) ss g)
gamma-allowed P ss vs g h f (e, n) =
    let w = and_parts (pattern_fits ss TermSort g.term) (is_label_pattern ss g.label) f in
    and_from (allows (classical_signature P) ss g.term) (allows_all (classical_signature P) ss (patterns_tree g.label)) (by g.term w.0 e) (no-label (classical_signature P) ss g.label (label-plain ss vs g.label h w.1 n))
  where
    by : (p : Pattern) → IsTrue (pattern_fits ss TermSort p) → as_term (pattern_value vs p) ≡ common 0 → IsTrue (allows (classical_signature P) ss p)
    by (p_var k) f e = refl
    by (p_fun q ps) f e = let z : g_fun q (pattern_terms vs ps) ≡ common 0 = e in absurd (cc z)
    by (p_eigen q ps) f e = let z : g_eigen q (pattern_values vs ps) ≡ common 0 = e in absurd (cc z)
    by (p_new q ps) f e = absurd (false≢true f)

gammas-allowed : (P : Problem) (ss : List Sort) (vs : List Value) (gs : List PatternGamma) → IsTrue (list_all is_term_sort ss) → IsTrue (list_all (gamma_fits ss) gs) → AllByRecursion IsSpareUse (map (λ (g : PatternGamma). pattern_gamma vs g) gs) → IsTrue (list_all (allows_gamma (classical_signature P) ss) gs)
gammas-allowed P ss vs [] h f a = refl
gammas-allowed P ss vs (g ∷ gs) h f a =
    let w = and_parts (gamma_fits ss g) (list_all (gamma_fits ss) gs) f in
    and_from (allows_gamma (classical_signature P) ss g) (list_all (allows_gamma (classical_signature P) ss) gs) (gamma-allowed P ss vs g h w.0 a.0) (gammas-allowed P ss vs gs h w.1 a.1)

gammas-fit : (t : Template) → IsTrue (template_fits t) → IsTrue (list_all (gamma_fits t.sorts) t.gammas)
gammas-fit t h = (and_parts (list_all (atom_fits t.sorts) t.literals && list_all (pattern_fits t.sorts StringSort) t.strings) (list_all (gamma_fits t.sorts) t.gammas) h).1

no-strings : (n : ℕ) (ss : List Sort) → IsTrue (list_all is_term_sort ss) → strings_from n ss ≡ []
no-strings n [] h = refl
no-strings n (TermSort ∷ ss) h = no-strings (n + 1) ss h
no-strings n (MarkSort ∷ ss) h = absurd (false≢true h)
no-strings n (StringSort ∷ ss) h = absurd (false≢true h)

some-part : (P : Problem) (o : Option Part) (f : Part → Bool) → IsTrue (option_map_or f o false) → (x : Part) × (o ≡ Some x)
some-part P None f h = absurd (false≢true h)
some-part P (Some x) f h = (x, refl)

-- what a template of a classical problem lets be built
pub template-allowed : (P : Problem) (sides : List Side) (t : Template) → P.setting.logic ≡ Classical → IsTrue (formula_fits P.setting.logic P.symbols 0 P.formula) → IsTemplateOf P sides t → IsClassicalTemplate P t → IsTrue (list_all (classical_signature P).sorts t.sorts && allows_template (classical_signature P) t)
template-allowed P sides t c fits h k =
    let vs = commons t.sorts in
    let i = (h.instances vs (literals_by vs t)).1 (and_from (have_sorts t.sorts vs) (is_choice_of_values P vs) (commons-sorted t.sorts k.sorts) (commons-chosen P t.sorts), refl) in
    let (x, e) = some-part P (instance_of P sides vs) (λ (x : Part). list_eq literal_eq x.literals (literals_by vs t)) i in
    let spare = subst (AllByRecursion IsSpareUse) (h.gammas vs x e) (gammas-spare P sides t.sorts x c fits e) in
    let strings = subst (λ ps. IsTrue (allows_all (classical_signature P) t.sorts (patterns_tree ps))) (sym (h.strings ∙ no-strings 0 t.sorts k.sorts)) refl in
    and_from (list_all (classical_signature P).sorts t.sorts) (allows_template (classical_signature P) t) k.sorts
    (and_from (list_all (allows_atom (classical_signature P) t.sorts) t.literals && allows_all (classical_signature P) t.sorts (patterns_tree t.strings)) (list_all (allows_gamma (classical_signature P) t.sorts) t.gammas)
    (and_from (list_all (allows_atom (classical_signature P) t.sorts) t.literals) (allows_all (classical_signature P) t.sorts (patterns_tree t.strings)) (atoms-allowed P t.sorts t.literals k.literals) strings)
    (gammas-allowed P t.sorts vs t.gammas k.sorts (gammas-fit t h.fits) spare))
