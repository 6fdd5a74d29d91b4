-- The templates of a classical problem: their variables are terms, their literals stand at the empty label, and what they build is proper.
use Rattle.std.proofs.Common.{◌≡◌, ℕ, zero, suc, ◌+◌, ◌<◌, List, [], ◌∷◌, ◌++◌, length, map, Bool, true, false, ◌&&◌, IsTrue, refl, sym, ◌∙◌, ap, ap₂, subst, Option, Some, None, option_map, option_and_then, slice_get, slice_index_or, ltb-true, arith}
use Rattle.std.specs.List.{list_all}
use Rattle.std.specs.Option.{option_map_or}
use Rattle.std.proofs.lemmas.Bool.{false≢true, and_parts, and_from}
use Rattle.plain_laws.proofs.Every.{all-append}
use Rattle.calculus.specs.declared.sign.Sign.{Sign}
use Rattle.calculus.specs.declared.sign.Sign.TheVariants.{F}
use Rattle.calculus.specs.declared.sign.Side.{Side}
use Rattle.calculus.specs.declared.sign.Side.TheVariants.{Left, Right}
use Rattle.calculus.specs.declared.sort.Sort.{Sort}
use Rattle.calculus.specs.declared.sort.Sort.TheVariants.{TermSort, MarkSort, StringSort}
use Rattle.calculus.specs.declared.setting.Logic.TheVariants.{Classical}
use Rattle.calculus.specs.declared.kind.Shape.{Shape}
use Rattle.calculus.specs.declared.kind.Shape.TheVariants.{Alpha, Beta, Gamma, Delta, Literal}
use Rattle.calculus.specs.Syntax.{Symbol, Term, Terms, var, fun, eigen, spare, no_terms, more_terms, Formula, atom, neg, conj, disj, imp, all, ex, box, dia, Problem}
use Rattle.calculus.specs.Problems.{term_fits_in, terms_fit_in, formula_fits, has_predicate}
use Rattle.calculus.specs.Ground.{GroundTerm, Value, common, term, g_terms_list, values_list, GroundLiteral}
use Rattle.calculus.specs.Equality.{list_eq, literal_eq}
use Rattle.calculus.specs.Kinds.{other, shape_of}
use Rattle.calculus.specs.Positions.{size}
use Rattle.calculus.specs.Skolem.{is_empty, has_function, is_delta_position, fits_way, is_admitted, are_admitted, is_admitted_mark, is_admitted_value, are_admitted_values}
use Rattle.calculus.specs.ComputedInstances.{Part, instance_of}
use Rattle.store_theory.specs.Stores.{a_term}
use Rattle.calculus.proofs.EqualityLaws.{list_eq-tells, literal_eq-tells}
use Rattle.calculus.proofs.InstanceLaws.{literal_is_proper, Good, OnPart, instance-proper}
use Rattle.store_theory.specs.Patterns.{Pattern, Patterns, p_var, p_fun, p_eigen, p_new, no_patterns, more_patterns, patterns_tree, PatternAtom, Template}
use Rattle.store_theory.specs.Templates.{as_term, as_value, value_of_variable, pattern_value, pattern_terms, pattern_values, pattern_literal, literals_by, have_sorts, is_step_value, is_choice_of_values}
use Rattle.search_theory.specs.TemplateOf.{PatternSpot, root_pattern_spot, PatternPart, PatternBody, pattern_of, patterns_of, pattern_down, pattern_inside, of_sort, pattern_turn, pattern_atom, joined_patterns, pattern_alpha, pattern_beta, pattern_one, pattern_two, with_pattern_gamma, pattern_quantifier, pattern_part, template_by, if_sides_used, template_of}
use Rattle.search_theory.specs.Regular.{number_of_patterns, spares_for, is_classical_pattern, are_classical_patterns, is_term_sort, IsClassicalTemplate}
use Rattle.search_theory.proofs.ClassicalLaws.{way-alike}
use Rattle.search_theory.proofs.TemplateLaws.{template_of-right}

-- ---- no character stands in a term

abbrev mutual
  pub no_new : Pattern → Bool
  no_new (p_var k) = true
  no_new (p_fun f ps) = none_new ps
  no_new (p_eigen p ps) = none_new ps
  no_new (p_new p ps) = false

  pub none_new : Patterns → Bool
  none_new no_patterns = true
  none_new (more_patterns p ps) = no_new p && none_new ps

abbrev pub is_plain_atom : PatternAtom → Bool
is_plain_atom a = none_new (patterns_tree a.args) && is_empty a.label

abbrev is_plain_part : PatternPart → Bool
is_plain_part y = list_all is_plain_atom y.literals && list_all is_term_sort y.sorts

abbrev IsPlainAt : Option PatternPart → Type 0
IsPlainAt None = Unit {0}
IsPlainAt (Some y) = IsTrue (is_plain_part y)

-- a body that gives plain parts inside of d quantifiers
abbrev Plainly : PatternBody → ℕ → Type 0
Plainly body d = (c : PatternSpot) (ss : List Side) (n : ℕ) → c.label ≡ [] → IsTrue (list_all no_new c.env) → IsTrue (list_all no_new c.taken) → length c.env ≡ d → IsPlainAt (body c ss n)

plain-map : (f : PatternPart → PatternPart) → ((y : PatternPart) → IsTrue (is_plain_part y) → IsTrue (is_plain_part (f y))) → (o : Option PatternPart) → IsPlainAt o → IsPlainAt (option_map f o)
plain-map f k None h = tt
plain-map f k (Some y) h = k y h

tree-no_new : (ps : List Pattern) → IsTrue (list_all no_new ps) → IsTrue (none_new (patterns_tree ps))
tree-no_new [] h = refl
tree-no_new (p ∷ ps) h = let q = and_parts (no_new p) (list_all no_new ps) h in and_from (no_new p) (none_new (patterns_tree ps)) q.0 (tree-no_new ps q.1)

index-no_new : (env : List Pattern) (k : ℕ) (d : Pattern) → IsTrue (list_all no_new env) → k < length env → IsTrue (no_new (slice_index_or env k d))
index-no_new [] k d h l = absurd (omega (arith, l))
index-no_new (p ∷ env) zero d h l = (and_parts (no_new p) (list_all no_new env) h).0
index-no_new (p ∷ env) (suc k) d h l = index-no_new env k d (and_parts (no_new p) (list_all no_new env) h).1 (omega (arith, l))

mutual
  term-no_new : (symbols : List Symbol) (d : ℕ) (env : List Pattern) (t : Term) → IsTrue (list_all no_new env) → length env ≡ d → IsTrue (term_fits_in symbols d t) → IsTrue (no_new (pattern_of env t))
  term-no_new symbols d env (var k) h e f = index-no_new env k (p_new 0 no_patterns) h (let l : k < d = ltb-true k d f in omega (arith, l, e))
  term-no_new symbols d env (fun g ts) h e f = terms-no_new symbols d env ts h e (and_parts (has_function symbols g _) (terms_fit_in symbols d ts) f).1
  term-no_new symbols d env (eigen n) h e f = absurd (false≢true f)
  term-no_new symbols d env (spare n) h e f = absurd (false≢true f)

  terms-no_new : (symbols : List Symbol) (d : ℕ) (env : List Pattern) (ts : Terms) → IsTrue (list_all no_new env) → length env ≡ d → IsTrue (terms_fit_in symbols d ts) → IsTrue (none_new (patterns_tree (patterns_of env ts)))
  terms-no_new symbols d env no_terms h e f = refl
  terms-no_new symbols d env (more_terms t ts) h e f =
      let q = and_parts (term_fits_in symbols d t) (terms_fit_in symbols d ts) f in
      and_from (no_new (pattern_of env t)) (none_new (patterns_tree (patterns_of env ts))) (term-no_new symbols d env t h e q.0) (terms-no_new symbols d env ts h e q.1)

no-label : (w : List Pattern) → w ≡ [] → IsTrue (is_empty w)
no-label w e = ap is_empty e

atom-plain : (symbols : List Symbol) (d : ℕ) (s : Sign) (p : ℕ) (ts : Terms) → IsTrue (terms_fit_in symbols d ts) → Plainly (pattern_atom s p ts) d
atom-plain symbols d s p ts f c ss n label env taken e =
    and_from (is_plain_atom (record { sign = s; symbol = p; args = patterns_of c.env ts; label = c.label }) && true) true
    (and_from (is_plain_atom (record { sign = s; symbol = p; args = patterns_of c.env ts; label = c.label })) true
    (and_from (none_new (patterns_tree (patterns_of c.env ts))) (is_empty c.label) (terms-no_new symbols d c.env ts env e f) (no-label c.label label)) refl) refl

one-plain : (body : PatternBody) (d : ℕ) → Plainly body d → Plainly (pattern_one body) d
one-plain body d h c ss n label env taken e = plain-map _ (λ y q. q) (body (pattern_down 1 c) ss n) (h (pattern_down 1 c) ss n label env taken e)

plain-joined : (x y : PatternPart) → IsTrue (is_plain_part x) → IsTrue (is_plain_part y) → IsTrue (is_plain_part (joined_patterns x y))
plain-joined x y h g =
    let p = and_parts (list_all is_plain_atom x.literals) (list_all is_term_sort x.sorts) h in
    let q = and_parts (list_all is_plain_atom y.literals) (list_all is_term_sort y.sorts) g in
    and_from (list_all is_plain_atom (x.literals ++ y.literals)) (list_all is_term_sort (x.sorts ++ y.sorts)) (all-append is_plain_atom x.literals y.literals p.0 q.0) (all-append is_term_sort x.sorts y.sorts p.1 q.1)

beta-plain : (second : List Side → ℕ → Option PatternPart) (n : ℕ) → ((ss : List Side) (m : ℕ) → IsPlainAt (second ss m)) → (o : Option PatternPart) → IsPlainAt o → IsPlainAt (option_and_then (λ (x : PatternPart). option_map (joined_patterns x) (second x.sides (n + length x.sorts))) o)
beta-plain second n k None h = tt
beta-plain second n k (Some x) h = plain-map (joined_patterns x) (λ y q. plain-joined x y h q) (second x.sides (n + length x.sorts)) (k x.sides (n + length x.sorts))

alpha-plain : (f g : List Side → Option PatternPart) → ((ss : List Side) → IsPlainAt (f ss)) → ((ss : List Side) → IsPlainAt (g ss)) → (ss : List Side) → IsPlainAt (pattern_alpha f g ss)
alpha-plain f g h k [] = tt
alpha-plain f g h k (Left ∷ ss) = h ss
alpha-plain f g h k (Right ∷ ss) = k ss

two-plain : (h : Shape) (k : ℕ) (f g : PatternBody) (d : ℕ) → Plainly f d → Plainly g d → Plainly (pattern_two h k f g) d
two-plain Alpha k f g d a b c ss n label env taken e = plain-map _ (λ y q. q) (pattern_alpha (λ rest. f (pattern_down 1 c) rest n) (λ rest. g (pattern_down (suc k) c) rest n) ss) (alpha-plain (λ rest. f (pattern_down 1 c) rest n) (λ rest. g (pattern_down (suc k) c) rest n) (λ rest. a (pattern_down 1 c) rest n label env taken e) (λ rest. b (pattern_down (suc k) c) rest n label env taken e) ss)
two-plain Beta k f g d a b c ss n label env taken e = plain-map _ (λ y q. q) (pattern_beta (f (pattern_down 1 c)) (g (pattern_down (suc k) c)) ss n) (beta-plain (g (pattern_down (suc k) c)) n (λ rest m. b (pattern_down (suc k) c) rest m label env taken e) (f (pattern_down 1 c) ss n) (a (pattern_down 1 c) ss n label env taken e))
two-plain Gamma k f g d a b c ss n label env taken e = tt
two-plain Delta k f g d a b c ss n label env taken e = tt
two-plain Literal k f g d a b c ss n label env taken e = tt

quantifier-plain : (h : Shape) (body : PatternBody) (d : ℕ) → Plainly body (suc d) → Plainly (pattern_quantifier h body) d
quantifier-plain Gamma body d k c ss n label env taken e =
    let ps = c.taken ++ p_var n ∷ [] in
    let inner = pattern_inside (p_var n) ps c in
    plain-map (of_sort TermSort) (λ y q. q) (pattern_turn c.position ps (option_map (with_pattern_gamma (p_var n) c.label) (body inner ss (suc n))))
    (plain-map _ (λ y q. q) (option_map (with_pattern_gamma (p_var n) c.label) (body inner ss (suc n)))
    (plain-map (with_pattern_gamma (p_var n) c.label) (λ y q. q) (body inner ss (suc n)) (k inner ss (suc n) label env (all-append no_new c.taken (p_var n ∷ []) taken refl) (ap suc e))))
quantifier-plain Delta body d k c ss n label env taken e =
    let inner = pattern_inside (p_eigen c.position (patterns_tree c.taken)) c.taken c in
    plain-map _ (λ y q. q) (body inner ss n) (k inner ss n label (and_from (none_new (patterns_tree c.taken)) (list_all no_new c.env) (tree-no_new c.taken taken) env) taken (ap suc e))
quantifier-plain Alpha body d k c ss n label env taken e = tt
quantifier-plain Beta body d k c ss n label env taken e = tt
quantifier-plain Literal body d k c ss n label env taken e = tt

part-plain : (symbols : List Symbol) (f : Formula) (s : Sign) (d : ℕ) → IsTrue (formula_fits Classical symbols d f) → Plainly (pattern_part Classical f s) d
part-plain symbols (atom p ts) s d h = atom-plain symbols d s p ts (and_parts (has_predicate symbols p _) (terms_fit_in symbols d ts) h).1
part-plain symbols (neg a) s d h = one-plain (pattern_part Classical a (other s)) d (part-plain symbols a (other s) d h)
part-plain symbols (conj a b) s d h = let q = and_parts (formula_fits Classical symbols d a) (formula_fits Classical symbols d b) h in two-plain (shape_of s (conj a b)) (size a) (pattern_part Classical a s) (pattern_part Classical b s) d (part-plain symbols a s d q.0) (part-plain symbols b s d q.1)
part-plain symbols (disj a b) s d h = let q = and_parts (formula_fits Classical symbols d a) (formula_fits Classical symbols d b) h in two-plain (shape_of s (disj a b)) (size a) (pattern_part Classical a s) (pattern_part Classical b s) d (part-plain symbols a s d q.0) (part-plain symbols b s d q.1)
part-plain symbols (imp a b) s d h = let q = and_parts (formula_fits Classical symbols d a) (formula_fits Classical symbols d b) h in two-plain (shape_of s (imp a b)) (size a) (pattern_part Classical a (other s)) (pattern_part Classical b s) d (part-plain symbols a (other s) d q.0) (part-plain symbols b s d q.1)
part-plain symbols (all a) s d h = quantifier-plain (shape_of s (all a)) (pattern_part Classical a s) d (part-plain symbols a s (suc d) h)
part-plain symbols (ex a) s d h = quantifier-plain (shape_of s (ex a)) (pattern_part Classical a s) d (part-plain symbols a s (suc d) h)
part-plain symbols (box a) s d h = absurd (false≢true h)
part-plain symbols (dia a) s d h = absurd (false≢true h)

-- ---- what is built is proper: it is so in the instance by spare constants

-- a spare constant for each variable
abbrev pub commons : List Sort → List Value
commons [] = []
commons (s ∷ ss) = term (common 0) ∷ commons ss

pub commons-sorted : (ss : List Sort) → IsTrue (list_all is_term_sort ss) → IsTrue (have_sorts ss (commons ss))
commons-sorted [] h = refl
commons-sorted (TermSort ∷ ss) h = commons-sorted ss h
commons-sorted (MarkSort ∷ ss) h = absurd (false≢true h)
commons-sorted (StringSort ∷ ss) h = absurd (false≢true h)

pub commons-chosen : (P : Problem) (ss : List Sort) → IsTrue (is_choice_of_values P (commons ss))
commons-chosen P ss = and_from (list_all (is_admitted_value P) (commons ss)) (list_all (is_step_value P.setting.logic) (commons ss)) (admitted ss) (stepped ss)
  where
    admitted : (xs : List Sort) → IsTrue (list_all (is_admitted_value P) (commons xs))
    admitted [] = refl
    admitted (x ∷ xs) = admitted xs

    stepped : (xs : List Sort) → IsTrue (list_all (is_step_value P.setting.logic) (commons xs))
    stepped [] = refl
    stepped (x ∷ xs) = stepped xs

commons-variable : (ss : List Sort) (k : ℕ) → value_of_variable (slice_get (commons ss) k) ≡ a_term (common 0)
commons-variable [] k = refl
commons-variable (s ∷ ss) zero = refl
commons-variable (s ∷ ss) (suc k) = commons-variable ss k

pub length-patterns : (vs : List Value) (ps : Patterns) → length (g_terms_list (pattern_terms vs ps)) ≡ number_of_patterns ps
length-patterns vs no_patterns = refl
length-patterns vs (more_patterns p ps) = ap suc (length-patterns vs ps)

-- terms, as a list
abbrev terms_by_patterns : List Value → Patterns → List GroundTerm
terms_by_patterns vs no_patterns = []
terms_by_patterns vs (more_patterns p ps) = as_term (pattern_value vs p) ∷ terms_by_patterns vs ps

as-term-value : (ss : List Sort) (p : Pattern) → IsTrue (no_new p) → as_value (pattern_value (commons ss) p) ≡ term (as_term (pattern_value (commons ss) p))
as-term-value ss (p_var k) h = ap as_value (commons-variable ss k) ∙ sym (ap (λ v. term (as_term v)) (commons-variable ss k))
as-term-value ss (p_fun f ps) h = refl
as-term-value ss (p_eigen p ps) h = refl
as-term-value ss (p_new p ps) h = absurd (false≢true h)

values-are-terms : (ss : List Sort) (ps : Patterns) → IsTrue (none_new ps) → values_list (pattern_values (commons ss) ps) ≡ map term (terms_by_patterns (commons ss) ps)
values-are-terms ss no_patterns h = refl
values-are-terms ss (more_patterns p ps) h = let q = and_parts (no_new p) (none_new ps) h in ap₂ (λ v vs. v ∷ vs) (as-term-value ss p q.0) (values-are-terms ss ps q.1)

spares-are-terms : (vs : List Value) (ps : Patterns) → (us : List GroundTerm) × (spares_for ps ≡ map term us) × (length (terms_by_patterns vs ps) ≡ length us)
spares-are-terms vs no_patterns = ([], refl, refl)
spares-are-terms vs (more_patterns p ps) = let (us, e, l) = spares-are-terms vs ps in (common 0 ∷ us, ap (λ xs. term (common 0) ∷ xs) e, ap suc l)

way-spared : (P : Problem) (ss : List Sort) (p : ℕ) (ps : Patterns) → IsTrue (none_new ps) → fits_way P p (values_list (pattern_values (commons ss) ps)) ≡ fits_way P p (spares_for ps)
way-spared P ss p ps h =
    let (us, e, l) = spares-are-terms (commons ss) ps in
    ap (fits_way P p) (values-are-terms ss ps h) ∙ way-alike P p (terms_by_patterns (commons ss) ps) us l ∙ ap (fits_way P p) (sym e)

value-admitted : (P : Problem) (ss : List Sort) (p : Pattern) → IsTrue (no_new p) → IsTrue (is_admitted_value P (as_value (pattern_value (commons ss) p))) → IsTrue (is_admitted P (as_term (pattern_value (commons ss) p)))
value-admitted P ss p n h = ap (is_admitted_value P) (sym (as-term-value ss p n)) ∙ h

mutual
  classical-pattern : (P : Problem) (ss : List Sort) (p : Pattern) → IsTrue (no_new p) → IsTrue (is_admitted P (as_term (pattern_value (commons ss) p))) → IsTrue (is_classical_pattern P p)
  classical-pattern P ss (p_var k) n h = refl
  classical-pattern P ss (p_fun f ps) n h =
      let q = and_parts (has_function P.symbols f (length (g_terms_list (pattern_terms (commons ss) ps)))) (are_admitted P (pattern_terms (commons ss) ps)) h in
      and_from (has_function P.symbols f (number_of_patterns ps)) (are_classical_patterns P ps) (ap (has_function P.symbols f) (sym (length-patterns (commons ss) ps)) ∙ q.0) (classical-terms P ss ps n q.1)
  classical-pattern P ss (p_eigen p ps) n h =
      let q = and_parts (is_delta_position P p && fits_way P p (values_list (pattern_values (commons ss) ps))) (are_admitted_values P (pattern_values (commons ss) ps)) h in
      let r = and_parts (is_delta_position P p) (fits_way P p (values_list (pattern_values (commons ss) ps))) q.0 in
      and_from (is_delta_position P p && fits_way P p (spares_for ps)) (are_classical_patterns P ps) (and_from (is_delta_position P p) (fits_way P p (spares_for ps)) r.0 (sym (way-spared P ss p ps n) ∙ r.1)) (classical-values P ss ps n q.1)
  classical-pattern P ss (p_new p ps) n h = absurd (false≢true n)

  classical-terms : (P : Problem) (ss : List Sort) (ps : Patterns) → IsTrue (none_new ps) → IsTrue (are_admitted P (pattern_terms (commons ss) ps)) → IsTrue (are_classical_patterns P ps)
  classical-terms P ss no_patterns n h = refl
  classical-terms P ss (more_patterns p ps) n h =
      let m = and_parts (no_new p) (none_new ps) n in
      let q = and_parts (is_admitted P (as_term (pattern_value (commons ss) p))) (are_admitted P (pattern_terms (commons ss) ps)) h in
      and_from (is_classical_pattern P p) (are_classical_patterns P ps) (classical-pattern P ss p m.0 q.0) (classical-terms P ss ps m.1 q.1)

  classical-values : (P : Problem) (ss : List Sort) (ps : Patterns) → IsTrue (none_new ps) → IsTrue (are_admitted_values P (pattern_values (commons ss) ps)) → IsTrue (are_classical_patterns P ps)
  classical-values P ss no_patterns n h = refl
  classical-values P ss (more_patterns p ps) n h =
      let m = and_parts (no_new p) (none_new ps) n in
      let q = and_parts (is_admitted_value P (as_value (pattern_value (commons ss) p))) (are_admitted_values P (pattern_values (commons ss) ps)) h in
      and_from (is_classical_pattern P p) (are_classical_patterns P ps) (classical-pattern P ss p m.0 (value-admitted P ss p m.0 q.0)) (classical-values P ss ps m.1 q.1)

pub classical-atoms : (P : Problem) (ss : List Sort) (xs : List PatternAtom) → IsTrue (list_all is_plain_atom xs) → IsTrue (list_all (literal_is_proper P) (map (λ (a : PatternAtom). pattern_literal (commons ss) a) xs)) → IsTrue (list_all (λ (a : PatternAtom). are_classical_patterns P (patterns_tree a.args) && is_empty a.label) xs)
classical-atoms P ss [] h g = refl
classical-atoms P ss (a ∷ xs) h g =
    let p = and_parts (is_plain_atom a) (list_all is_plain_atom xs) h in
    let pa = and_parts (none_new (patterns_tree a.args)) (is_empty a.label) p.0 in
    let q = and_parts (literal_is_proper P (pattern_literal (commons ss) a)) (list_all (literal_is_proper P) (map (λ (b : PatternAtom). pattern_literal (commons ss) b) xs)) g in
    let qa = and_parts (are_admitted P (pattern_terms (commons ss) (patterns_tree a.args))) (list_all (is_admitted_mark P) (pattern_literal (commons ss) a).label) q.0 in
    and_from (are_classical_patterns P (patterns_tree a.args) && is_empty a.label) (list_all (λ (b : PatternAtom). are_classical_patterns P (patterns_tree b.args) && is_empty b.label) xs)
    (and_from (are_classical_patterns P (patterns_tree a.args)) (is_empty a.label) (classical-terms P ss (patterns_tree a.args) pa.0 qa.0) pa.1)
    (classical-atoms P ss xs p.1 q.1)

pub proper-by : (P : Problem) (xs : List GroundLiteral) (o : Option Part) → OnPart (Good P) o → IsTrue (option_map_or (λ (x : Part). list_eq literal_eq x.literals xs) o false) → IsTrue (list_all (literal_is_proper P) xs)
proper-by P xs None g h = absurd (false≢true h)
proper-by P xs (Some x) g h = subst (λ ys. IsTrue (list_all (literal_is_proper P) ys)) ((list_eq-tells literal_eq literal_eq-tells x.literals xs).0 h) g.literals

-- the template of a selection of a classical problem is classical
pub template-classical : (P : Problem) (sides : List Side) (t : Template) → P.setting.logic ≡ Classical → IsTrue (formula_fits P.setting.logic P.symbols 0 P.formula) → template_of P sides ≡ Some t → IsClassicalTemplate P t
template-classical P sides t c fits e = by (pattern_part P.setting.logic P.formula F root_pattern_spot sides 0) plain e
  where
    plain : IsPlainAt (pattern_part P.setting.logic P.formula F root_pattern_spot sides 0)
    plain = subst (λ l. IsPlainAt (pattern_part l P.formula F root_pattern_spot sides 0)) (sym c) (part-plain P.symbols P.formula F 0 (subst (λ l. IsTrue (formula_fits l P.symbols 0 P.formula)) c fits) root_pattern_spot sides 0 refl refl refl refl)

    whole : (literals : IsTrue (list_all is_plain_atom t.literals)) → IsTrue (list_all is_term_sort t.sorts) → IsClassicalTemplate P t
    whole l s =
        let vs = commons t.sorts in
        let right = template_of-right P sides t fits e in
        let i = (right.instances vs (literals_by vs t)).1 (and_from (have_sorts t.sorts vs) (is_choice_of_values P vs) (commons-sorted t.sorts s) (commons-chosen P t.sorts), refl) in
        let proper = proper-by P (literals_by vs t) (instance_of P sides vs) (instance-proper P sides vs fits) i in
        record { literals = classical-atoms P t.sorts t.literals l proper; sorts = s }

    used : (y : PatternPart) → IsTrue (is_plain_part y) → (ss : List Side) → if_sides_used y ss ≡ Some t → IsClassicalTemplate P t
    used y h [] q =
        let same : template_by y ≡ t = cc q in
        let p = and_parts (list_all is_plain_atom y.literals) (list_all is_term_sort y.sorts) h in
        whole (subst (λ (z : Template). IsTrue (list_all is_plain_atom z.literals)) same p.0) (subst (λ (z : Template). IsTrue (list_all is_term_sort z.sorts)) same p.1)
    used y h (s ∷ ss) q = cc q

    by : (o : Option PatternPart) → IsPlainAt o → option_and_then (λ (y : PatternPart). if_sides_used y y.sides) o ≡ Some t → IsClassicalTemplate P t
    by None h q = cc q
    by (Some y) h q = used y h y.sides q
