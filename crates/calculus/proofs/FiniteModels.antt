-- Finite structures are structures: truth in them, which is computed, says of formulas what truth
-- is to say.
use Rattle.std.proofs.Common.{◌≡◌, ℕ, suc, List, [], ◌∷◌, length, Bool, true, false, not, ◌&&◌, ◌||◌, ◌==◌, IsTrue, refl, ap, subst, arith, eqb-true, slice_index, nat_lt}
use Rattle.std.specs.List.{list_all, list_any}
use Rattle.std.proofs.lemmas.Bool.{false≢true, and_parts, and_from, ltb-true}
use Rattle.calculus.specs.declared.setting.Logic.{Logic}
use Rattle.calculus.specs.declared.setting.Logic.TheVariants.{Classical, Intuitionistic, D, T as LogicT, S4, S5}
use Rattle.calculus.specs.declared.setting.Domains.{Domains}
use Rattle.calculus.specs.declared.setting.Domains.TheVariants.{Constant, Cumulative, Varying}
use Rattle.calculus.specs.Syntax.{arity_of, Symbol, Term, Terms, var, fun, eigen, spare, no_terms, more_terms, Formula, atom, neg, conj, disj, imp, all, ex, box, dia, Problem}
use Rattle.calculus.specs.Equality.{contains}
use Rattle.calculus.specs.Skolem.{has_function}
use Rattle.calculus.specs.Problems.{is_modal, has_predicate, term_fits_in, terms_fit_in, formula_fits}
use Rattle.calculus.specs.Structures.{Structure, successors_of, domain_of, function_value, predicate_value, term_value, term_values, from_here, is_true_at, has_element, is_reflexive, is_transitive_relation, relation_fits, domains_fit}
use Rattle.calculus.specs.Models.{Model, AllIn, value_by, values_by, ForAll, ForSome, FromHere, EachElement, HasTruth, RelationFits, DomainsFit, IsModel}
use Rattle.calculus.proofs.MemberLaws.{all-contained, none-contained, failing, passing}
use Rattle.calculus.proofs.StructureLaws.{Conditions, range_of, successor-world, reaches-itself, reaches-on, reaches-each, each-world, first_of_list, first-contained, first_element, first-element-in, same-domain, larger-domain, AllIn as AllListed, value-in}

-- as `term_value`, with elements for names too
abbrev mutual
  pub value_named : Structure → (Term → ℕ) → List ℕ → Term → ℕ
  value_named S names env (var k) = slice_index env k
  value_named S names env (fun f ts) = function_value S f (values_named S names env ts)
  value_named S names env (eigen n) = names (eigen n)
  value_named S names env (spare n) = names (spare n)

  pub values_named : Structure → (Term → ℕ) → List ℕ → Terms → List ℕ
  values_named S names env no_terms = []
  values_named S names env (more_terms t ts) = value_named S names env t ∷ values_named S names env ts

-- as `is_true_at`
abbrev pub truth_named : Logic → Structure → (Term → ℕ) → Formula → List ℕ → ℕ → Bool
truth_named l S names (atom p ts) env w = from_here l S w (λ v. predicate_value S p v (values_named S names env ts))
truth_named l S names (neg a) env w = from_here l S w (λ v. not (truth_named l S names a env v))
truth_named l S names (conj a b) env w = truth_named l S names a env w && truth_named l S names b env w
truth_named l S names (disj a b) env w = truth_named l S names a env w || truth_named l S names b env w
truth_named l S names (imp a b) env w = from_here l S w (λ v. not (truth_named l S names a env v) || truth_named l S names b env v)
truth_named l S names (all a) env w = from_here l S w (λ v. list_all (λ x. truth_named l S names a (x ∷ env) v) (domain_of S v))
truth_named l S names (ex a) env w = list_any (λ x. truth_named l S names a (x ∷ env) w) (domain_of S w)
truth_named l S names (box a) env w = list_all (λ v. truth_named l S names a env v) (successors_of S w)
truth_named l S names (dia a) env w = list_any (λ v. truth_named l S names a env v) (successors_of S w)

-- ---- a formula of a problem has no names

mutual
  value-computed : (S : Structure) (names : Term → ℕ) (env : List ℕ) (symbols : List Symbol) (d : ℕ) (t : Term) → term_fits_in symbols d t ≡ true → value_named S names env t ≡ term_value S env t
  value-computed S names env symbols d (var k) h = refl
  value-computed S names env symbols d (fun f ts) h = ap (function_value S f) (values-computed S names env symbols d ts (and_parts (has_function symbols f (arity_of ts)) (terms_fit_in symbols d ts) h).1)
  value-computed S names env symbols d (eigen n) h = absurd (false≢true h)
  value-computed S names env symbols d (spare n) h = absurd (false≢true h)

  values-computed : (S : Structure) (names : Term → ℕ) (env : List ℕ) (symbols : List Symbol) (d : ℕ) (ts : Terms) → terms_fit_in symbols d ts ≡ true → values_named S names env ts ≡ term_values S env ts
  values-computed S names env symbols d no_terms h = refl
  values-computed S names env symbols d (more_terms t ts) h =
      let parts = and_parts (term_fits_in symbols d t) (terms_fit_in symbols d ts) h in
      λ i. value-computed S names env symbols d t parts.0 i ∷ values-computed S names env symbols d ts parts.1 i

pub truth-computed : (l : Logic) (S : Structure) (names : Term → ℕ) (symbols : List Symbol) (d : ℕ) (a : Formula) → formula_fits l symbols d a ≡ true → (env : List ℕ) (w : ℕ) → truth_named l S names a env w ≡ is_true_at l S a env w
truth-computed l S names symbols d (atom p ts) h env w =
    let e = values-computed S names env symbols d ts (and_parts (has_predicate symbols p (arity_of ts)) (terms_fit_in symbols d ts) h).1 in
    λ i. from_here l S w (λ v. predicate_value S p v (e i))
truth-computed l S names symbols d (neg a) h env w = λ i. from_here l S w (λ v. not (truth-computed l S names symbols d a h env v i))
truth-computed l S names symbols d (conj a b) h env w =
    let parts = and_parts (formula_fits l symbols d a) (formula_fits l symbols d b) h in
    λ i. truth-computed l S names symbols d a parts.0 env w i && truth-computed l S names symbols d b parts.1 env w i
truth-computed l S names symbols d (disj a b) h env w =
    let parts = and_parts (formula_fits l symbols d a) (formula_fits l symbols d b) h in
    λ i. truth-computed l S names symbols d a parts.0 env w i || truth-computed l S names symbols d b parts.1 env w i
truth-computed l S names symbols d (imp a b) h env w =
    let parts = and_parts (formula_fits l symbols d a) (formula_fits l symbols d b) h in
    λ i. from_here l S w (λ v. not (truth-computed l S names symbols d a parts.0 env v i) || truth-computed l S names symbols d b parts.1 env v i)
truth-computed l S names symbols d (all a) h env w = λ i. from_here l S w (λ v. list_all (λ x. truth-computed l S names symbols (suc d) a h (x ∷ env) v i) (domain_of S v))
truth-computed l S names symbols d (ex a) h env w = λ i. list_any (λ x. truth-computed l S names symbols (suc d) a h (x ∷ env) w i) (domain_of S w)
truth-computed l S names symbols d (box a) h env w =
    let parts = and_parts (is_modal l) (formula_fits l symbols d a) h in
    λ i. list_all (λ v. truth-computed l S names symbols d a parts.1 env v i) (successors_of S w)
truth-computed l S names symbols d (dia a) h env w =
    let parts = and_parts (is_modal l) (formula_fits l symbols d a) h in
    λ i. list_any (λ v. truth-computed l S names symbols d a parts.1 env v i) (successors_of S w)

-- ---- the structure

abbrev pub model_of : Logic → Structure → Model ℕ ℕ
model_of l S = record {
  is_world = λ w. nat_lt w (length S.successors);
  root = 0;
  reaches = λ w v. contains (successors_of S w) v;
  is_in = λ w x. contains (domain_of S w) x;
  element = 0;
  value = λ f xs. function_value S f xs;
  holds = λ p w xs. predicate_value S p w xs;
  truth = λ names a env w. truth_named l S names a env w;
}

-- ---- what its truth says

all-says : (p : ℕ → Bool) (xs : List ℕ) → ForAll (contains xs) p (list_all p xs)
all-says p xs = by (list_all p xs) refl
  where
    by : (b : Bool) → list_all p xs ≡ b → ForAll (contains xs) p b
    by true e = λ x m. all-contained p xs x e m
    by false e = failing p xs e

any-says : (p : ℕ → Bool) (xs : List ℕ) → ForSome (contains xs) p (list_any p xs)
any-says p xs = by (list_any p xs) refl
  where
    by : (b : Bool) → list_any p xs ≡ b → ForSome (contains xs) p b
    by true e = passing p xs e
    by false e = λ x m. none-contained p xs x e m

from_here-says : (l m : Logic) (S : Structure) (w : ℕ) (p : ℕ → Bool) → FromHere l (model_of m S) w p (from_here l S w p)
from_here-says Intuitionistic m S w p = all-says p (successors_of S w)
from_here-says _ m S w p = refl

-- for each successor and each element of its domain
each-says : (S : Structure) (w : ℕ) (p : ℕ → ℕ → Bool) → ForAll {A = ℕ × ℕ} (λ x. contains (successors_of S w) x.0 && contains (domain_of S x.0) x.1) (λ x. p x.0 x.1) (list_all (λ v. list_all (p v) (domain_of S v)) (successors_of S w))
each-says S w p = by (list_all (λ v. list_all (p v) (domain_of S v)) (successors_of S w)) refl
  where
    by : (b : Bool) → list_all (λ v. list_all (p v) (domain_of S v)) (successors_of S w) ≡ b → ForAll {A = ℕ × ℕ} (λ x. contains (successors_of S w) x.0 && contains (domain_of S x.0) x.1) (λ x. p x.0 x.1) b
    by true e = λ x kind.
        let parts = and_parts (contains (successors_of S w) x.0) (contains (domain_of S x.0) x.1) kind in
        all-contained (p x.0) (domain_of S x.0) x.1 (all-contained (λ v. list_all (p v) (domain_of S v)) (successors_of S w) x.0 e parts.0) parts.1
    by false e =
        let v = failing (λ v. list_all (p v) (domain_of S v)) (successors_of S w) e in
        let x = failing (p v.0) (domain_of S v.0) v.2 in
        ((v.0, x.0), and_from (contains (successors_of S w) v.0) (contains (domain_of S v.0) x.0) v.1 x.1, x.2)

each_element-says : (l m : Logic) (S : Structure) (w : ℕ) (p : ℕ → ℕ → Bool) → EachElement l (model_of m S) w p (from_here l S w (λ v. list_all (p v) (domain_of S v)))
each_element-says Intuitionistic m S w p = each-says S w p
each_element-says _ m S w p = all-says (p w) (domain_of S w)

mutual
  value-named : (l : Logic) (S : Structure) (names : Term → ℕ) (env : List ℕ) (t : Term) → value_named S names env t ≡ value_by (model_of l S) names env t
  value-named l S names env (var k) = refl
  value-named l S names env (fun f ts) = ap (function_value S f) (values-named l S names env ts)
  value-named l S names env (eigen n) = refl
  value-named l S names env (spare n) = refl

  values-named : (l : Logic) (S : Structure) (names : Term → ℕ) (env : List ℕ) (ts : Terms) → values_named S names env ts ≡ values_by (model_of l S) names env ts
  values-named l S names env no_terms = refl
  values-named l S names env (more_terms t ts) = λ i. value-named l S names env t i ∷ values-named l S names env ts i

truth-says : (l : Logic) (S : Structure) → HasTruth l (model_of l S)
truth-says l S names (atom p ts) env w =
    let M = model_of l S in
    let b = truth_named l S names (atom p ts) env w in
    subst (λ xs. FromHere l M w (λ v. predicate_value S p v xs) b) (values-named l S names env ts) (from_here-says l l S w (λ v. predicate_value S p v (values_named S names env ts)))
truth-says l S names (neg a) env w = from_here-says l l S w (λ v. not (truth_named l S names a env v))
truth-says l S names (conj a b) env w = refl
truth-says l S names (disj a b) env w = refl
truth-says l S names (imp a b) env w = from_here-says l l S w (λ v. not (truth_named l S names a env v) || truth_named l S names b env v)
truth-says l S names (all a) env w = each_element-says l l S w (λ v x. truth_named l S names a (x ∷ env) v)
truth-says l S names (ex a) env w = any-says (λ x. truth_named l S names a (x ∷ env) w) (domain_of S w)
truth-says l S names (box a) env w = all-says (λ v. truth_named l S names a env v) (successors_of S w)
truth-says l S names (dia a) env w = any-says (λ v. truth_named l S names a env v) (successors_of S w)

-- ---- it is one of the setting

only-world : (n w v : ℕ) → n ≡ 1 → IsTrue (nat_lt w n) → IsTrue (nat_lt v n) → w ≡ v
only-world n w v e at_w at_v =
    let one = ltb-true w n at_w in
    let other = ltb-true v n at_v in
    omega (arith, e, one, other)

relation-of : (l m : Logic) (S : Structure) → IsTrue (relation_fits l S) → RelationFits l (model_of m S)
relation-of Classical m S h =
    let parts = and_parts (length S.successors == 1) (is_reflexive S) h in
    (λ w world. reaches-itself S parts.1 w world, λ w v at_w at_v. only-world (length S.successors) w v (eqb-true (length S.successors) 1 parts.0) at_w at_v)
relation-of Intuitionistic m S h =
    let parts = and_parts (is_reflexive S) (is_transitive_relation S) h in
    (λ w world. reaches-itself S parts.0 w world, λ w v u world first second. reaches-on S parts.1 w v u world first second)
relation-of D m S h = λ w world. (first_of_list (successors_of S w), first-contained (successors_of S w) (each-world S (λ v. has_element (successors_of S v)) h w world))
relation-of LogicT m S h = λ w world. reaches-itself S h w world
relation-of S4 m S h =
    let parts = and_parts (is_reflexive S) (is_transitive_relation S) h in
    (λ w world. reaches-itself S parts.0 w world, λ w v u world first second. reaches-on S parts.1 w v u world first second)
relation-of S5 m S h = λ w v at_w at_v. reaches-each S h w v at_w at_v

domains-of : (d : Domains) (l : Logic) (S : Structure) → IsTrue (domains_fit d S) → DomainsFit d (model_of l S)
domains-of Constant l S h = λ w v x at_w at_v m. same-domain S h w v x at_w at_v m
domains-of Cumulative l S h = λ w v x world step m. larger-domain S h w v x world step m
domains-of Varying l S h = tt

listed-in : (l : Logic) (S : Structure) (w : ℕ) (xs : List ℕ) → AllIn (model_of l S) w xs → AllListed (domain_of S w) xs
listed-in l S w [] h = tt
listed-in l S w (x ∷ xs) h = (h.0, listed-in l S w xs h.1)

pub is-model : (P : Problem) (S : Structure) → Conditions P S → IsModel P (model_of P.setting.logic S)
is-model P S c =
    let l = P.setting.logic in
    let r = range_of S c.in_range in
    record {
      root = r.root;
      successors = λ w v world reached. successor-world S r w v reached;
      inhabited = λ w world. (first_element S w, first-element-in P S c w world);
      relation = relation-of l l S c.relation;
      domains = domains-of P.setting.domains l S c.domains;
      functions = λ f xs h w world m. value-in P S c f xs h w world (listed-in l S w xs m);
      truth = truth-says l S;
    }
