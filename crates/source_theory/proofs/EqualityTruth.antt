-- The axioms of equality are true at each world of a structure in which `=` is identity.
use Rattle.std.proofs.Common.{◌≡◌, ℕ, zero, suc, ◌+◌, List, [], ◌∷◌, ◌++◌, Bool, true, IsTrue, refl, sym, ◌∙◌, ap, subst}
use Rattle.std.specs.List.{list_all}
use Rattle.std.proofs.lemmas.Bool.{and_from, and_parts}
use Rattle.std.proofs.lemmas.List.Folds.{list_all-append}
use Rattle.calculus.specs.declared.setting.Logic.{Logic}
use Rattle.calculus.specs.declared.symbol.SymbolClass.{SymbolClass}
use Rattle.calculus.specs.declared.symbol.SymbolClass.TheVariants.{Function, Predicate, Equality, Truth}
use Rattle.calculus.specs.Lists.{terms_tree}
use Rattle.calculus.specs.Syntax.{Symbol, Term, Terms, var, fun, Formula, atom, conj, imp}
use Rattle.calculus.specs.Models.{Model, IsWorld, values_by}
use Rattle.problem_build.specs.Balance.{balanced}
use Rattle.problem_build.specs.Expansion.{equality_atom}
use Rattle.problem_build.specs.EqualityAxioms.{congruence_of_function, congruence_of_predicate, equal_arguments, equality_axioms, equations, for_all_times, for_each, function_axiom, left_variables, predicate_axiom, reflexivity, right_variables, symmetry, transitivity, variables}
use Rattle.problem_build.proofs.BalanceLaws.{balanced-balanced}
use Rattle.source_theory.specs.SourceTruth.{Lasts}
use Rattle.source_theory.proofs.TruthLaws.{lasts-says, lasts-there, lasts_for_each-there}
use Rattle.source_theory.proofs.ConnectiveLaws.{IsFor, is_true_in, itself, imp-means, conj-means, all-means, equality-means, conjunction-all}

for-each-true : (test : Formula → Bool) (axioms : ℕ → SymbolClass → ℕ → List Formula) → ((k : ℕ) (c : SymbolClass) (n : ℕ) → IsTrue (list_all test (axioms k c n)))
    → (k : ℕ) (symbols : List Symbol) → IsTrue (list_all test (for_each axioms k symbols))
for-each-true test axioms each k [] = refl
for-each-true test axioms each k (s ∷ ss) =
    list_all-append test (axioms k s.class s.arity) (for_each axioms (suc k) ss)
    ∙ and_from (list_all test (axioms k s.class s.arity)) (list_all test (for_each axioms (suc k) ss)) (each k s.class s.arity) (for-each-true test axioms each (suc k) ss)

module _ {W E : Type 0} (l : Logic) (M : Model W E) (symbols : List Symbol) (S : IsFor l M symbols) (names : Term → E) where
  -- what is true whatever the variables are is true inside of quantifiers
  all-times-true : (n : ℕ) (f : Formula) → ((env : List E) (w : W) → IsWorld M w → IsTrue (M.truth names f env w))
      → (env : List E) (w : W) → IsWorld M w → IsTrue (M.truth names (for_all_times n f) env w)
  all-times-true zero f each env w at = each env w at
  all-times-true (suc n) f each env w at =
      (all-means l M symbols S names (for_all_times n f) env (λ x v. IsTrue (M.truth names (for_all_times n f) (x ∷ env) v))
      (λ x. itself l M symbols S names (for_all_times n f) (x ∷ env)) w at).1
      (lasts_for_each-there l M S.steps (λ x v. IsTrue (M.truth names (for_all_times n f) (x ∷ env) v)) (λ x v there. all-times-true n f each (x ∷ env) v there) w at)

  implied-true : (f g : Formula) (env : List E) → ((w : W) → IsWorld M w → IsTrue (M.truth names f env w) → IsTrue (M.truth names g env w))
      → (w : W) → IsWorld M w → IsTrue (M.truth names (imp f g) env w)
  implied-true f g env each w at =
      (imp-means l M symbols S names f g env (λ v. IsTrue (M.truth names f env v)) (λ v. IsTrue (M.truth names g env v))
      (itself l M symbols S names f env) (itself l M symbols S names g env) w at).1
      (lasts-there l M S.steps (λ v. IsTrue (M.truth names f env v) → IsTrue (M.truth names g env v)) each w at)

  both-true : (f g : Formula) (env : List E) (w : W) → IsWorld M w → IsTrue (M.truth names (conj f g) env w) → IsTrue (M.truth names f env w) × IsTrue (M.truth names g env w)
  both-true f g env w at h =
      (conj-means l M symbols S names f g env (λ v. IsTrue (M.truth names f env v)) (λ v. IsTrue (M.truth names g env v))
      (itself l M symbols S names f env) (itself l M symbols S names g env) w at).0 h

  -- ---- an equivalence

  reflexivity-true : (w : W) → IsWorld M w → IsTrue (M.truth names (reflexivity symbols) [] w)
  reflexivity-true w at =
      all-times-true 1 (equality_atom symbols (var 0) (var 0)) (λ env v there. (equality-means l M symbols S names (var 0) (var 0) env v there).1 refl) [] w at

  symmetry-true : (w : W) → IsWorld M w → IsTrue (M.truth names (symmetry symbols) [] w)
  symmetry-true w at =
      all-times-true 2 (imp (equality_atom symbols (var 1) (var 0)) (equality_atom symbols (var 0) (var 1)))
      (λ env. implied-true (equality_atom symbols (var 1) (var 0)) (equality_atom symbols (var 0) (var 1)) env
      (λ v there h. (equality-means l M symbols S names (var 0) (var 1) env v there).1 (sym ((equality-means l M symbols S names (var 1) (var 0) env v there).0 h))))
      [] w at

  transitivity-true : (w : W) → IsWorld M w → IsTrue (M.truth names (transitivity symbols) [] w)
  transitivity-true w at =
      all-times-true 3 (imp (conj (equality_atom symbols (var 2) (var 1)) (equality_atom symbols (var 1) (var 0))) (equality_atom symbols (var 2) (var 0)))
      (λ env. implied-true (conj (equality_atom symbols (var 2) (var 1)) (equality_atom symbols (var 1) (var 0))) (equality_atom symbols (var 2) (var 0)) env
      (λ v there h.
      let both = both-true (equality_atom symbols (var 2) (var 1)) (equality_atom symbols (var 1) (var 0)) env v there h in
      (equality-means l M symbols S names (var 2) (var 0) env v there).1
      ((equality-means l M symbols S names (var 2) (var 1) env v there).0 both.0 ∙ (equality-means l M symbols S names (var 1) (var 0) env v there).0 both.1)))
      [] w at

  -- ---- equal arguments

  equal-values : (j k n : ℕ) (env : List E) (w : W) → IsWorld M w → IsTrue (list_all (is_true_in M names env w) (equations symbols (variables j n) (variables k n)))
      → values_by M names env (terms_tree (variables j n)) ≡ values_by M names env (terms_tree (variables k n))
  equal-values j k zero env w at h = refl
  equal-values j k (suc n) env w at h =
      let parts = and_parts (is_true_in M names env w (equality_atom symbols (var (j + n)) (var (k + n)))) (list_all (is_true_in M names env w) (equations symbols (variables j n) (variables k n))) h in
      let e = (equality-means l M symbols S names (var (j + n)) (var (k + n)) env w at).0 parts.0 in
      let es = equal-values j k n env w at parts.1 in
      λ i. e i ∷ es i

  arguments-equal : (n : ℕ) (env : List E) (w : W) → IsWorld M w → IsTrue (M.truth names (equal_arguments symbols (suc n)) env w)
      → values_by M names env (terms_tree (left_variables (suc n))) ≡ values_by M names env (terms_tree (right_variables (suc n)))
  arguments-equal n env w at h =
      let f = equality_atom symbols (var (suc n + n)) (var (0 + n)) in
      let fs = equations symbols (variables (suc n) n) (variables 0 n) in
      equal-values (suc n) 0 (suc n) env w at
      (sym (conjunction-all l M symbols S names env w (f ∷ fs) (balanced conj f fs) (balanced-balanced conj f fs)) ∙ h)

  atom-same : (p : ℕ) (ts us : Terms) (env : List E) → values_by M names env ts ≡ values_by M names env us
      → (w : W) → IsWorld M w → IsTrue (M.truth names (atom p ts) env w) → IsTrue (M.truth names (atom p us) env w)
  atom-same p ts us env e w at h =
      (lasts-says l M S.steps (λ v. M.holds p v (values_by M names env us)) (λ v. IsTrue (M.holds p v (values_by M names env us))) (λ v there. (λ x. x, λ x. x)) w at
      (M.truth names (atom p us) env w) (S.tells names (atom p us) env w)).1
      (subst (λ es. Lasts l M (λ v. IsTrue (M.holds p v es)) w) e
      ((lasts-says l M S.steps (λ v. M.holds p v (values_by M names env ts)) (λ v. IsTrue (M.holds p v (values_by M names env ts))) (λ v there. (λ x. x, λ x. x)) w at
      (M.truth names (atom p ts) env w) (S.tells names (atom p ts) env w)).0 h))

  -- ---- congruence

  function_axiom-true : (f n : ℕ) (w : W) → IsWorld M w → IsTrue (M.truth names (function_axiom symbols f (suc n)) [] w)
  function_axiom-true f n w at =
      let s = fun f (terms_tree (left_variables (suc n))) in
      let t = fun f (terms_tree (right_variables (suc n))) in
      all-times-true (suc n + suc n) (imp (equal_arguments symbols (suc n)) (equality_atom symbols s t))
      (λ env. implied-true (equal_arguments symbols (suc n)) (equality_atom symbols s t) env
      (λ v there h. (equality-means l M symbols S names s t env v there).1 (ap (M.value f) (arguments-equal n env v there h))))
      [] w at

  predicate_axiom-true : (p n : ℕ) (w : W) → IsWorld M w → IsTrue (M.truth names (predicate_axiom symbols p (suc n)) [] w)
  predicate_axiom-true p n w at =
      let ts = terms_tree (left_variables (suc n)) in
      let us = terms_tree (right_variables (suc n)) in
      all-times-true (suc n + suc n) (imp (conj (equal_arguments symbols (suc n)) (atom p ts)) (atom p us))
      (λ env. implied-true (conj (equal_arguments symbols (suc n)) (atom p ts)) (atom p us) env
      (λ v there h.
      let both = both-true (equal_arguments symbols (suc n)) (atom p ts) env v there h in
      atom-same p ts us env (arguments-equal n env v there both.0) v there both.1))
      [] w at

  functions-true : (w : W) → IsWorld M w → (k : ℕ) (c : SymbolClass) (n : ℕ) → IsTrue (list_all (is_true_in M names [] w) (congruence_of_function symbols k c n))
  functions-true w at k Function zero = refl
  functions-true w at k Function (suc n) = and_from (is_true_in M names [] w (function_axiom symbols k (suc n))) true (function_axiom-true k n w at) refl
  functions-true w at k Predicate n = refl
  functions-true w at k Equality n = refl
  functions-true w at k Truth n = refl

  predicates-true : (w : W) → IsWorld M w → (k : ℕ) (c : SymbolClass) (n : ℕ) → IsTrue (list_all (is_true_in M names [] w) (congruence_of_predicate symbols k c n))
  predicates-true w at k Predicate zero = refl
  predicates-true w at k Predicate (suc n) = and_from (is_true_in M names [] w (predicate_axiom symbols k (suc n))) true (predicate_axiom-true k n w at) refl
  predicates-true w at k Function n = refl
  predicates-true w at k Equality n = refl
  predicates-true w at k Truth n = refl

  pub equality_axioms-true : (w : W) → IsWorld M w → IsTrue (list_all (is_true_in M names [] w) (equality_axioms symbols))
  equality_axioms-true w at =
      let test = is_true_in M names [] w in
      let fs = for_each (congruence_of_function symbols) 0 symbols in
      let gs = for_each (congruence_of_predicate symbols) 0 symbols in
      and_from (test (reflexivity symbols)) (list_all test (symmetry symbols ∷ transitivity symbols ∷ (fs ++ gs))) (reflexivity-true w at)
      (and_from (test (symmetry symbols)) (list_all test (transitivity symbols ∷ (fs ++ gs))) (symmetry-true w at)
      (and_from (test (transitivity symbols)) (list_all test (fs ++ gs)) (transitivity-true w at)
      (list_all-append test fs gs
      ∙ and_from (list_all test fs) (list_all test gs) (for-each-true test (congruence_of_function symbols) (functions-true w at) 0 symbols)
      (for-each-true test (congruence_of_predicate symbols) (predicates-true w at) 0 symbols))))
