-- Where no function symbol has arguments, what makes the formula false over the constants and eigenvariables is a structure of the problem's
-- setting, of one world, whose elements are these finitely many terms.
use Rattle.std.proofs.Common.{◌≡◌, ◌⊎◌, ℕ, zero, suc, ◌+◌, List, [], ◌∷◌, length, Bool, true, false, not, ◌&&◌, ◌||◌, ◌==◌, IsTrue, if◌then◌else◌, refl, sym, ◌∙◌, ap, subst, inl, inr, arith, slice_get, eqb-true}
use Rattle.std.specs.List.{list_all, list_any}
use Rattle.std.specs.Option.{option_map_or}
use Rattle.std.proofs.lemmas.Bool.{and_parts, or_left, or_right, or_cases, or_parts, cases_Bool, false≢true, true≢false, both_ways, not-true}
use Rattle.calculus.specs.declared.setting.Logic.TheVariants.{Classical}
use Rattle.calculus.specs.declared.setting.Domains.TheVariants.{Constant}
use Rattle.calculus.specs.declared.sign.Sign.TheVariants.{F}
use Rattle.calculus.specs.Syntax.{Symbol, Term, Terms, var, fun, eigen, spare, no_terms, more_terms, Formula, atom, neg, conj, disj, imp, all, ex, box, dia, Problem}
use Rattle.calculus.specs.Ground.{GroundTerm, GroundTerms, g_fun, common, no_g_terms, more_g_terms}
use Rattle.calculus.specs.Equality.{ground_eq}
use Rattle.calculus.specs.Instances.{root_spot, ground_of, grounds_of}
use Rattle.calculus.specs.Models.{value_by, values_by, ForAll, ForSome, HasTruth, RelationFits, DomainsFit, IsModel}
use Rattle.calculus.specs.Skolem.{is_function, is_constant_symbol, has_function}
use Rattle.calculus.specs.Tableaux.{HasClosed}
use Rattle.calculus.proofs.EqualityLaws.{ground_eq-tells}
use Rattle.calculus.proofs.Members.{Among, among-left}
use Rattle.decision_theory.specs.Countermodels.{tree, named_of, nameds_of, truth_named, is_one_of, structure_over, HasFiniteCountermodel}
use Rattle.decision_theory.specs.Ranging.{truth_over, instances_over}
use Rattle.decision_theory.specs.Atoms.{atom_count}
use Rattle.decision_theory.specs.Finite.{is_flat, eigens, constants, terms_of, has_constants_only}
use Rattle.decision_theory.proofs.RangeLaws.{IsRefutedOver}
use Rattle.decision_theory.proofs.FiniteLaws.{decided_flat}

-- ---- its truth

mutual
  same-value : (U : List GroundTerm) (v : ℕ → GroundTerms → Bool) (names : Term → GroundTerm) (env : List GroundTerm) (t : Term) → named_of names env t ≡ value_by (structure_over U v) names env t
  same-value U v names env (var k) = refl
  same-value U v names env (fun f ts) = ap (g_fun f) (same-values U v names env ts)
  same-value U v names env (eigen n) = refl
  same-value U v names env (spare n) = refl

  same-values : (U : List GroundTerm) (v : ℕ → GroundTerms → Bool) (names : Term → GroundTerm) (env : List GroundTerm) (ts : Terms) → nameds_of names env ts ≡ tree (values_by (structure_over U v) names env ts)
  same-values U v names env no_terms = refl
  same-values U v names env (more_terms t ts) = λ i. more_g_terms (same-value U v names env t i) (same-values U v names env ts i)

member-passes : (f : GroundTerm → Bool) (xs : List GroundTerm) (x : GroundTerm) → IsTrue (list_all f xs) → IsTrue (is_one_of xs x) → f x ≡ true
member-passes f [] x h m = absurd (false≢true m)
member-passes f (y ∷ ys) x h m =
    let p = and_parts (f y) (list_all f ys) h in
    elim (or_cases (ground_eq x y) (list_any (ground_eq x) ys) m) [
      | inl e ↦ subst (λ z. IsTrue (f z)) (sym ((ground_eq-tells x y).0 e)) p.0
      | inr k ↦ member-passes f ys x p.1 k
    ]

member-fails : (f : GroundTerm → Bool) (xs : List GroundTerm) (x : GroundTerm) → list_any f xs ≡ false → IsTrue (is_one_of xs x) → f x ≡ false
member-fails f [] x h m = absurd (false≢true m)
member-fails f (y ∷ ys) x h m =
    let p = or_parts (f y) (list_any f ys) h in
    elim (or_cases (ground_eq x y) (list_any (ground_eq x) ys) m) [
      | inl e ↦ subst (λ z. f z ≡ false) (sym ((ground_eq-tells x y).0 e)) p.0
      | inr k ↦ member-fails f ys x p.1 k
    ]

abbrev Failing : (GroundTerm → Bool) → List GroundTerm → Type 0
Failing f xs = (x : GroundTerm) × IsTrue (is_one_of xs x) × (f x ≡ false)

abbrev Passing : (GroundTerm → Bool) → List GroundTerm → Type 0
Passing f xs = (x : GroundTerm) × IsTrue (is_one_of xs x) × (f x ≡ true)

a-failing : (f : GroundTerm → Bool) (xs : List GroundTerm) → list_all f xs ≡ false → Failing f xs
a-failing f [] h = absurd (true≢false h)
a-failing f (y ∷ ys) h = elim (cases_Bool (f y)) [
  | inr e ↦ (y, or_left (ground_eq y y) (list_any (ground_eq y) ys) ((ground_eq-tells y y).1 refl), e)
  | inl e ↦ let r = a-failing f ys (sym (ap (λ b. b && list_all f ys) e) ∙ h) in (r.0, or_right (ground_eq r.0 y) (list_any (ground_eq r.0) ys) r.1, r.2)
]

a-passing : (f : GroundTerm → Bool) (xs : List GroundTerm) → IsTrue (list_any f xs) → Passing f xs
a-passing f [] h = absurd (false≢true h)
a-passing f (y ∷ ys) h = elim (or_cases (f y) (list_any f ys) h) [
  | inl e ↦ (y, or_left (ground_eq y y) (list_any (ground_eq y) ys) ((ground_eq-tells y y).1 refl), e)
  | inr k ↦ let r = a-passing f ys k in (r.0, or_right (ground_eq r.0 y) (list_any (ground_eq r.0) ys) r.1, r.2)
]

each-element : (U : List GroundTerm) (f : GroundTerm → Bool) (b : Bool) → list_all f U ≡ b → ForAll (is_one_of U) f b
each-element U f true e = λ x m. member-passes f U x e m
each-element U f false e = a-failing f U e

some-element : (U : List GroundTerm) (f : GroundTerm → Bool) (b : Bool) → list_any f U ≡ b → ForSome (is_one_of U) f b
some-element U f true e = a-passing f U e
some-element U f false e = λ x m. member-fails f U x e m

each-world : (test : Unit {0} → Bool) (b : Bool) → test tt ≡ b → ForAll {A = Unit {0}} (λ w. true) test b
each-world test true e = λ x m. e
each-world test false e = (tt, refl, e)

some-world : (test : Unit {0} → Bool) (b : Bool) → test tt ≡ b → ForSome {A = Unit {0}} (λ w. true) test b
some-world test true e = (tt, refl, e)
some-world test false e = λ x m. e

has-truth : (U : List GroundTerm) (v : ℕ → GroundTerms → Bool) → HasTruth Classical (structure_over U v)
has-truth U v names (atom p ts) env w = ap (v p) (same-values U v names env ts)
has-truth U v names (neg a) env w = refl
has-truth U v names (conj a b) env w = refl
has-truth U v names (disj a b) env w = refl
has-truth U v names (imp a b) env w = refl
has-truth U v names (all a) env w = each-element U (λ t. truth_named U v names (t ∷ env) a) (list_all (λ t. truth_named U v names (t ∷ env) a) U) refl
has-truth U v names (ex a) env w = some-element U (λ t. truth_named U v names (t ∷ env) a) (list_any (λ t. truth_named U v names (t ∷ env) a) U) refl
has-truth U v names (box a) env w = each-world (λ u. truth_named U v names env a) (truth_named U v names env a) refl
has-truth U v names (dia a) env w = some-world (λ u. truth_named U v names env a) (truth_named U v names env a) refl

abbrev no_names : Term → GroundTerm
no_names t = common 0

mutual
  unnamed : (env : List GroundTerm) (t : Term) → named_of no_names env t ≡ ground_of env t
  unnamed env (var k) = refl
  unnamed env (fun f ts) = ap (g_fun f) (unnameds env ts)
  unnamed env (eigen n) = refl
  unnamed env (spare n) = refl

  unnameds : (env : List GroundTerm) (ts : Terms) → nameds_of no_names env ts ≡ grounds_of env ts
  unnameds env no_terms = refl
  unnameds env (more_terms t ts) = λ i. more_g_terms (unnamed env t i) (unnameds env ts i)

same-truth : (U : List GroundTerm) (v : ℕ → GroundTerms → Bool) (a : Formula) (env : List GroundTerm) → truth_named U v no_names env a ≡ truth_over U v env a
same-truth U v (atom p ts) env = ap (v p) (unnameds env ts)
same-truth U v (neg a) env = ap not (same-truth U v a env)
same-truth U v (conj a b) env = λ i. same-truth U v a env i && same-truth U v b env i
same-truth U v (disj a b) env = λ i. same-truth U v a env i || same-truth U v b env i
same-truth U v (imp a b) env = λ i. not (same-truth U v a env i) || same-truth U v b env i
same-truth U v (all a) env = λ i. list_all (λ t. same-truth U v a (t ∷ env) i) U
same-truth U v (ex a) env = λ i. list_any (λ t. same-truth U v a (t ∷ env) i) U
same-truth U v (box a) env = same-truth U v a env
same-truth U v (dia a) env = same-truth U v a env

-- ---- it is one of the setting

constant-among : (k : ℕ) (ss : List Symbol) (f : ℕ) → option_map_or (λ (s : Symbol). is_function s.class && s.arity == 0) (slice_get ss f) false ≡ true → Among (constants k ss) (g_fun (k + f) no_g_terms)
constant-among k [] f h = absurd (false≢true h)
constant-among k (s ∷ ss) zero h = let e : k ≡ k + 0 = omega arith in subst (λ b. Among (if b then g_fun k no_g_terms ∷ constants (suc k) ss else constants (suc k) ss) (g_fun (k + 0) no_g_terms)) (sym h) (inl (ap (λ n. g_fun n no_g_terms) e))
constant-among k (s ∷ ss) (suc f) h = by (is_constant_symbol s) (let e : suc k + f ≡ k + suc f = omega arith in subst (λ n. Among (constants (suc k) ss) (g_fun n no_g_terms)) e (constant-among (suc k) ss f h))
  where
    by : (b : Bool) → Among (constants (suc k) ss) (g_fun (k + suc f) no_g_terms) → Among (if b then g_fun k no_g_terms ∷ constants (suc k) ss else constants (suc k) ss) (g_fun (k + suc f) no_g_terms)
    by true r = inr r
    by false r = r

no-arguments : (ss : List Symbol) (f n : ℕ) → IsTrue (has_constants_only ss) → option_map_or (λ (s : Symbol). is_function s.class && s.arity == suc n) (slice_get ss f) false ≡ true → ⊥
no-arguments [] f n c h = false≢true h
no-arguments (s ∷ ss) zero n c h =
    let p = and_parts (is_function s.class) (s.arity == suc n) h in
    let q = and_parts (not (is_function s.class) || s.arity == 0) (has_constants_only ss) c in
    elim (or_cases (not (is_function s.class)) (s.arity == 0) q.0) [
      | inl e ↦ both_ways (is_function s.class) (not-true (is_function s.class) e) p.0
      | inr e ↦ let x = eqb-true s.arity 0 e in let y = eqb-true s.arity (suc n) p.1 in omega (arith, x, y)
    ]
no-arguments (s ∷ ss) (suc f) n c h = no-arguments ss f n (and_parts (not (is_function s.class) || s.arity == 0) (has_constants_only ss) c).1 h

among-is : (U : List GroundTerm) (x : GroundTerm) → Among U x → IsTrue (is_one_of U x)
among-is [] x h = elim h [ ]
among-is (y ∷ U) x (inl e) = or_left (ground_eq x y) (list_any (ground_eq x) U) ((ground_eq-tells x y).1 (sym e))
among-is (y ∷ U) x (inr h) = or_right (ground_eq x y) (list_any (ground_eq x) U) (among-is U x h)

keeps : (P : Problem) → IsTrue (has_constants_only P.symbols) → (f : ℕ) (xs : List GroundTerm) → IsTrue (has_function P.symbols f (length xs)) → IsTrue (is_one_of (terms_of P) (g_fun f (tree xs)))
keeps P c f [] h = among-is (terms_of P) (g_fun f no_g_terms) (inr (among-left (constants 0 P.symbols) (eigens root_spot F P.formula) (g_fun f no_g_terms) (let e : 0 + f ≡ f = omega arith in subst (λ n. Among (constants 0 P.symbols) (g_fun n no_g_terms)) e (constant-among 0 P.symbols f h))))
keeps P c f (x ∷ xs) h = absurd (no-arguments P.symbols f (length xs) c h)

pub is-structure : (P : Problem) (v : ℕ → GroundTerms → Bool) → P.setting.logic ≡ Classical → P.setting.domains ≡ Constant → IsTrue (has_constants_only P.symbols) → IsModel P (structure_over (terms_of P) v)
is-structure P v e d c = record {
  root = refl;
  successors = λ w u a b. refl;
  inhabited = λ w a. (common 0, among-is (terms_of P) (common 0) (inl refl));
  relation = subst (λ l. RelationFits l (structure_over (terms_of P) v)) (sym e) ((λ w a. refl), (λ w u a b. refl));
  domains = subst (λ x. DomainsFit x (structure_over (terms_of P) v)) (sym d) (λ w u x a b h. h);
  functions = λ f xs h w a b. keeps P c f xs h;
  truth = subst (λ l. HasTruth l (structure_over (terms_of P) v)) (sym e) (has-truth (terms_of P) v);
}

-- ---- the decision

pub countermodel_where_refuted : (P : Problem) → P.setting.logic ≡ Classical → P.setting.domains ≡ Constant → IsTrue (has_constants_only P.symbols) → IsRefutedOver (terms_of P) P → HasFiniteCountermodel P
countermodel_where_refuted P e d c r = record { values = r.values; fits = is-structure P r.values e d c; false_there = same-truth (terms_of P) r.values P.formula [] ∙ r.false_there }

pub decided_finite : (P : Problem) → P.setting.logic ≡ Classical → P.setting.domains ≡ Constant → IsTrue (is_flat F P.formula) → IsTrue (has_constants_only P.symbols) → HasClosed P (atom_count (instances_over (terms_of P) P)) ⊎ HasFiniteCountermodel P
decided_finite P e d flat c = elim (decided_flat P e d flat) [
  | inl h ↦ inl h
  | inr r ↦ inr (countermodel_where_refuted P e d c r)
]
