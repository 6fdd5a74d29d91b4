-- Propositional logic is decided: either a tableau is closed within the number of the formula's propositions, or there are truth values at
-- which it is false.
use Rattle.std.proofs.Common.{◌≡◌, ◌⊎◌, ℕ, ◌≤◌, List, [], ◌∷◌, map, Bool, true, false, ◌==◌, IsTrue, if◌then◌else◌, refl, ap, subst, inl, inr, eqb-true}
use Rattle.std.specs.List.{AllByRecursion, list_all}
use Rattle.std.proofs.lemmas.Bool.{and_parts, and_from, or_cases, cases_Bool, false≢true, both_ways}
use Rattle.std.proofs.lemmas.List.{length-map}
use Rattle.plain_laws.proofs.Every.{each-append}
use Rattle.calculus.specs.declared.sign.Sign.{Sign}
use Rattle.calculus.specs.declared.sign.Sign.TheVariants.{T, F}
use Rattle.calculus.specs.declared.sign.Side.TheVariants.{Left, Right}
use Rattle.calculus.specs.Syntax.{Formula, atom, neg, conj, disj, imp, all, ex, box, dia, Problem}
use Rattle.calculus.specs.Ground.{GroundLiteral}
use Rattle.calculus.specs.Kinds.{other}
use Rattle.calculus.specs.Equality.{contains}
use Rattle.calculus.specs.Instances.{ClauseInstance}
use Rattle.calculus.specs.ComputedInstances.{is_allowed_instance}
use Rattle.calculus.specs.Propositional.{is_propositional, IsPropositional, truth_value, IsTautology}
use Rattle.calculus.specs.Tableaux.{has_unbounded_strings, HasClosed}
use Rattle.calculus.proofs.AnswerLaws.{closed-mono}
use Rattle.calculus.proofs.Members.{Among}
use Rattle.calculus.proofs.WalkLaws.{Hits}
use Rattle.matrix_theory.specs.Spanning.{has_way, IsSpanning}
use Rattle.matrix_theory.proofs.WayLaws.{way_from}
use Rattle.decision_theory.proofs.PropositionalLaws.{Pick, literal_of, on_side, either, both, picks, all_mapped, all_before, all_both, IsGivenBy, all-given, instance_by, value_by, hit-tells, IsHitByTest, all_says, allowed_by}
use Rattle.decision_theory.specs.Decision.{with_one, with_all, propositions, proposition_count, IsRefuted}
use Rattle.decision_theory.proofs.PruningLaws.{IsOf, HasOnly}
use Rattle.decision_theory.proofs.AtomLaws.{closed_where_spanning_over}

-- ---- the propositions of a formula

among-one : (x : ℕ) (ys : List ℕ) → Among (with_one x ys) x
among-one x ys = by (contains ys x) refl
  where
    there : (zs : List ℕ) → IsTrue (contains zs x) → Among zs x
    there [] h = absurd (false≢true h)
    there (z ∷ zs) h = elim (or_cases (z == x) (contains zs x) h) [
      | inl e ↦ inl (eqb-true z x e)
      | inr k ↦ inr (there zs k)
    ]

    by : (b : Bool) → contains ys x ≡ b → Among (if b then ys else x ∷ ys) x
    by true e = there ys e
    by false e = inl refl

among-kept : (x : ℕ) (ys : List ℕ) (y : ℕ) → Among ys y → Among (with_one x ys) y
among-kept x ys y h = by (contains ys x)
  where
    by : (b : Bool) → Among (if b then ys else x ∷ ys) y
    by true = h
    by false = inr h

pub among-first : (xs ys : List ℕ) (x : ℕ) → Among xs x → Among (with_all xs ys) x
among-first [] ys x h = elim h [ ]
among-first (z ∷ xs) ys x (inl e) = subst (Among (with_one z (with_all xs ys))) e (among-one z (with_all xs ys))
among-first (z ∷ xs) ys x (inr h) = among-kept z (with_all xs ys) x (among-first xs ys x h)

pub among-second : (xs ys : List ℕ) (y : ℕ) → Among ys y → Among (with_all xs ys) y
among-second [] ys y h = h
among-second (z ∷ xs) ys y h = among-kept z (with_all xs ys) y (among-second xs ys y h)

-- ---- the literals of the picks are of these propositions

abbrev pub atoms_of : List ℕ → List GroundLiteral
atoms_of ps = map (literal_of F) ps

abbrev IsPickOf : List ℕ → Pick → Type 0
IsPickOf ps x = AllByRecursion (IsOf (atoms_of ps)) x.literals

abbrev Holds : List ℕ → Formula → Type 0
Holds ps f = (p : ℕ) → Among (propositions f) p → Among ps p

atom-among : (ps : List ℕ) (p : ℕ) → Among ps p → Among (atoms_of ps) (literal_of F p)
atom-among [] p h = elim h [ ]
atom-among (q ∷ ps) p (inl e) = inl (ap (literal_of F) e)
atom-among (q ∷ ps) p (inr h) = inr (atom-among ps p h)

either-of : (ps : List ℕ) (xs ys : List Pick) → AllByRecursion (IsPickOf ps) xs → AllByRecursion (IsPickOf ps) ys → AllByRecursion (IsPickOf ps) (either xs ys)
either-of ps xs ys h k =
    each-append (IsPickOf ps) (map (on_side Left) xs) (map (on_side Right) ys)
    (all_mapped (IsPickOf ps) (IsPickOf ps) (on_side Left) xs (λ x q. q) h)
    (all_mapped (IsPickOf ps) (IsPickOf ps) (on_side Right) ys (λ y q. q) k)

both-of : (ps : List ℕ) (xs ys : List Pick) → AllByRecursion (IsPickOf ps) xs → AllByRecursion (IsPickOf ps) ys → AllByRecursion (IsPickOf ps) (both xs ys)
both-of ps xs ys h k = all_both (IsPickOf ps) (IsPickOf ps) (IsPickOf ps) xs ys (λ x y. each-append (IsOf (atoms_of ps)) x.literals y.literals) h k

pub picks-of : (ps : List ℕ) (f : Formula) (s : Sign) → IsTrue (is_propositional f) → Holds ps f → AllByRecursion (IsPickOf ps) (picks f s)
picks-of ps (atom p ts) s h k = ((atom-among ps p (k p (inl refl)), tt), tt)
picks-of ps (neg a) s h k = picks-of ps a (other s) h k
picks-of ps (conj a b) T h k = let g = and_parts (is_propositional a) (is_propositional b) h in
    either-of ps (picks a T) (picks b T) (picks-of ps a T g.0 (λ p q. k p (among-first (propositions a) (propositions b) p q))) (picks-of ps b T g.1 (λ p q. k p (among-second (propositions a) (propositions b) p q)))
picks-of ps (conj a b) F h k = let g = and_parts (is_propositional a) (is_propositional b) h in
    both-of ps (picks a F) (picks b F) (picks-of ps a F g.0 (λ p q. k p (among-first (propositions a) (propositions b) p q))) (picks-of ps b F g.1 (λ p q. k p (among-second (propositions a) (propositions b) p q)))
picks-of ps (disj a b) T h k = let g = and_parts (is_propositional a) (is_propositional b) h in
    both-of ps (picks a T) (picks b T) (picks-of ps a T g.0 (λ p q. k p (among-first (propositions a) (propositions b) p q))) (picks-of ps b T g.1 (λ p q. k p (among-second (propositions a) (propositions b) p q)))
picks-of ps (disj a b) F h k = let g = and_parts (is_propositional a) (is_propositional b) h in
    either-of ps (picks a F) (picks b F) (picks-of ps a F g.0 (λ p q. k p (among-first (propositions a) (propositions b) p q))) (picks-of ps b F g.1 (λ p q. k p (among-second (propositions a) (propositions b) p q)))
picks-of ps (imp a b) T h k = let g = and_parts (is_propositional a) (is_propositional b) h in
    both-of ps (picks a F) (picks b T) (picks-of ps a F g.0 (λ p q. k p (among-first (propositions a) (propositions b) p q))) (picks-of ps b T g.1 (λ p q. k p (among-second (propositions a) (propositions b) p q)))
picks-of ps (imp a b) F h k = let g = and_parts (is_propositional a) (is_propositional b) h in
    either-of ps (picks a T) (picks b F) (picks-of ps a T g.0 (λ p q. k p (among-first (propositions a) (propositions b) p q))) (picks-of ps b F g.1 (λ p q. k p (among-second (propositions a) (propositions b) p q)))
picks-of ps (all a) s h k = absurd (false≢true h)
picks-of ps (ex a) s h k = absurd (false≢true h)
picks-of ps (box a) s h k = absurd (false≢true h)
picks-of ps (dia a) s h k = absurd (false≢true h)

-- ---- the decision

abbrev pub instances_of_picks : Problem → List ClauseInstance
instances_of_picks P = map instance_by (picks P.formula F)

picks-allowed : (P : Problem) → IsPropositional P → (xs : List Pick) → AllByRecursion (IsGivenBy P.formula F) xs → IsTrue (list_all (is_allowed_instance P) (map instance_by xs))
picks-allowed P h [] g = refl
picks-allowed P h (x ∷ xs) g = and_from (is_allowed_instance P (instance_by x)) (list_all (is_allowed_instance P) (map instance_by xs)) (allowed_by P h x g.0) (picks-allowed P h xs g.1)

-- where no way goes through the picks, a tableau is closed within the number of propositions
closed_where_no_way : (P : Problem) → IsPropositional P → has_way [] (instances_of_picks P) ≡ false → HasClosed P (proposition_count P.formula)
closed_where_no_way P h none =
    let ps = propositions P.formula in
    let spanning : IsSpanning P (instances_of_picks P) = record { allowed = picks-allowed P h (picks P.formula F) (all-given P.formula F h.formula); spanning = none } in
    let only = all_mapped (IsPickOf ps) (HasOnly (atoms_of ps)) instance_by (picks P.formula F) (λ x q. q) (picks-of ps P.formula F h.formula (λ p q. q)) in
    subst (HasClosed P) (length-map ps (literal_of F)) (closed_where_spanning_over P (atoms_of ps) (instances_of_picks P) (ap has_unbounded_strings h.classical) spanning only)

-- a way through the picks is truth values
refuted_by_way : (P : Problem) → IsPropositional P → IsTrue (has_way [] (instances_of_picks P)) → IsRefuted P
refuted_by_way P h e =
    let w = way_from [] (instances_of_picks P) tt e in
    record {
      values = value_by w.has;
      false_there = all_says w.has w.apart P.formula F h.formula (all_before (IsHitByTest w.has) (Hits (λ l. IsTrue (w.has l))) instance_by (picks P.formula F) (λ x s. hit-tells w.has x.literals s) w.through);
    }

pub decided : (P : Problem) → IsPropositional P → HasClosed P (proposition_count P.formula) ⊎ IsRefuted P
decided P h = elim (cases_Bool (has_way [] (instances_of_picks P))) [
  | inl e ↦ inr (refuted_by_way P h e)
  | inr f ↦ inl (closed_where_no_way P h f)
]

-- a tautology has a tableau closed within the number of its propositions
pub tautology_closes_within : (P : Problem) → IsPropositional P → IsTautology P → HasClosed P (proposition_count P.formula)
tautology_closes_within P h t = elim (decided P h) [
  | inl c ↦ c
  | inr r ↦ absurd (both_ways (truth_value r.values P.formula) r.false_there (t.at_each r.values))
]

-- ---- what it means that no tableau is closed

-- where none is closed within this number or a greater one, the formula is false at these truth values
pub refuted_where_none : (P : Problem) → IsPropositional P → (m : ℕ) → proposition_count P.formula ≤ m → ¬ HasClosed P m → IsRefuted P
refuted_where_none P h m enough none = elim (decided P h) [
  | inl c ↦ absurd (none (closed-mono P (proposition_count P.formula) m enough c))
  | inr r ↦ r
]

-- where none is closed within any limit, it is so too
pub refuted_where_never : (P : Problem) → IsPropositional P → ((e : ℕ) → ¬ HasClosed P e) → IsRefuted P
refuted_where_never P h never = elim (decided P h) [
  | inl c ↦ absurd (never (proposition_count P.formula) c)
  | inr r ↦ r
]
