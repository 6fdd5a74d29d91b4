-- The bound on strings restricts nothing: in each logic, where instances span, a tableau is closed within some path limit.
use Rattle.std.proofs.Common.{◌≡◌, ◌↔◌, ℕ, suc, ◌+◌, ◌≤◌, List, [], ◌∷◌, ◌++◌, map, length, Bool, true, not, ◌&&◌, ◌==◌, IsTrue, refl, sym, ◌∙◌, ap, subst, inl, inr, arith, length-append}
use Rattle.std.specs.List.{AllByRecursion, list_all, list_any}
use Rattle.std.specs.Option.{option_map_or}
use Rattle.std.proofs.lemmas.Bool.{and_parts, and_from, cases_Bool, or_left, or_right, or_cases, false≢true, false_from_ne_true, true_from_ne_false, not-true, not_from_false, both_ways, le-leb}
use Rattle.std.proofs.lemmas.List.Sums.{sum_by-cons}
use Rattle.plain_laws.proofs.Every.{each-append}
use Rattle.calculus.specs.declared.sign.Sign.TheVariants.{F}
use Rattle.calculus.specs.Syntax.{Problem}
use Rattle.calculus.specs.Ground.{GroundTerm, GroundMark, Value, term, steps, marks_list, marks_tree, GroundLiteral}
use Rattle.calculus.specs.Equality.{sign_eq, grounds_eq, label_eq, same_atom, mark_eq, ground_eq}
use Rattle.calculus.specs.Lists.{marks_list-marks_tree}
use Rattle.calculus.specs.Skolem.{is_admitted_value, is_admitted_mark}
use Rattle.calculus.specs.Instances.{Share, root_spot, Gives, IsInstance, IsAllowedInstance, gamma_is_allowed, ClauseInstance, clause_instance}
use Rattle.calculus.specs.ComputedInstances.{Part, is_allowed_instance, modal_steps}
use Rattle.calculus.specs.Tableaux.{instances, are_complementary, total_steps, has_unbounded_strings, has_at_most, strings_within, HasClosed}
use Rattle.calculus.proofs.AnswerLaws.{closed-mono}
use Rattle.calculus.proofs.EqualityLaws.{ground_eq-tells, grounds_eq-tells, label_eq-tells, mark_eq-tells}
use Rattle.calculus.proofs.InstanceLaws.{root-stands}
use Rattle.calculus.proofs.CasesLaws.{is_allowed_instance-exact, instance_of-by_cases}
use Rattle.calculus.proofs.Members.{Among, among-left, among-right}
use Rattle.matrix_theory.specs.Spanning.{agrees, has_way, IsSpanning}
use Rattle.matrix_theory.proofs.CompletenessLaws.{within_length, closed_where_spanning, spanning_where_closed}
use Rattle.string_theory.proofs.Folding.{PiStep, Names, is_step_at, has_eigen, folded, terms_by, value_by, new_mark_of, new_label, new_literal}
use Rattle.string_theory.proofs.StepNames.{steps_of, eigens_of}
use Rattle.string_theory.proofs.FoldingLaws.{folded-short}
use Rattle.string_theory.proofs.BoundLaws.{Shortened, closed_where_shortened}
use Rattle.string_theory.proofs.SpotChanges.{Placed}
use Rattle.string_theory.proofs.InstanceChanges.{AreChanged, HomeIsKept, MarkIsAdmitted, is_known, Found, gives-change}
use Rattle.string_theory.proofs.DepthLaws.{new_mark-fixed}
use Rattle.string_theory.proofs.AdmittedLaws.{Ready, AreAdmitted, value-admitted, new_mark-admitted}
use Rattle.string_theory.proofs.AllowedLaws.{HomesAreKept, gammas-allowed, steps-counted}

-- ---- the instances at hand and their names

abbrev IsGiven : Problem → ClauseInstance → Type 0
IsGiven P i = (x : Share) × IsAllowedInstance P x × (i ≡ clause_instance x)

abbrev Givens : Problem → List ClauseInstance → Type 0
Givens P is = AllByRecursion (IsGiven P) is

givens_of : (P : Problem) (is : List ClauseInstance) → IsTrue (list_all (is_allowed_instance P) is) → Givens P is
givens_of P [] h = tt
givens_of P (i ∷ is) h = let p = and_parts (is_allowed_instance P i) (list_all (is_allowed_instance P) is) h in ((is_allowed_instance-exact P i).0 p.0, givens_of P is p.1)

abbrev their_steps : (P : Problem) (i : ClauseInstance) → IsGiven P i → List PiStep
their_steps P i h = steps_of h.1.instance.given

abbrev their_eigens : (P : Problem) (i : ClauseInstance) → IsGiven P i → List GroundTerm
their_eigens P i h = eigens_of h.1.instance.given

abbrev all_steps : (P : Problem) (is : List ClauseInstance) → Givens P is → List PiStep
all_steps P [] h = []
all_steps P (i ∷ is) h = their_steps P i h.0 ++ all_steps P is h.1

abbrev all_eigens : (P : Problem) (is : List ClauseInstance) → Givens P is → List GroundTerm
all_eigens P [] h = []
all_eigens P (i ∷ is) h = their_eigens P i h.0 ++ all_eigens P is h.1

abbrev names_of : (P : Problem) (is : List ClauseInstance) → Givens P is → Names
names_of P is h = record { pi_steps = all_steps P is h; eigens = all_eigens P is h }

step-known : (es : List PiStep) (e : PiStep) → Among es e → IsTrue (list_any (is_step_at e.before e.mark) es)
step-known [] e h = absurd h
step-known (x ∷ es) e (inl q) = or_left (is_step_at e.before e.mark x) (list_any (is_step_at e.before e.mark) es) (and_from (label_eq x.before e.before) (mark_eq x.mark e.mark) ((label_eq-tells x.before e.before).1 (ap (λ (k : PiStep). k.before) q)) ((mark_eq-tells x.mark e.mark).1 (ap (λ (k : PiStep). k.mark) q)))
step-known (x ∷ es) e (inr h) = or_right (is_step_at e.before e.mark x) (list_any (is_step_at e.before e.mark) es) (step-known es e h)

eigen-known : (ts : List GroundTerm) (t : GroundTerm) → Among ts t → IsTrue (list_any (ground_eq t) ts)
eigen-known [] t h = absurd h
eigen-known (x ∷ ts) t (inl q) = or_left (ground_eq t x) (list_any (ground_eq t) ts) ((ground_eq-tells t x).1 (sym q))
eigen-known (x ∷ ts) t (inr h) = or_right (ground_eq t x) (list_any (ground_eq t) ts) (eigen-known ts t h)

test-all : {A : Type 0} (p : A → Bool) (xs : List A) → ((x : A) → Among xs x → IsTrue (p x)) → IsTrue (list_all p xs)
test-all p [] h = refl
test-all p (x ∷ xs) h = and_from (p x) (list_all p xs) (h x (inl refl)) (test-all p xs (λ y k. h y (inr k)))

-- ---- each instance changed

abbrev Changed : (P : Problem) (K : Names) (i : ClauseInstance) → IsGiven P i → Type 0
Changed P K i h = Found P K (new_mark_of P K) (Gives P.setting.logic root_spot F P.formula) h.0 (their_eigens P i h) (their_steps P i h)

root-placed : (P : Problem) (K : Names) (f : GroundMark → GroundMark) → Placed P K f [] [] root_spot F P.formula
root-placed P K f = record { stands = root-stands P; moved = root-stands P; contexts = λ rest. refl; as_many = refl; proper = refl }

changed : (P : Problem) → has_unbounded_strings P.setting.logic ≡ true → (K : Names) (i : ClauseInstance) (h : IsGiven P i) → ((e : PiStep) → Among (their_steps P i h) e → IsTrue (is_known K e)) → ((t : GroundTerm) → Among (their_eigens P i h) t → IsTrue (has_eigen K t)) → Changed P K i h
changed P free K i h a b = gives-change P.setting.logic P.setting.domains P.formula P.symbols K (new_mark_of P K) (record { fixed = new_mark-fixed P free K; free = free }) [] [] root_spot F P.formula h.0 h.1.instance.given (root-placed P K (new_mark_of P K)) h.1.instance.admitted (test-all (is_known K) (their_steps P i h) a) (test-all (has_eigen K) (their_eigens P i h) b)

abbrev AllChanged : (P : Problem) (K : Names) (is : List ClauseInstance) → Givens P is → Type 0
AllChanged P K [] h = Unit {0}
AllChanged P K (i ∷ is) h = Changed P K i h.0 × AllChanged P K is h.1

all-changed : (P : Problem) → has_unbounded_strings P.setting.logic ≡ true → (K : Names) (is : List ClauseInstance) (h : Givens P is) → ((e : PiStep) → Among (all_steps P is h) e → IsTrue (is_known K e)) → ((t : GroundTerm) → Among (all_eigens P is h) t → IsTrue (has_eigen K t)) → AllChanged P K is h
all-changed P free K [] h a b = tt
all-changed P free K (i ∷ is) h a b = (
  changed P free K i h.0 (λ e k. a e (among-left (their_steps P i h.0) (all_steps P is h.1) e k)) (λ t k. b t (among-left (their_eigens P i h.0) (all_eigens P is h.1) t k)),
  all-changed P free K is h.1 (λ e k. a e (among-right (their_steps P i h.0) (all_steps P is h.1) e k)) (λ t k. b t (among-right (their_eigens P i h.0) (all_eigens P is h.1) t k)),
)

homes-kept : (P : Problem) (K : Names) (is : List ClauseInstance) (h : Givens P is) → AllChanged P K is h → AllByRecursion (HomeIsKept P K (new_mark_of P K)) (all_eigens P is h)
homes-kept P K [] h c = tt
homes-kept P K (i ∷ is) h c = each-append (HomeIsKept P K (new_mark_of P K)) (their_eigens P i h.0) (all_eigens P is h.1) c.0.1 (homes-kept P K is h.1 c.1)

marks-admitted : (P : Problem) (K : Names) (is : List ClauseInstance) (h : Givens P is) → AllChanged P K is h → AllByRecursion (MarkIsAdmitted P) (all_steps P is h)
marks-admitted P K [] h c = tt
marks-admitted P K (i ∷ is) h c = each-append (MarkIsAdmitted P) (their_steps P i h.0) (all_steps P is h.1) c.0.2 (marks-admitted P K is h.1 c.1)

known-admitted : (P : Problem) (K : Names) → AllByRecursion (MarkIsAdmitted P) K.pi_steps → AreAdmitted P K
known-admitted P K h u m e = by K.pi_steps h e
  where
    by : (es : List PiStep) → AllByRecursion (MarkIsAdmitted P) es → IsTrue (list_any (is_step_at u m) es) → IsTrue (is_admitted_mark P m)
    by [] h e = absurd (false≢true e)
    by (x ∷ es) h e = elim (or_cases (is_step_at u m x) (list_any (is_step_at u m) es) e) [
      | inl k ↦ subst (λ n. IsTrue (is_admitted_mark P n)) ((mark_eq-tells x.mark m).0 (and_parts (label_eq x.before u) (mark_eq x.mark m) k).1) h.0
      | inr k ↦ by es h.1 k
    ]

-- ---- the changed instances are allowed, and their strings are short

values-admitted : (P : Problem) (K : Names) (f : GroundMark → GroundMark) → Ready P K f → (vs ws : List Value) → AreChanged P K f vs ws → IsTrue (list_all (is_admitted_value P) vs) → IsTrue (list_all (is_admitted_value P) ws)
values-admitted P K f r [] [] c h = refl
values-admitted P K f r [] (w ∷ ws) c h = absurd c
values-admitted P K f r (v ∷ vs) [] c h = absurd c
values-admitted P K f r (v ∷ vs) (w ∷ ws) c h =
    let parts = and_parts (is_admitted_value P v) (list_all (is_admitted_value P) vs) h in
    and_from (is_admitted_value P w) (list_all (is_admitted_value P) ws) (subst (λ x. IsTrue (is_admitted_value P x)) (sym c.0.1) (value-admitted P K f r c.0.0 v parts.0)) (values-admitted P K f r vs ws c.1 parts.1)

value-short : (P : Problem) (K : Names) (f : GroundMark → GroundMark) (n : ℕ) → length K.pi_steps ≤ n → (u : List GroundMark) (v : Value) → IsTrue (has_at_most n (value_by P K f u v))
value-short P K f n h u (term t) = refl
value-short P K f n h u (steps w) =
    let a = folded-short K f u (marks_list w) in
    let b : length (marks_list (marks_tree (folded K f u (marks_list w)))) ≡ length (folded K f u (marks_list w)) = ap length (marks_list-marks_tree (folded K f u (marks_list w))) in
    le-leb _ n (omega (arith, a, b, h))

values-short : (P : Problem) (K : Names) (f : GroundMark → GroundMark) (n : ℕ) → length K.pi_steps ≤ n → (vs ws : List Value) → AreChanged P K f vs ws → IsTrue (list_all (has_at_most n) ws)
values-short P K f n h [] [] c = refl
values-short P K f n h [] (w ∷ ws) c = absurd c
values-short P K f n h (v ∷ vs) [] c = absurd c
values-short P K f n h (v ∷ vs) (w ∷ ws) c = and_from (has_at_most n w) (list_all (has_at_most n) ws) (subst (λ x. IsTrue (has_at_most n x)) (sym c.0.1) (value-short P K f n h c.0.0 v)) (values-short P K f n h vs ws c.1)

changed-instance : (P : Problem) (K : Names) → Ready P K (new_mark_of P K) → HomesAreKept P K (new_mark_of P K) → (i : ClauseInstance) (h : IsGiven P i) (c : Changed P K i h) → IsAllowedInstance P c.0.share
changed-instance P K r homes i h c = record {
  instance = record { admitted = values-admitted P K (new_mark_of P K) r h.0.values c.0.share.values c.0.values h.1.instance.admitted; given = c.0.given };
  allowed = subst (λ gs. IsTrue (list_all (gamma_is_allowed P) gs)) (sym c.0.gammas) (gammas-allowed P K (new_mark_of P K) homes h.0.gammas h.1.allowed);
}

abbrev those : (P : Problem) (K : Names) (is : List ClauseInstance) (h : Givens P is) → AllChanged P K is h → List ClauseInstance
those P K [] h c = []
those P K (i ∷ is) h c = clause_instance c.0.0.share ∷ those P K is h.1 c.1

those-allowed : (P : Problem) (K : Names) → Ready P K (new_mark_of P K) → HomesAreKept P K (new_mark_of P K) → (is : List ClauseInstance) (h : Givens P is) (c : AllChanged P K is h) → IsTrue (list_all (is_allowed_instance P) (those P K is h c))
those-allowed P K r homes [] h c = refl
those-allowed P K r homes (i ∷ is) h c =
    let j = clause_instance c.0.0.share in
    and_from (is_allowed_instance P j) (list_all (is_allowed_instance P) (those P K is h.1 c.1))
    ((is_allowed_instance-exact P j).1 (c.0.0.share, changed-instance P K r homes i h.0 c.0, refl))
    (those-allowed P K r homes is h.1 c.1)

those-short : (P : Problem) (K : Names) (n : ℕ) → length K.pi_steps ≤ n → (is : List ClauseInstance) (h : Givens P is) (c : AllChanged P K is h) → IsTrue (list_all (strings_within n) (those P K is h c))
those-short P K n m [] h c = refl
those-short P K n m (i ∷ is) h c = and_from (strings_within n (clause_instance c.0.0.share)) (list_all (strings_within n) (those P K is h.1 c.1)) (values-short P K (new_mark_of P K) n m h.0.0.values c.0.0.share.values c.0.0.values) (those-short P K n m is h.1 c.1)

those-many : (P : Problem) (K : Names) (is : List ClauseInstance) (h : Givens P is) (c : AllChanged P K is h) → length (those P K is h c) ≡ length is
those-many P K [] h c = refl
those-many P K (i ∷ is) h c = ap (λ n. suc n) (those-many P K is h.1 c.1)

-- ---- they have at least as many steps as there are pi steps at hand

share-steps : (P : Problem) (x : Share) → IsInstance P x → modal_steps P (clause_instance x) ≡ x.nus + x.pis
share-steps P x h = ap (λ o. option_map_or (λ (y : Part). y.nus + y.pis) o 0) (instance_of-by_cases P x h)

enough-steps : (P : Problem) (K : Names) → Ready P K (new_mark_of P K) → HomesAreKept P K (new_mark_of P K) → (is : List ClauseInstance) (h : Givens P is) (c : AllChanged P K is h) → length (all_steps P is h) ≤ total_steps P (those P K is h c)
enough-steps P K r homes [] h c = omega arith
enough-steps P K r homes (i ∷ is) h c =
    let rest = enough-steps P K r homes is h.1 c.1 in
    let j = clause_instance c.0.0.share in
    let a = length-append (their_steps P i h.0) (all_steps P is h.1) in
    let b = steps-counted P.setting.logic root_spot F P.formula h.0.0 h.0.1.instance.given in
    let d = share-steps P c.0.0.share (changed-instance P K r homes i h.0 c.0).instance in
    let e = c.0.0.pis in
    let g = sum_by-cons (modal_steps P) j (those P K is h.1 c.1) in
    omega (arith, rest, a, b, d, e, g)

-- ---- a way through the changed instances is one through the others

complement-kept : (P : Problem) (K : Names) (f : GroundMark → GroundMark) (a b : GroundLiteral) → IsTrue (are_complementary a b) → IsTrue (are_complementary (new_literal P K f a) (new_literal P K f b))
complement-kept P K f a b h =
    let outer = and_parts (not (sign_eq a.sign b.sign)) (same_atom a b) h in
    let atoms = and_parts (a.symbol == b.symbol && grounds_eq a.args b.args) (label_eq a.label b.label) outer.1 in
    let inner = and_parts (a.symbol == b.symbol) (grounds_eq a.args b.args) atoms.0 in
    let x = new_literal P K f a in
    let y = new_literal P K f b in
    and_from (not (sign_eq a.sign b.sign)) (same_atom x y) outer.0
    (and_from (a.symbol == b.symbol && grounds_eq x.args y.args) (label_eq x.label y.label)
    (and_from (a.symbol == b.symbol) (grounds_eq x.args y.args) inner.0 ((grounds_eq-tells x.args y.args).1 (ap (terms_by P K f) ((grounds_eq-tells a.args b.args).0 inner.1))))
    ((label_eq-tells x.label y.label).1 (ap (new_label K f) ((label_eq-tells a.label b.label).0 atoms.1))))

agrees-back : (P : Problem) (K : Names) (f : GroundMark → GroundMark) (k : GroundLiteral) (p : List GroundLiteral) → IsTrue (agrees (new_literal P K f k) (map (new_literal P K f) p)) → IsTrue (agrees k p)
agrees-back P K f k p h = not_from_false (list_any (are_complementary k) p) (false_from_ne_true (list_any (are_complementary k) p) (λ e. both_ways (list_any (are_complementary (new_literal P K f k)) (map (new_literal P K f) p)) (not-true (list_any (are_complementary (new_literal P K f k)) (map (new_literal P K f) p)) h) (on p e)))
  where
    on : (p : List GroundLiteral) → IsTrue (list_any (are_complementary k) p) → IsTrue (list_any (are_complementary (new_literal P K f k)) (map (new_literal P K f) p))
    on [] e = absurd (false≢true e)
    on (x ∷ p) e = elim (or_cases (are_complementary k x) (list_any (are_complementary k) p) e) [
      | inl q ↦ or_left (are_complementary (new_literal P K f k) (new_literal P K f x)) (list_any (are_complementary (new_literal P K f k)) (map (new_literal P K f) p)) (complement-kept P K f k x q)
      | inr q ↦ or_right (are_complementary (new_literal P K f k) (new_literal P K f x)) (list_any (are_complementary (new_literal P K f k)) (map (new_literal P K f) p)) (on p q)
    ]

any-map : {A B : Type 0} (h : A → B) (p : B → Bool) (q : A → Bool) → ((x : A) → IsTrue (p (h x)) → IsTrue (q x)) → (xs : List A) → IsTrue (list_any p (map h xs)) → IsTrue (list_any q xs)
any-map h p q g [] e = absurd (false≢true e)
any-map h p q g (x ∷ xs) e = elim (or_cases (p (h x)) (list_any p (map h xs)) e) [
  | inl k ↦ or_left (q x) (list_any q xs) (g x k)
  | inr k ↦ or_right (q x) (list_any q xs) (any-map h p q g xs k)
]

way-back : (P : Problem) (K : Names) (is : List ClauseInstance) (h : Givens P is) (c : AllChanged P K is h) (p : List GroundLiteral) → IsTrue (has_way (map (new_literal P K (new_mark_of P K)) p) (those P K is h c)) → IsTrue (has_way p is)
way-back P K [] h c p e = refl
way-back P K (i ∷ is) h c p e =
    let N : GroundLiteral → GroundLiteral = new_literal P K (new_mark_of P K) in
    let js = those P K is h.1 c.1 in
    let mine : c.0.0.share.literals ≡ map N i.literals = c.0.0.literals ∙ ap (λ (k : ClauseInstance). map N k.literals) (sym h.0.2) in
    any-map N (λ k. agrees k (map N p) && has_way (k ∷ map N p) js) (λ k. agrees k p && has_way (k ∷ p) is)
    (λ k g. let parts = and_parts (agrees (N k) (map N p)) (has_way (N k ∷ map N p) js) g in and_from (agrees k p) (has_way (k ∷ p) is) (agrees-back P K (new_mark_of P K) k p parts.0) (way-back P K is h.1 c.1 (k ∷ p) parts.1))
    i.literals (subst (λ ls. IsTrue (list_any (λ k. agrees k (map N p) && has_way (k ∷ map N p) js) ls)) mine e)

-- ---- the whole

pub shortened : (P : Problem) → has_unbounded_strings P.setting.logic ≡ true → (is : List ClauseInstance) → IsSpanning P is → Shortened P is
shortened P free is s =
    let h = givens_of P is s.allowed in
    let K = names_of P is h in
    let c = all-changed P free K is h (λ e k. step-known (all_steps P is h) e k) (λ t k. eigen-known (all_eigens P is h) t k) in
    let homes = homes-kept P K is h c in
    let r : Ready P K (new_mark_of P K) = record { free = free; marks = new_mark-admitted P free K (known-admitted P K (marks-admitted P K is h c)) } in
    record {
      those = those P K is h c;
      spanning = record { allowed = those-allowed P K r homes is h c; spanning = false_from_ne_true (has_way [] (those P K is h c)) (λ e. both_ways (has_way [] is) s.spanning (way-back P K is h c [] e)) };
      as_many = those-many P K is h c;
      short = those-short P K (total_steps P (those P K is h c)) (enough-steps P K r homes is h c) is h c;
    }

-- in each of the six logics: a tableau is closed within the number of instances that span, whatever the length of their strings
pub closed_where_instances_span : (P : Problem) (is : List ClauseInstance) → IsSpanning P is → HasClosed P (length is)
closed_where_instances_span P is s = elim (cases_Bool (has_unbounded_strings P.setting.logic)) [
  | inl free ↦ closed_where_shortened P (shortened P free) (length is) is (within_length is) s
  | inr bounded ↦ closed_where_spanning P is bounded s
]

-- there is a closed tableau exactly where some instances span
pub closed_exactly_where_spanning : (P : Problem) → ((d : ℕ) × HasClosed P d) ↔ ((is : List ClauseInstance) × IsSpanning P is)
closed_exactly_where_spanning P = (λ h. (instances h.1.tableau, spanning_where_closed P h.0 h.1.tableau h.1.closed), λ h. (length h.0, closed_where_instances_span P h.0 h.1))

-- where none is closed within d, each d allowed instances have a way without complementary literals
pub way_where_none : (P : Problem) (d : ℕ) → (HasClosed P d → ⊥) → (is : List ClauseInstance) → length is ≤ d → IsTrue (list_all (is_allowed_instance P) is) → IsTrue (has_way [] is)
way_where_none P d none is few a = true_from_ne_false (has_way [] is) (λ e. none (closed-mono P (length is) d few (closed_where_instances_span P is (record { allowed = a; spanning = e }))))
