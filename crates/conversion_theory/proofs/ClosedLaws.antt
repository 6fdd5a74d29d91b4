-- Each clause of a closed tableau is an allowed instance, and its turns work with terms that are allowed and values that are admitted.
use Rattle.std.proofs.Common.{◌≡◌, ℕ, List, [], ◌∷◌, ◌++◌, length, Bool, ◌&&◌, IsTrue, sym, ◌∙◌, ap, subst, inl, inr, slice_get, remove, nat_lt}
use Rattle.std.specs.List.{AllByRecursion, list_all}
use Rattle.std.specs.Option.{option_map_or}
use Rattle.std.proofs.lemmas.Bool.{false≢true, and_parts}
use Rattle.calculus.specs.Syntax.{Problem}
use Rattle.calculus.specs.Ground.{Value, GroundLiteral}
use Rattle.calculus.specs.Skolem.{is_admitted_value}
use Rattle.calculus.specs.Instances.{GammaUse, gamma_is_allowed, Turn, Share, IsAllowedInstance, ClauseInstance, clause_instance}
use Rattle.calculus.specs.ComputedInstances.{Part, is_allowed_instance}
use Rattle.calculus.specs.Tableaux.{Tableau, Closing, Closings, reduce, extend, no_closings, more_closings, instances, instances_below, instances_of_all, is_closed, is_shown, is_short, is_new_on, is_complement, closes, closes_all}
use Rattle.conversion_theory.specs.Turns.{turns_of_instance}
use Rattle.calculus.proofs.Members.{Among, among-all, among-joined, joined-among}
use Rattle.calculus.proofs.CasesLaws.{is_allowed_instance-exact, instance_of-by_cases}
use Rattle.conversion_theory.proofs.PlaceLaws.{Work, root-works}
use Rattle.conversion_theory.proofs.AgendaLaws.{TurnOf}

abbrev pub AreAllowed : Problem → List ClauseInstance → Type 0
AreAllowed P is = AllByRecursion (λ i. IsTrue (is_allowed_instance P i)) is

allowed-append : (P : Problem) (xs ys : List ClauseInstance) → AreAllowed P xs → AreAllowed P ys → AreAllowed P (xs ++ ys)
allowed-append P [] ys h g = g
allowed-append P (i ∷ is) ys h g = (h.0, allowed-append P is ys h.1 g)

mutual
  closing-allowed : (P : Problem) (d : ℕ) (c : Closing) (path : List GroundLiteral) (goal : GroundLiteral) → IsTrue (closes P d path goal c) → AreAllowed P (instances_below c)
  closing-allowed P d (reduce up) path goal h = tt
  closing-allowed P d (extend i place below) path goal h =
      let before = is_new_on path goal && nat_lt (length path) d in
      let outer = and_parts (before && is_allowed_instance P i && is_complement goal (slice_get i.literals place)) (closes_all P d (goal ∷ path) (remove i.literals place) below) h in
      let inner = and_parts (before && is_allowed_instance P i) (is_complement goal (slice_get i.literals place)) outer.0 in
      let allowed = and_parts before (is_allowed_instance P i) inner.0 in
      (allowed.1, closings-allowed P d below (goal ∷ path) (remove i.literals place) outer.1)

  closings-allowed : (P : Problem) (d : ℕ) (cs : Closings) (path goals : List GroundLiteral) → IsTrue (closes_all P d path goals cs) → AreAllowed P (instances_of_all cs)
  closings-allowed P d no_closings path goals h = tt
  closings-allowed P d (more_closings c cs) path [] h = absurd (false≢true h)
  closings-allowed P d (more_closings c cs) path (x ∷ xs) h =
      let parts = and_parts (closes P d path x c) (closes_all P d path xs cs) h in
      allowed-append P (instances_below c) (instances_of_all cs) (closing-allowed P d c path x parts.0) (closings-allowed P d cs path xs parts.1)

pub all-allowed : (P : Problem) (d : ℕ) (t : Tableau) → IsTrue (is_closed P d t) → AreAllowed P (instances t)
all-allowed P d t h =
    let started = is_allowed_instance P t.start && list_all is_shown t.start.literals in
    let outer = and_parts (started && closes_all P d [] t.start.literals t.goals) (is_short P t) h in
    let inner = and_parts started (closes_all P d [] t.start.literals t.goals) outer.0 in
    let first = and_parts (is_allowed_instance P t.start) (list_all is_shown t.start.literals) inner.0 in
    (first.0, closings-allowed P d t.goals [] t.start.literals inner.1)

-- ---- the turns of a closed tableau

abbrev pub Allowed : Problem → GammaUse → Type 0
Allowed P g = IsTrue (gamma_is_allowed P g)

abbrev pub Admitted : Problem → Value → Type 0
Admitted P v = IsTrue (is_admitted_value P v)

all-of : {A : Type 0} (p : A → Bool) (xs : List A) (x : A) → IsTrue (list_all p xs) → Among xs x → IsTrue (p x)
all-of p [] x h i = elim i [ ]
all-of p (y ∷ ys) x h (inl e) = subst (λ z. IsTrue (p z)) e (and_parts (p y) (list_all p ys) h).0
all-of p (y ∷ ys) x h (inr i) = all-of p ys x (and_parts (p y) (list_all p ys) h).1 i

-- the turns of an allowed instance are those of its cases
pub turns-by_cases : (P : Problem) (i : ClauseInstance) (x : Share) → IsAllowedInstance P x → i ≡ clause_instance x → turns_of_instance P i ≡ x.turns
turns-by_cases P i x h e = ap (turns_of_instance P) e ∙ ap (λ o. option_map_or (λ (p : Part). p.turns) o []) (instance_of-by_cases P x h.instance)

pub closed-works : (P : Problem) (d : ℕ) (t : Tableau) → IsTrue (is_closed P d t) → (x : Turn) → TurnOf P t x → Work P (TurnOf P t) (Allowed P) (Admitted P) x
closed-works P d t closed x h =
    let found = among-joined (turns_of_instance P) (instances t) x h in
    let i = found.0 in
    let share = (is_allowed_instance-exact P i).0 (among-all (λ j. IsTrue (is_allowed_instance P j)) (instances t) i (all-allowed P d t closed) found.1) in
    let same = turns-by_cases P i share.0 share.1 share.2 in
    root-works P share.0 share.1.instance.given (TurnOf P t) (Allowed P) (Admitted P)
    (λ y k. joined-among (turns_of_instance P) (instances t) i y found.1 (subst (λ ts. Among ts y) (sym same) k))
    (λ g k. all-of (gamma_is_allowed P) share.0.gammas g share.1.allowed k)
    (λ v k. all-of (is_admitted_value P) share.0.values v share.1.instance.admitted k)
    x (subst (λ ts. Among ts x) same found.2)
