-- What a step brings is new, a list of steps has at most one reading, and the verdict on a derivation's steps is acceptance exactly
-- where they derive.
use Rattle.std.proofs.Common.{◌≡◌, ◌↔◌, ℕ, ◌+◌, List, [], ◌∷◌, Bool, true, false, refl, sym, ap, subst, Option, Some, None, Result, Ok, Err, inl, inr}
use Rattle.std.proofs.lemmas.Bool.{false≢true, cases_Bool, and_parts, not-true}
use Rattle.calculus.specs.declared.fault.StepFault.{StepFault}
use Rattle.calculus.specs.Syntax.{Problem}
use Rattle.calculus.specs.Derivations.{Entry, Sequent, Names, Step, apply_to, close, Derivation, first_sequent, ModalArg, no_modal, to, by_new, TermArg, no_term, by_term, by_name}
use Rattle.calculus.specs.Calculus.{Children, closed, one, two, apply, Condition, first_fault, conditions_of_use, children_of, entry_of, use_entry, character_is_new, eigen_is_new, Closes, leaf, single, fork, Derives}
use Rattle.calculus.specs.StepFacts.{IsFresh, IsCharacterFresh, IsEigenFresh}
use Rattle.calculus.specs.Judgement.{Verdict, accepted, rejected, verdict_from, open_after}

-- ---- what a step brings is new

abbrev pub AreMet : List Condition → Type 0
AreMet [] = Unit {0}
AreMet (d ∷ ds) = (d.met ≡ true) × AreMet ds

met_by : (d : Condition) (ds : List Condition) (b c : Children) → (first_fault ds b ≡ Ok c → AreMet ds) → (met : Bool) → d.met ≡ met → first_fault (d ∷ ds) b ≡ Ok c → AreMet (d ∷ ds)
met_by d ds b c rest true e h = (e, rest (rw e at h))
met_by d ds b c rest false e h = let h' : Err d.fault ≡ Ok c = rw e at h in cc

pub are_met : (ds : List Condition) (b c : Children) → first_fault ds b ≡ Ok c → AreMet ds
are_met [] b c h = tt
are_met (d ∷ ds) b c h = met_by d ds b c (are_met ds b c) d.met refl h

-- and then the step has the children that it was to have
pub met-children : (ds : List Condition) (b c : Children) → first_fault ds b ≡ Ok c → b ≡ c
met-children [] b c h = cc
met-children (d ∷ ds) b c h = elim (cases_Bool d.met) [
  | inl e ↦ met-children ds b c (rw e at h)
  | inr e ↦ let h' : Err d.fault ≡ Ok c = rw e at h in cc
]

character-fresh : (names : Names) (s : Sequent) (m : ModalArg) → character_is_new names s m ≡ true → IsCharacterFresh names s m
character-fresh names s no_modal h = tt
character-fresh names s (to v) h = tt
character-fresh names s (by_new n) h = not-true _ h

eigen-fresh : (s : Sequent) (t : TermArg) → eigen_is_new s t ≡ true → IsEigenFresh s t
eigen-fresh s no_term h = tt
eigen-fresh s (by_term t) h = tt
eigen-fresh s (by_name n) h = not-true _ h

-- the fourth condition is that both are new
use_entry-fresh : (P : Problem) (names : Names) (s : Sequent) (o : Option Entry) (m : ModalArg) (t : TermArg) (c : Children) → use_entry P names s o m t ≡ Ok c → IsCharacterFresh names s m × IsEigenFresh s t
use_entry-fresh P names s None m t c e = cc
use_entry-fresh P names s (Some x) m t c e =
    let met = are_met (conditions_of_use P names s x m t) (children_of P.setting.logic s x m t) c e in
    let fresh = and_parts (character_is_new names s m) (eigen_is_new s t) met.1.1.1.0 in
    (character-fresh names s m fresh.0, eigen-fresh s t fresh.1)

pub step-fresh : (P : Problem) (names : Names) (s : Sequent) (x : Step) (c : Children) → apply P names s x ≡ Ok c → IsFresh names s x
step-fresh P names s (apply_to n m t) c e = use_entry-fresh P names s (entry_of s n) m t c e
step-fresh P names s (close n k) c e = tt

-- ---- one reading

-- what the first step's outcome says of the rest
abbrev ReadAs : Problem → Names → Result Children StepFault → List Step → List Step → Type 0
ReadAs P names (Ok closed) xs r = xs ≡ r
ReadAs P names (Ok (one t)) xs r = Closes P names t xs r
ReadAs P names (Ok (two t u)) xs r = (ys : List Step) × Closes P names t xs ys × Closes P names u ys r
ReadAs P names (Err f) xs r = ⊥

abbrev Reading : Problem → Names → Sequent → List Step → List Step → Type 0
Reading P names s [] r = ⊥
Reading P names s (x ∷ xs) r = ReadAs P names (apply P names s x) xs r

reading : (P : Problem) (names : Names) {s : Sequent} {xs r : List Step} → Closes P names s xs r → Reading P names s xs r
reading P names (leaf e) = rw e refl
reading P names (single e c) = rw e c
reading P names (fork e c d) = rw e (_, c, d)

pub same_rest : (P : Problem) (names : Names) {s : Sequent} {xs r : List Step} → Closes P names s xs r → (q : List Step) → Closes P names s xs q → r ≡ q
same_rest P names (leaf e) q h = rw e at (reading P names h)
same_rest P names (single e c) q h = same_rest P names c q (rw e at (reading P names h))
same_rest P names (fork {u = u} e c d) q h =
    let r = rw e at (reading P names h) in
    same_rest P names d q (subst (λ ys. Closes P names u ys q) (sym (same_rest P names c r.0 r.1)) r.2)

-- ---- acceptance

-- the open sequents are closed in turn, and no step is left over
abbrev pub AllClose : Problem → Names → List Sequent → List Step → Type 0
AllClose P names [] xs = xs ≡ []
AllClose P names (s ∷ ss) xs = (rest : List Step) × Closes P names s xs rest × AllClose P names ss rest

abbrev is_accepted : Verdict → Bool
is_accepted accepted = true
is_accepted (rejected n f) = false

not_rejected : {n : ℕ} {f : _} → rejected n f ≡ accepted → ⊥
not_rejected e = false≢true (ap is_accepted e)

-- by the outcome of the first step
close_by : (P : Problem) (names : Names) (s : Sequent) (ss : List Sequent) (x : Step) (xs : List Step) (o : Result Children StepFault) → apply P names s x ≡ o → ((c : Children) → o ≡ Ok c → AllClose P names (open_after c ss) xs) → ((f : StepFault) → o ≡ Err f → ⊥) → AllClose P names (s ∷ ss) (x ∷ xs)
close_by P names s ss x xs (Err f) e h bad = absurd (bad f refl)
close_by P names s ss x xs (Ok closed) e h bad = (xs, leaf e, h closed refl)
close_by P names s ss x xs (Ok (one t)) e h bad = let r = h (one t) refl in (r.0, single e r.1, r.2)
close_by P names s ss x xs (Ok (two t u)) e h bad = let r = h (two t u) refl in (r.2.0, fork e r.1 r.2.1, r.2.2)

pub closed_of_accepted : (P : Problem) (names : Names) (xs : List Step) (ss : List Sequent) (n : ℕ) → verdict_from P names ss xs n ≡ accepted → AllClose P names ss xs
closed_of_accepted P names [] [] n h = refl
closed_of_accepted P names [] (s ∷ ss) n h = absurd (not_rejected h)
closed_of_accepted P names (x ∷ xs) [] n h = absurd (not_rejected h)
closed_of_accepted P names (x ∷ xs) (s ∷ ss) n h =
    close_by P names s ss x xs (apply P names s x) refl
    (λ c e. closed_of_accepted P names xs (open_after c ss) (n + 1) (rw e at h))
    (λ f e. not_rejected (rw e at h))

pub accepted_of_closed : (P : Problem) (names : Names) {s : Sequent} {xs rest : List Step} → Closes P names s xs rest → (ss : List Sequent) → ((m : ℕ) → verdict_from P names ss rest m ≡ accepted) → (n : ℕ) → verdict_from P names (s ∷ ss) xs n ≡ accepted
accepted_of_closed P names (leaf e) ss h n = rw e (h (n + 1))
accepted_of_closed P names (single e c) ss h n = rw e (accepted_of_closed P names c ss h (n + 1))
accepted_of_closed P names (fork {u = u} e c d) ss h n = rw e (accepted_of_closed P names c (u ∷ ss) (accepted_of_closed P names d ss h) (n + 1))

derived_of_closed : (P : Problem) (d : Derivation) → AllClose P d.names (first_sequent P ∷ []) d.steps → Derives P d
derived_of_closed P d h = subst (λ rest. Closes P d.names (first_sequent P) d.steps rest) h.2 h.1

-- the same wherever the first step stands
pub accepted_at_iff_derives : (P : Problem) (d : Derivation) (n : ℕ) → (verdict_from P d.names (first_sequent P ∷ []) d.steps n ≡ accepted) ↔ Derives P d
accepted_at_iff_derives P d n = (
  λ h. derived_of_closed P d (closed_of_accepted P d.names d.steps (first_sequent P ∷ []) n h),
  λ c. accepted_of_closed P d.names c [] (λ m. refl) n,
)
