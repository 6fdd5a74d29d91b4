-- A derivation that is made step by step, with a stack of sequents that are open: the invariant of a loop that keeps the steps so far.
use Rattle.std.proofs.Common.{◌≡◌, List, [], ◌∷◌, ◌++◌, refl, sym, subst, Ok, append_assoc, append-nil}
use Rattle.calculus.specs.Syntax.{Problem}
use Rattle.calculus.specs.Derivations.{Sequent, Names, Step, Derivation, first_sequent}
use Rattle.calculus.specs.Calculus.{closed, one, two, apply, Closes, leaf, single, fork, Derives}
use Rattle.calculus.proofs.SequentLaws.{AllClose}

-- what closes the open sequents closes the problem's sequent behind the steps so far
abbrev pub AreOpen : Problem → Names → List Step → List Sequent → Type 0
AreOpen P names xs ss = (rest : List Step) → AllClose P names ss rest → AllClose P names (first_sequent P ∷ []) (xs ++ rest)

pub open-first : (P : Problem) (names : Names) → AreOpen P names [] (first_sequent P ∷ [])
open-first P names rest h = h

-- one step more
with-step : (P : Problem) (names : Names) (xs : List Step) (ss : List Sequent) (x : Step) (more : List Sequent) → AreOpen P names xs ss → ((rest : List Step) → AllClose P names more rest → AllClose P names ss (x ∷ rest)) → AreOpen P names (xs ++ x ∷ []) more
with-step P names xs ss x more h g rest k = subst (λ ys. AllClose P names (first_sequent P ∷ []) ys) (sym (append_assoc xs (x ∷ []) rest)) (h (x ∷ rest) (g rest k))

pub open-one : (P : Problem) (names : Names) (xs : List Step) (s t : Sequent) (ss : List Sequent) (x : Step) → AreOpen P names xs (s ∷ ss) → apply P names s x ≡ Ok (one t) → AreOpen P names (xs ++ x ∷ []) (t ∷ ss)
open-one P names xs s t ss x h e = with-step P names xs (s ∷ ss) x (t ∷ ss) h (λ rest k. (k.0, single e k.1, k.2))

pub open-two : (P : Problem) (names : Names) (xs : List Step) (s t u : Sequent) (ss : List Sequent) (x : Step) → AreOpen P names xs (s ∷ ss) → apply P names s x ≡ Ok (two t u) → AreOpen P names (xs ++ x ∷ []) (t ∷ u ∷ ss)
open-two P names xs s t u ss x h e = with-step P names xs (s ∷ ss) x (t ∷ u ∷ ss) h (λ rest k. (k.2.0, fork e k.1 k.2.1, k.2.2))

pub open-closed : (P : Problem) (names : Names) (xs : List Step) (s : Sequent) (ss : List Sequent) (x : Step) → AreOpen P names xs (s ∷ ss) → apply P names s x ≡ Ok closed → AreOpen P names (xs ++ x ∷ []) ss
open-closed P names xs s ss x h e = with-step P names xs (s ∷ ss) x ss h (λ rest k. (rest, leaf e, k))

-- where no sequent is open any more, the steps derive the problem
pub open-none : (P : Problem) (d : Derivation) → AreOpen P d.names d.steps [] → Derives P d
open-none P d h =
    let all = h [] refl in
    subst (λ r. Closes P d.names (first_sequent P) d.steps r) all.2 (subst (λ ys. Closes P d.names (first_sequent P) ys all.0) (append-nil d.steps) all.1)
