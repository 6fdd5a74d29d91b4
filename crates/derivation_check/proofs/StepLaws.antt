-- The verdict on a step, by what it leads to.
use Rattle.std.proofs.Common.{◌≡◌, ℕ, ◌+◌, Bool, true, false, List, ◌∷◌, map, Option, None, Some, Ok, Err, Result, sym, ◌∙◌, ap, subst, if◌then◌else◌}
use Rattle.std.specs.Result.{OnOk}
use Rattle.calculus.specs.declared.fault.StepFault.{StepFault}
use Rattle.calculus.specs.declared.fault.StepFault.TheVariants.{NoConnection, NoEntry}
use Rattle.calculus.specs.declared.fault.CheckFault.TheVariants.{Step as InStep, AllClosed}
use Rattle.calculus.specs.Calculus.{Children, closed, apply, close_branch, connects, use_entry}
use Rattle.calculus.specs.Derivations.{Entry, Sequent, Label, Names, Step, ModalArg, TermArg}
use Rattle.calculus.specs.Judgement.{open_after, rejected, verdict_after, verdict_from}
use Rattle.calculus.specs.Syntax.{Term, Problem}
use Rattle.derivation_check.specs.OpenSequents.{open_sequents, waiting}
use Rattle.derivation_check.specs.StateView.{LeadsTo, the_sequent}
use Rattle.derivation_check.specs.declared.open_sequents.BranchEntry.{BranchEntry}

pub close-leads : (a b : Entry) (r : Bool) (others now : List Sequent) → r ≡ connects a b → r ≡ true → now ≡ others → LeadsTo (close_branch (Some a) (Some b)) others now
close-leads a b r others now e h shown =
    record { children = closed; applies = ap (λ c. if c then Ok closed else Err NoConnection) (sym e ∙ h); shown = shown }

pub close-fails : (a b : Entry) (r : Bool) → r ≡ connects a b → r ≡ false → close_branch (Some a) (Some b) ≡ Err NoConnection
close-fails a b r e h = ap (λ c. if c then Ok closed else Err NoConnection) (sym e ∙ h)

pub led : (P : Problem) (names : Names) (table : List (List Term)) (labels : List Label) (o : Bool) (xs : List BranchEntry) (forks : List (ℕ × BranchEntry)) (x : Step) (rest : List Step) (now : List Sequent) (line : ℕ) → o ≡ true
    → LeadsTo (apply P names (the_sequent table labels xs) x) (map (the_sequent table labels) (waiting xs forks)) now → verdict_from P names (map (the_sequent table labels) (open_sequents o xs forks)) (x ∷ rest) line ≡ verdict_from P names now rest (line + 1)
led P names table labels o xs forks x rest now line opened g =
    ap (λ b. verdict_from P names (map (the_sequent table labels) (open_sequents b xs forks)) (x ∷ rest) line) opened
    ∙ ap (λ r. verdict_after r line (λ c. verdict_from P names (open_after c (map (the_sequent table labels) (waiting xs forks))) rest (line + 1))) g.applies
    ∙ ap (λ ss. verdict_from P names ss rest (line + 1)) (sym g.shown)

pub failed : (P : Problem) (names : Names) (table : List (List Term)) (labels : List Label) (o : Bool) (xs : List BranchEntry) (forks : List (ℕ × BranchEntry)) (x : Step) (rest : List Step) (line : ℕ) (f : StepFault) → o ≡ true
    → apply P names (the_sequent table labels xs) x ≡ Err f → verdict_from P names (map (the_sequent table labels) (open_sequents o xs forks)) (x ∷ rest) line ≡ rejected line (InStep f)
failed P names table labels o xs forks x rest line f opened e =
    ap (λ b. verdict_from P names (map (the_sequent table labels) (open_sequents b xs forks)) (x ∷ rest) line) opened
    ∙ ap (λ r. verdict_after r line (λ c. verdict_from P names (open_after c (map (the_sequent table labels) (waiting xs forks))) rest (line + 1))) e

pub none-open : (P : Problem) (names : Names) (table : List (List Term)) (labels : List Label) (o : Bool) (xs : List BranchEntry) (forks : List (ℕ × BranchEntry)) (x : Step) (rest : List Step) (line : ℕ) → o ≡ false
    → verdict_from P names (map (the_sequent table labels) (open_sequents o xs forks)) (x ∷ rest) line ≡ rejected line AllClosed
none-open P names table labels o xs forks x rest line shut = ap (λ b. verdict_from P names (map (the_sequent table labels) (open_sequents b xs forks)) (x ∷ rest) line) shut

-- what is told of a result is told of what leads to it
pub leads-as : {E : Type 0} (r : Result (Unit {0}) E) (K : Names → Type 0) (p q : Names → Result Children StepFault) (others now : List Sequent) → ((n : Names) → p n ≡ q n) → OnOk r ((n : Names) → K n → LeadsTo (p n) others now) → OnOk r ((n : Names) → K n → LeadsTo (q n) others now)
leads-as (Ok x) K p q others now e h = λ n k. subst (λ z. LeadsTo z others now) (e n) (h n k)
leads-as (Err x) K p q others now e h = h

pub leads-each : {E : Type 0} (r : Result (Unit {0}) E) (K : Names → Type 0) (p : Result Children StepFault) (q : Names → Result Children StepFault) (others now : List Sequent) → ((n : Names) → p ≡ q n) → OnOk r (LeadsTo p others now) → OnOk r ((n : Names) → K n → LeadsTo (q n) others now)
leads-each (Ok x) K p q others now e h = λ n k. subst (λ z. LeadsTo z others now) (e n) h
leads-each (Err x) K p q others now e h = h

pub leads-same : {E : Type 0} (r : Result (Unit {0}) E) (p q : Result Children StepFault) (others now : List Sequent) → p ≡ q → OnOk r (LeadsTo p others now) → OnOk r (LeadsTo q others now)
leads-same (Ok x) p q others now e h = subst (λ z. LeadsTo z others now) e h
leads-same (Err x) p q others now e h = h

-- no entry stands at a number
pub no_entry-used : (P : Problem) (names : Names) (s : Sequent) (o : Option Entry) (x : ModalArg) (t : TermArg) (f : StepFault) → o ≡ None → NoEntry ≡ f → use_entry P names s o x t ≡ Err f
no_entry-used P names s o x t f none same = ap (λ q. use_entry P names s q x t) none ∙ ap Err same

pub no_first-closed : (a b : Option Entry) (f : StepFault) → a ≡ None → NoEntry ≡ f → close_branch a b ≡ Err f
no_first-closed a b f none same = ap (λ q. close_branch q b) none ∙ ap Err same

pub no_second-closed : (a b : Option Entry) (f : StepFault) → b ≡ None → NoEntry ≡ f → close_branch a b ≡ Err f
no_second-closed None b f none same = ap Err same
no_second-closed (Some a) b f none same = ap (λ q. close_branch (Some a) q) none ∙ ap Err same
