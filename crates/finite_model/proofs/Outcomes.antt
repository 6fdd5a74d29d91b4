-- What is told of a formula at the root says of the truth, of the steps, and of derivations.
use Rattle.std.proofs.Common.{Result, Ok, Err, ◌≡◌, ℕ, ◌+◌, ◌-◌, ◌<◌, ◌≤◌, [], Bool, true, false, Some, IsTrue, refl, sym, ◌∙◌, ap, subst, arith}
use Rattle.calculus.specs.declared.setting.Logic.{Logic}
use Rattle.calculus.specs.Problems.{is_problem}
use Rattle.calculus.specs.Soundness.{HasNoDerivation, IsNeverAccepted}
use Rattle.calculus.specs.Structures.{Structure, is_structure, is_true}
use Rattle.calculus.specs.StructureTruth.{Told, told_at, Tells, ways}
use Rattle.calculus.specs.Syntax.{Formula, Problem}
use Rattle.calculus.proofs.SoundnessLaws.{refuted-never_accepted, refuted-underived}
use Rattle.calculus.proofs.StructureTruthLaws.{told-truth}
use Rattle.cop_base.specs.declared.ledger.Ledger.{Ledger}
use Rattle.finite_model.specs.declared.judging.Judged.{Judged}
use Rattle.finite_model.specs.declared.judging.Judged.TheVariants as judged
use Rattle.finite_model.specs.declared.truth.StepsEnded.{StepsEnded}
use Rattle.finite_model.specs.Judging.{IsAnswer, judged_of, truth_of}
use Rattle.finite_model.specs.Seeking.{IsTold, left}

-- a value is the truth, and no more steps were taken than there are ways; or there are more ways than steps were left
abbrev pub IsOutcome : Bool → ℕ → ℕ → Ledger → Result Bool StepsEnded → Type 0
IsOutcome truth n before after (Ok b) = (b ≡ truth) × (left after ≤ before) × (before ≤ left after + n)
IsOutcome truth n before after (Err e) = (before < n) × (after.used ≡ after.budget)

outcome : (truth : Bool) (n before : ℕ) (after : Ledger) (r : Result Bool StepsEnded) (t : Told) → IsTold r after t → Tells truth n before t → IsOutcome truth n before after r
outcome truth n before after (Ok b) t h k = subst (Tells truth n before) h k
outcome truth n before after (Err e) t h k = (subst (Tells truth n before) h.0 k, h.1)

pub root-outcome : (P : Problem) (S : Structure) (l : Logic) (f : Formula) (before : ℕ) (after : Ledger) (r : Result Bool StepsEnded) → l ≡ P.setting.logic → f ≡ P.formula → IsTold r after (told_at l S f [] 0 before) → IsOutcome (is_true P S) (ways P S) before after r
root-outcome P S l f before after r same_logic same_formula h =
    outcome (is_true P S) (ways P S) before after r (told_at P.setting.logic S P.formula [] 0 before)
    (subst (IsTold r after) (λ i. told_at (same_logic i) S (same_formula i) [] 0 before) h)
    (told-truth P.setting.logic S P.formula [] 0 before)

pub outcome-truth : (truth : Bool) (n before : ℕ) (after : Ledger) (r : Result Bool StepsEnded) → IsOutcome truth n before after r → (b : Bool) → truth_of (judged_of r) ≡ Some b → truth ≡ b
outcome-truth truth n before after (Ok true) o b e = let f : true ≡ b = cc in sym o.0 ∙ f
outcome-truth truth n before after (Ok false) o b e = let f : false ≡ b = cc in sym o.0 ∙ f
outcome-truth truth n before after (Err x) o b e = absurd (cc)

pub outcome-used : (truth : Bool) (n used budget : ℕ) (after : Ledger) (r : Result Bool StepsEnded) → after.budget ≡ budget → used ≤ budget → after.used ≤ after.budget → IsOutcome truth n (budget - used) after r → used ≤ after.used
outcome-used truth n used budget after (Ok b) e h k o = let x = o.1 in omega (arith, x, e, h, k)
outcome-used truth n used budget after (Err x) e h k o = let y = o.1 in omega (arith, y, e, h)

pub outcome-cost : (truth : Bool) (n used budget : ℕ) (after : Ledger) (r : Result Bool StepsEnded) → after.budget ≡ budget → used ≤ budget → after.used ≤ after.budget → IsOutcome truth n (budget - used) after r → after.used ≤ used + n
outcome-cost truth n used budget after (Ok b) e h k o = let x = o.2 in omega (arith, x, e, h, k)
outcome-cost truth n used budget after (Err x) e h k o = let y = o.0 in let z = o.1 in omega (arith, y, z, e, h)

ended : (r : Result Bool StepsEnded) → judged_of r ≡ judged.Steps → (truth : Bool) (n before : ℕ) (after : Ledger) → IsOutcome truth n before after r → (before < n) × (after.used ≡ after.budget)
ended (Ok true) e truth n before after o = absurd (cc)
ended (Ok false) e truth n before after o = absurd (cc)
ended (Err x) e truth n before after o = o

pub outcome-spent : (truth : Bool) (n before : ℕ) (after : Ledger) (r : Result Bool StepsEnded) → IsOutcome truth n before after r → judged_of r ≡ judged.Steps → after.used ≡ after.budget
outcome-spent truth n before after r o e = (ended r e truth n before after o).1

pub outcome-steps : (truth : Bool) (n used budget : ℕ) (after : Ledger) (r : Result Bool StepsEnded) → used ≤ budget → IsOutcome truth n (budget - used) after r → judged_of r ≡ judged.Steps → budget < used + n
outcome-steps truth n used budget after r h o e = let x = (ended r e truth n (budget - used) after o).0 in omega arith

pub outcome-never : (P : Problem) (S : Structure) (before : ℕ) (after : Ledger) (r : Result Bool StepsEnded) → IsTrue (is_problem P) → IsTrue (is_structure P S) → IsOutcome (is_true P S) (ways P S) before after r → judged_of r ≡ judged.False → IsNeverAccepted P
outcome-never P S before after r problem fits o e = refuted-never_accepted P problem S fits (outcome-truth (is_true P S) (ways P S) before after r o false (ap truth_of e))

pub outcome-refutes : (P : Problem) (S : Structure) (before : ℕ) (after : Ledger) (r : Result Bool StepsEnded) → IsTrue (is_problem P) → IsTrue (is_structure P S) → IsOutcome (is_true P S) (ways P S) before after r → judged_of r ≡ judged.False → HasNoDerivation P
outcome-refutes P S before after r problem fits o e = refuted-underived P problem S fits (outcome-truth (is_true P S) (ways P S) before after r o false (ap truth_of e))

pub same-judged : {E : Type 0} (x y : Judged) → ◌≡◌ {A = Result Judged E} (Ok x) (Ok y) → x ≡ y
same-judged x y e = cc

answer-of : (r : Result Bool StepsEnded) (after : Ledger) (t : Told) → IsTold r after t → IsAnswer (judged_of r) after t
answer-of (Ok true) after t h = subst (IsAnswer judged.True after) (sym h) (refl, refl)
answer-of (Ok false) after t h = subst (IsAnswer judged.False after) (sym h) (refl, refl)
answer-of (Err e) after t h = subst (IsAnswer judged.Steps after) (sym h.0) (refl, h.1)

pub root-answer : (P : Problem) (S : Structure) (l : Logic) (f : Formula) (before : ℕ) (after : Ledger) (r : Result Bool StepsEnded) (j : Judged) → l ≡ P.setting.logic → f ≡ P.formula → j ≡ judged_of r → IsTold r after (told_at l S f [] 0 before) → IsAnswer j after (told_at P.setting.logic S P.formula [] 0 before)
root-answer P S l f before after r j same_logic same_formula same_answer h =
    subst (λ k. IsAnswer k after (told_at P.setting.logic S P.formula [] 0 before)) (sym same_answer)
    (answer-of r after (told_at P.setting.logic S P.formula [] 0 before)
    (subst (IsTold r after) (λ i. told_at (same_logic i) S (same_formula i) [] 0 before) h))
