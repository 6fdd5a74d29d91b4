-- The walk from the main file on.
use Rattle.std.proofs.Common.{◌≡◌, ◌⊎◌, inl, inr, List, [], None, Some, Result, Ok, Err, IfSome, subst}
use Rattle.cop_base.specs.Outside.{Files}
use Rattle.tptp_reader.specs.Sources.{Name}
use Rattle.problem_build.specs.declared.fault.BuildFault.{BuildFault}
use Rattle.problem_build.specs.declared.fault.BuildFault.TheVariants.{Missing, Failed, InputTooLarge, NestingTooDeep, FormulaTooLarge, TooManySymbols, Bad, NoMemory}
use Rattle.problem_build.specs.Answers.{the_refusal}
use Rattle.problem_build.specs.Refusals.{missing}
use Rattle.problem_build.specs.Walk.{Passed, Progress, Reader, Walked, walk}
use Rattle.problem_build.specs.Walking.{EndsIn, GoesOn, IsGone, Outcomes, file_outcomes, over}
use Rattle.problem_build.proofs.ListLaws.{inner-fault}

pub goes-ok : (a : Outcomes) (w : Walked) → GoesOn a (λ _. Ok w) → a None ≡ Ok w
goes-ok a w h = by (h None)
  where
    by : IsGone None (a None) ⊎ (a None ≡ Ok w) → a None ≡ Ok w
    by (inl k) = absurd k
    by (inr e) = e

pub ends-refused : (a : Outcomes) (fault : BuildFault) → EndsIn a fault → IfSome (the_refusal fault) (λ r. a None ≡ Err r)
ends-refused a (Missing n) h = h
ends-refused a (Failed n) h = tt
ends-refused a InputTooLarge h = h
ends-refused a NestingTooDeep h = h
ends-refused a FormulaTooLarge h = h
ends-refused a TooManySymbols h = h
ends-refused a (Bad f o c) h = h
ends-refused a NoMemory h = tt

pub ends-failed : {T : Type 0} (a : Outcomes) (fault : BuildFault) (n : Name) → ◌≡◌ {A = Result T BuildFault} (Err fault) (Err (Failed n)) → EndsIn a fault → a (Some n) ≡ Err (missing n)
ends-failed {T = T} a fault n e h = subst (EndsIn a) (inner-fault {T = T} fault (Failed n) e) h

abbrev pub started : List Passed → Progress
started passed = record { bytes = 0; passed = passed }

-- what is said of the walk over the main file is said of the whole walk
pub main-walk : (P : Outcomes → Type 0) (read : Reader) (files : Files) (name root made : Name) (lists : List (List Name)) (passed : List Passed) → made ≡ root → lists ≡ [] → passed ≡ []
    → P (file_outcomes read files made name 16 lists (started passed)) → P (λ omitted. walk read (over omitted files) name root)
main-walk P read files name root made lists passed e f g h =
    subst (λ r. P (λ omitted. walk read (over omitted files) name r)) e
    (subst (λ ps. P (file_outcomes read files made name 16 [] (started ps))) g (subst (λ ls. P (file_outcomes read files made name 16 ls (started passed))) f h))
