-- The answer of the judge by what was told of the formula, and the truth value that it gives.
use Rattle.std.specs.Prelude.{◌≡◌, Bool, true, false, Option, Some, None, Result, Ok, Err}
use Rattle.calculus.specs.StructureTruth.{Told, told, ran_out}
use Rattle.cop_base.specs.declared.ledger.Ledger.{Ledger}
use Rattle.finite_model.specs.declared.judging.Judged.{Judged}
use Rattle.finite_model.specs.declared.judging.Judged.TheVariants.{True, False, Steps}
use Rattle.finite_model.specs.declared.truth.StepsEnded.{StepsEnded}
use Rattle.finite_model.specs.Seeking.{left}

abbrev pub truth_of : Judged → Option Bool
truth_of True = Some true
truth_of False = Some false
truth_of Steps = None

abbrev pub judged_of : Result Bool StepsEnded → Judged
judged_of (Ok true) = True
judged_of (Ok false) = False
judged_of (Err e) = Steps

-- the answer gives what was told, and the ledger has the steps that were left
abbrev pub IsAnswer : Judged → Ledger → Told → Type 0
IsAnswer j after (told b n) = (truth_of j ≡ Some b) × (left after ≡ n)
IsAnswer j after ran_out = (j ≡ Steps) × (after.used ≡ after.budget)
