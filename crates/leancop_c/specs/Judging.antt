-- The judgement of a derivation of a problem that is read.
use Rattle.std.specs.Prelude.{ℕ, List}
use Rattle.calculus.specs.declared.fault.CheckFault.{CheckFault}
use Rattle.calculus.specs.Judgement.{accepted, rejected}
use Rattle.calculus.specs.Syntax.{Problem}
use Rattle.derivation_check.specs.Only.{IsOnlyVersionJudgement}
use Rattle.leancop_top.specs.Derived.{IsTheorem}
use Rattle.leancop_c.specs.Told.{rejection_told, status_alone}
use Rattle.leancop_c.specs.declared.LeancopJudgement.{LeancopJudgement}

pub data IsJudged (P : Problem) (derivation : List ℕ) : LeancopJudgement → Type 0 where
  is_accepted : IsOnlyVersionJudgement P derivation accepted → IsTheorem P
      → IsJudged P derivation (status_alone 0)
  is_rejected : (line : ℕ) (fault : CheckFault) → IsOnlyVersionJudgement P derivation (rejected line fault)
      → IsJudged P derivation (rejection_told line fault)
  is_lost : IsJudged P derivation (status_alone 7)
