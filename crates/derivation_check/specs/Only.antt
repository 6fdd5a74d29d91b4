-- The judgement of bytes, and that there is no other.
use Rattle.std.specs.Prelude.{◌≡◌, ℕ, List}
use Rattle.calculus.specs.Syntax.{Problem}
use Rattle.calculus.specs.Judgement.{Verdict}
use Rattle.calculus.specs.VersionJudgement.{IsVersionJudgement}

pub record IsOnlyVersionJudgement (P : Problem) (bytes : List ℕ) (v : Verdict) : Type 0 where
  pub judged : IsVersionJudgement P bytes v
  pub alone : (w : Verdict) → IsVersionJudgement P bytes w → w ≡ v
