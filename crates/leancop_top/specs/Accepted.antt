-- A derivation that is read and accepted.
use Rattle.std.specs.Prelude.{ℕ, List, Option}
use Rattle.cop_base.specs.Outside.{Files}
use Rattle.calculus.specs.Derivations.{Derivation}
use Rattle.calculus.specs.Judgement.{accepted}
use Rattle.calculus.specs.Syntax.{Problem}
use Rattle.calculus.specs.Versions.{IsTextIn}
use Rattle.calculus.specs.declared.version.Version.{Version}
use Rattle.command_line.specs.Table.{Word}
use Rattle.derivation_check.specs.Only.{IsOnlyVersionJudgement}
use Rattle.leancop_top.specs.SecondFile.{HasBytes}

-- the file's bytes are a text, of some version, of this derivation, and are accepted
pub record IsAcceptedIn (told : Option Files) (P : Problem) (derivation : Word) (d : Derivation)
    : Type 0 where
  pub text : List ℕ
  pub held : HasBytes told derivation text
  pub version : Version
  pub is_text : IsTextIn version P d text
  pub judged : IsOnlyVersionJudgement P text accepted
