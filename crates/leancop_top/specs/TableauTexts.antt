-- What is said of a tableau's text that is printed, or accepted.
use Rattle.std.specs.Prelude.{◌≡◌, ℕ, List, Option}
use Rattle.cop_base.specs.Outside.{Files}
use Rattle.calculus.specs.Propositional.{IsPropositional, IsTautology}
use Rattle.calculus.specs.Soundness.{IsTrueInStructures}
use Rattle.calculus.specs.Syntax.{Problem}
use Rattle.calculus.specs.Tableaux.{Tableau}
use Rattle.calculus.specs.TableauText.{IsClosedText, IsTableauJudgement, TableauVerdict}
use Rattle.calculus.specs.TableauText.{tableau_accepted}
use Rattle.command_line.specs.Table.{Word}
use Rattle.leancop_top.specs.SecondFile.{HasBytes}

-- the bytes have this judgement as the text of a tableau, and no other
pub record IsOnlyTableauJudgement (P : Problem) (bytes : List ℕ) (verdict : TableauVerdict) : Type 0 where
  pub judged : IsTableauJudgement P bytes verdict
  pub alone : (other : TableauVerdict) → IsTableauJudgement P bytes other → other ≡ verdict

-- the bytes are the text, with this limit, of the tableau, which is closed within it, and so their
-- judgement is acceptance; the formula is true in each structure of the setting; and that of a
-- propositional problem is a tautology
pub record IsTableau (P : Problem) (t : Tableau) (limit : ℕ) (bytes : List ℕ) : Type 0 where
  pub text : IsClosedText P t limit bytes
  pub judged : IsOnlyTableauJudgement P bytes tableau_accepted
  pub true_in_structures : IsTrueInStructures P
  pub tautology : IsPropositional P → IsTautology P

-- ---- a text that is read

-- the file's bytes have this judgement as the text of a tableau, and no other
pub record IsTableauJudgedIn (told : Option Files) (P : Problem) (name : Word)
    (verdict : TableauVerdict) : Type 0 where
  pub text : List ℕ
  pub held : HasBytes told name text
  pub judged : IsOnlyTableauJudgement P text verdict

-- the file's bytes are the text of this closed tableau, with this limit
pub record IsTableauIn (told : Option Files) (P : Problem) (name : Word) (t : Tableau) (limit : ℕ)
    : Type 0 where
  pub bytes : List ℕ
  pub held : HasBytes told name bytes
  pub stated : IsTableau P t limit bytes
