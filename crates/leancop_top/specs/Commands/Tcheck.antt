-- `tcheck FILE TABLEAU`: the judgement of a tableau.
use Rattle.std.specs.Prelude.{⊤, ℕ, List, Option}
use Rattle.cop_base.specs.Outside.{Files}
use Rattle.calculus.specs.declared.fault.TableauFault.{TableauFault}
use Rattle.calculus.specs.Syntax.{Problem}
use Rattle.calculus.specs.Tableaux.{Tableau}
use Rattle.calculus.specs.TableauText.{tableau_rejected}
use Rattle.command_line.specs.Table.{Word}
use Rattle.leancop_top.specs.SecondFile.{FetchEnds}
use Rattle.leancop_top.specs.Statuses.{status_line}
use Rattle.leancop_top.specs.TableauTexts.{IsTableauIn, IsTableauJudgedIn}
use Rattle.leancop_top.specs.declared.status.Status.{Status}
use Rattle.leancop_top.specs.declared.status.Status.TheVariants.{Accepted, TableauRejected}

-- Why it ends with a status for the problem that is read, and what is written. What is accepted is the
-- text of a tableau of the problem that is closed within the limit that the text states.
pub data TcheckEnds (told : Option Files) (P : Problem) (name : Word) : Status → List ℕ → Type 0 where
  accepted : (t : Tableau) (limit : ℕ) → IsTableauIn told P name t limit
      → TcheckEnds told P name Accepted (status_line Accepted)
  rejected : (line : ℕ) (fault : TableauFault)
      → IsTableauJudgedIn told P name (tableau_rejected line fault)
      → TcheckEnds told P name (TableauRejected line fault)
      (status_line (TableauRejected line fault))
  not_fetched : (status : Status) → FetchEnds told name status
      → TcheckEnds told P name status (status_line status)

-- what decides it for bytes that the files hold
abbrev pub IsTcheckDecided : Status → Type 0
IsTcheckDecided Accepted = ⊤
IsTcheckDecided (TableauRejected line fault) = ⊤
IsTcheckDecided _ = ⊥
