-- `convert FILE TABLEAU`: the derivation to which a tableau leads.
use Rattle.std.specs.Prelude.{⊤, ℕ, List, Option}
use Rattle.cop_base.specs.Outside.{Files}
use Rattle.calculus.specs.declared.fault.TableauFault.{TableauFault}
use Rattle.calculus.specs.declared.version.Version.TheVariants.{One}
use Rattle.calculus.specs.Syntax.{Problem}
use Rattle.calculus.specs.Tableaux.{Tableau}
use Rattle.calculus.specs.TableauText.{tableau_rejected}
use Rattle.command_line.specs.Table.{Word}
use Rattle.leancop_top.specs.Derived.{IsTrimmedDerivation}
use Rattle.leancop_top.specs.SecondFile.{FetchEnds}
use Rattle.leancop_top.specs.Statuses.{status_line}
use Rattle.leancop_top.specs.TableauTexts.{IsTableauIn, IsTableauJudgedIn}
use Rattle.leancop_top.specs.declared.status.Status.{Status}
use Rattle.leancop_top.specs.declared.status.Status.TheVariants.{Converted, TableauRejected}

-- the file's bytes are the text of a closed tableau, and what is written is the version 1 text of a
-- derivation of the problem with its limit
pub record IsConvertedIn (told : Option Files) (P : Problem) (name : Word) (bytes : List ℕ)
    : Type 0 where
  pub given : Tableau
  pub limit : ℕ
  pub accepted : IsTableauIn told P name given limit
  pub written : IsTrimmedDerivation One P limit bytes

-- why it ends with a status for the problem that is read, and what is written
pub data ConvertEnds (told : Option Files) (P : Problem) (name : Word) : Status → List ℕ → Type 0 where
  converted : (bytes : List ℕ) → IsConvertedIn told P name bytes
      → ConvertEnds told P name Converted bytes
  rejected : (line : ℕ) (fault : TableauFault)
      → IsTableauJudgedIn told P name (tableau_rejected line fault)
      → ConvertEnds told P name (TableauRejected line fault)
      (status_line (TableauRejected line fault))
  not_fetched : (status : Status) → FetchEnds told name status
      → ConvertEnds told P name status (status_line status)

-- what decides it for bytes that the files hold
abbrev pub IsConvertDecided : Status → Type 0
IsConvertDecided Converted = ⊤
IsConvertDecided (TableauRejected line fault) = ⊤
IsConvertDecided _ = ⊥
