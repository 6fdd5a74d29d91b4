-- `tableau FILE`: the tableau of a problem. What decides it are the problem and the bounds of `prove`.
use Rattle.std.specs.Prelude.{◌≡◌, ◌≤◌, ℕ, List}
use Rattle.calculus.specs.Syntax.{Problem}
use Rattle.calculus.specs.Propositional.{IsPropositional, IsTautology}
use Rattle.calculus.specs.Tableaux.{HasClosed, Tableau}
use Rattle.command_line.specs.CommandLine.{Bounds}
use Rattle.decision_theory.specs.Decision.{proposition_count}
use Rattle.leancop_top.specs.Statuses.{status_line}
use Rattle.leancop_top.specs.TableauSearch.{IsLimit, SearchEnds}
use Rattle.leancop_top.specs.TableauTexts.{IsTableau}
use Rattle.leancop_top.specs.declared.status.Status.{Status}
use Rattle.leancop_top.specs.declared.status.Status.TheVariants.{TableauFound, Exhausted, NoTableau}

-- the bytes are the text of a tableau that is closed within the limit, and there is a reason for this
-- limit
pub record IsTableauFound (P : Problem) (b : Bounds) (limit : ℕ) (bytes : List ℕ) : Type 0 where
  pub limit_is : IsLimit P b limit
  pub tableau : Tableau
  pub written : IsTableau P tableau limit bytes

-- why it ends with a status for the problem that is read, and what is written
pub data TableauEnds (P : Problem) (b : Bounds) : Status → List ℕ → Type 0 where
  found : (limit : ℕ) (bytes : List ℕ) → IsTableauFound P b limit bytes
      → TableauEnds P b (TableauFound limit) bytes
  fruitless : (status : Status) → SearchEnds P b status
      → TableauEnds P b status (status_line status)

-- a tableau is printed exactly where this holds
abbrev pub IsTableauDecided : Type 0 → Status → Type 0
IsTableauDecided holds (TableauFound limit) = holds
IsTableauDecided holds (Exhausted limit) = ¬ holds
IsTableauDecided holds (NoTableau limit) = ¬ holds
IsTableauDecided holds _ = ⊥

-- what `prove` decides by a derivation is decided by a tableau
pub record IsTableauProblemDecided (P : Problem) (b : Bounds) (status : Status) : Type 0 where
  pub closed : IsTableauDecided (HasClosed P b.limit) status
  pub tautology :
      IsPropositional P → proposition_count P.formula ≤ b.limit
      → IsTableauDecided (IsTautology P) status

-- where `prove` finds a derivation by the least cut, a tableau is found with its limit
abbrev pub IsTableauFoundAt : ℕ → Status → Type 0
IsTableauFoundAt limit (TableauFound d) = d ≡ limit
IsTableauFoundAt limit _ = ⊥
