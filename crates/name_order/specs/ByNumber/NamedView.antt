-- What the program's numbering stands for.
use Rattle.std.specs.Prelude.{ℕ, List, Option}
use Rattle.calculus.specs.Instances.{Turn}
use Rattle.conversion_theory.specs.Turns.{Name}
use Rattle.formula_core.specs.GroundLists.{GroundList}

-- the lists of its table; the names, numbered from 1 in their order, and the agenda; by places of the agenda the turns of each instance,
-- each turn's parent, and the turns that introduce what a turn mentions by its own values
pub record NamedValue : Type 0 where
  pub lists : List GroundList
  pub names : List Name
  pub agenda : List Turn
  pub order : List (List ℕ)
  pub parents : List (Option ℕ)
  pub waits : List (List ℕ)
