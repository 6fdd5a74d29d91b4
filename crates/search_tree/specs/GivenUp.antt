-- Lists that are given up because of a goal that cannot be closed, and of goals below it alone: what they say of the goals above it.
use Rattle.std.specs.Prelude.{◌≡◌, ◌⊎◌, ◌≤◌, ℕ, List, MatchOption, None, Option, Some, slice_get, ⊤}
use Rattle.calculus.specs.Choices.{Choice}
use Rattle.calculus.specs.Syntax.{Problem}
use Rattle.search_theory.specs.DeadEnds.{IsDead, Grows}
use Rattle.search_theory.specs.Closing.{CannotClose}
use Rattle.search_theory.specs.Jumps.{IsFruitless}
use Rattle.search_theory.specs.Matrix.{MatrixClause}
use Rattle.search_theory.specs.States.{CellGoal, IsStateOf, State}
use Rattle.term_store.specs.Room.{TermStore}
use Rattle.search_tree.specs.Pruning.{IsPruned}
use Rattle.search_tree.specs.Running.{TreeStands}
use Rattle.search_tree.specs.declared.tree.Tree.{Tree}

-- a goal of the list's tree cannot be closed within d: one that came behind the first n goals, or one from the leftmost open one on
pub record HasLost (P : Problem) (d : ℕ) (c : List Choice) (n : ℕ) (first : Option ℕ) : Type 0 where
  pub state : State
  pub is_state : IsStateOf P d c state
  pub number : ℕ
  pub goal : CellGoal
  pub stands : slice_get state.growth.all_goals number ≡ Some goal
  pub later : (n ≤ number) ⊎ ((k : ℕ) × (first ≡ Some k) × (k ≤ number))
  pub cannot : CannotClose P d state goal

-- no tree follows the list, or its tree has such a goal, or would have one behind the first n
abbrev pub IsGivenUp : Problem → List MatrixClause → ℕ → ℕ → List Choice → ℕ → TermStore → Tree → Type 0
IsGivenUp P m base d c n s t = (¬ Grows P c) ⊎ (TreeStands P m base d c s t × HasLost P d c n t.open) ⊎ IsFruitless P d c n

-- the limit that is looked at, if any, is this one
abbrev pub LooksAhead : Option ℕ → ℕ → Type 0
LooksAhead ahead d = MatchOption ahead ⊤ (λ k. k ≡ d)

-- the list is a dead end, or a limit is looked at within which no tableau that begins with it is closed
abbrev pub IsRuledOut : Problem → ℕ → List Choice → Option ℕ → Type 0
IsRuledOut P d c ahead = IsDead P c ⊎ (¬ (ahead ≡ None) × IsPruned P d c)
