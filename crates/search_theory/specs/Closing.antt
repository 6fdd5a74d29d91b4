-- Goals that no ground solution closes.
use Rattle.std.specs.Prelude.{ℕ, IsTrue}
use Rattle.calculus.specs.Syntax.{Problem}
use Rattle.calculus.specs.Tableaux.{Closing, closes}
use Rattle.calculus.specs.Choices.{Goal}
use Rattle.store_theory.specs.Stores.{Solution}
use Rattle.search_theory.specs.States.{CellGoal, State, goal_at, IsGround}

abbrev pub IsCloseable : Problem → ℕ → Goal → Type 0
IsCloseable P d x = (c : Closing) × IsTrue (closes P d x.path x.literal c)

-- by no ground solution of the state the goal is one that is closed within d
abbrev pub CannotClose : Problem → ℕ → State → CellGoal → Type 0
CannotClose P d S g = (σ : Solution) → IsGround P S σ → ¬ IsCloseable P d (goal_at σ g)
