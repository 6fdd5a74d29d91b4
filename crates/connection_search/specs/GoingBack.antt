-- Going back over points at which a goal stood already that cannot be closed: what is known of the goal, and what comes next.
use Rattle.std.specs.Prelude.{◌≡◌, ◌⊎◌, ◌++◌, ℕ, List, [], Bool, true, reverse, take}
use Rattle.std.specs.List.{AllByRecursion}
use Rattle.calculus.specs.Choices.{Choice}
use Rattle.calculus.specs.Syntax.{Problem}
use Rattle.search_theory.specs.Jumps.{AreSolvedBehind, IsSolvedBehind}
use Rattle.search_theory.specs.Matrix.{MatrixClause}
use Rattle.search_theory.specs.States.{CellGoal}
use Rattle.store_theory.specs.Stores.{Store, cut_at}
use Rattle.term_store.specs.StoreView.{the_mark}
use Rattle.search_tree.specs.Binding.{ListsBound}
use Rattle.connection_search.specs.Exploring.{ArePointsFrom, IsBefore, IsSearched, traced}
use Rattle.connection_search.specs.Moments.{Moment}
use Rattle.search_tree.specs.Running.{IsAtGoal}
use Rattle.search_tree.specs.declared.point.Point.{Point}
use Rattle.connection_search.specs.declared.limit_search.LimitSearch.{LimitSearch}
use Rattle.search_tree.specs.declared.tree.Goal.{Goal}
use Rattle.search_tree.specs.declared.tree.Step.{Step}

-- the points below, whose goals were seen down to the number `low` behind them
pub record HandsDown (P : Problem) (m : List MatrixClause) (base d : ℕ) (s : Store) (steps : List Step) (goals : List Goal) (low : ℕ) (points : List Point) (later : List (List Choice)) (begun used : ℕ) (left : Bool) : Type 0 where
  pub below : List (List Choice)
  pub are : ArePointsFrom P m base d s steps goals points below
  pub solved : AreSolvedBehind P d low [] (traced P m base d s steps goals points below are)
  pub searched : IsSearched P d (below ++ later) begun used left

-- so it is at this moment
abbrev pub HandedAt : ℕ → Moment → LimitSearch → ℕ → List (List Choice) → ℕ → Type 0
HandedAt low m x base later begun = HandsDown x.problem.now x.matrix.now base x.limit m.store m.steps m.goals low (reverse m.points) later begun m.used m.left

-- no list closes the leftmost open goal, which has this number and no bound cells but these
pub record IsStuckAt (P : Problem) (m : List MatrixClause) (base d : ℕ) (s : Store) (steps : List Step) (goals : List Goal) (goal : ℕ) (bound : List ℕ) : Type 0 where
  pub choices : List Choice
  pub at_goal : CellGoal
  pub at : IsAtGoal P m base d choices s steps goals goal at_goal
  pub unsolved : IsSolvedBehind P d choices []
  pub lists : ListsBound s at_goal bound

-- where going back began
pub record Origin : Type 0 where
  pub problem : Problem
  pub matrix : List MatrixClause
  pub base : ℕ
  pub limit : ℕ
  pub store : Store
  pub steps : List Step
  pub goals : List Goal
  pub later : List (List Choice)
  pub begun : ℕ
  pub used : ℕ

-- the state is that of the origin, or that of a point before which these were made
abbrev pub IsBackFrom : Origin → Store → List Step → List Goal → List Point → Type 0
IsBackFrom o s steps goals points =
    ((s ≡ o.store) × (steps ≡ o.steps) × (goals ≡ o.goals))
    ⊎ ((p : Point) × (s ≡ cut_at (the_mark p.mark) o.store) × (steps ≡ take p.steps o.steps) × (goals ≡ take p.goals o.goals) × AllByRecursion (IsBefore p) points)

-- these points are left: what is pending on them comes next, and goals were seen down to the number `low` behind them
pub record GoesBack (o : Origin) (goal : ℕ) (bound : List ℕ) (low : ℕ) (s : Store) (steps : List Step) (goals : List Goal) (points : List Point) : Type 0 where
  pub stuck : IsStuckAt o.problem o.matrix o.base o.limit o.store o.steps o.goals goal bound
  pub down : HandsDown o.problem o.matrix o.base o.limit o.store o.steps o.goals low (reverse points) o.later o.begun o.used true
  pub back : IsBackFrom o s steps goals (reverse points)
