-- What prefixes tell before a list of choices is whole: what each closed tableau behind a state solves.
use Rattle.std.specs.Prelude.{◌≡◌, ℕ, List, ◌++◌, IsTrue}
use Rattle.std.specs.List.{AllByRecursion}
use Rattle.calculus.specs.Syntax.{Problem}
use Rattle.calculus.specs.Tableaux.{Tableau, is_closed}
use Rattle.calculus.specs.Choices.{GroundChoice, ground_choices}
use Rattle.store_theory.specs.Stores.{Solution}
use Rattle.store_theory.specs.Systems.{System, AreEqual, Differ, MeetsDemand, IsStep, AllAllowed}
use Rattle.search_theory.specs.States.{State, IsGround}

-- a tableau closed within d has choices that begin with these
pub record BeginsClosed (P : Problem) (d : ℕ) (gs : List GroundChoice) : Type 0 where
  pub tableau : Tableau
  pub closed : IsTrue (is_closed P d tableau)
  pub more : List GroundChoice
  pub is_list : ground_choices tableau ≡ gs ++ more

-- a ground solution of the state that solves its system, whatever the lengths of strings
pub record HoldsEarly (P : Problem) (S : State) (y : System) (σ : Solution) : Type 0 where
  pub ground : IsGround P S σ
  pub equal : AllByRecursion (AreEqual σ) y.equations
  pub steps : AllByRecursion (IsStep P.setting.logic σ) y.strings
  pub demanded : MeetsDemand (AllAllowed P) y σ
  pub apart : AllByRecursion (Differ σ) y.pairs
