-- What a list of choices without open goals comes to.
use Rattle.std.specs.Prelude.{◌≡◌, ◌-◌, ℕ, List, map, false, IsTrue}
use Rattle.std.specs.List.{flat_map}
use Rattle.calculus.specs.Choices.{Choice, choices_of, ground_choices}
use Rattle.calculus.specs.Counting.{MoreThan}
use Rattle.calculus.specs.Space.{has_labels, lengths_cmp}
use Rattle.calculus.specs.Skolem.{common_spares}
use Rattle.store_theory.specs.Stores.{AreOwnSpares, Solution, Store}
use Rattle.calculus.specs.Syntax.{Problem}
use Rattle.store_theory.specs.Systems.{AllAllowed, AreEarly}
use Rattle.calculus.specs.Tableaux.{Tableau, is_closed}
use Rattle.prefix_split.specs.LengthSearch.{IsCounted}
use Rattle.prefix_split.specs.declared.solving.Solved.{Solved}
use Rattle.prefix_split.specs.declared.solving.Solved.TheVariants as solved
use Rattle.search_theory.specs.Exploring.{IsClosedList}
use Rattle.search_theory.specs.Matrix.{MatrixClause}
use Rattle.search_theory.specs.Joined.{IsTableauBy}
use Rattle.search_theory.specs.States.{CellGoal, choice_at}
use Rattle.tableau_core.specs.Numbered.TableauView.{the_tableau}
use Rattle.search_tree.specs.Trees.{AreGoals, gammas_of, the_step, tree_system}
use Rattle.connection_search.specs.declared.visit.Visit.{Visit}
use Rattle.connection_search.specs.declared.visit.Visit.TheVariants as visit
use Rattle.search_tree.specs.declared.tree.Goal.{Goal}
use Rattle.search_tree.specs.declared.tree.Step.{Step}
use Rattle.tableau_reading.specs.Solving.{IsSolved}

-- what solving the system of a tree comes to
pub record IsSolvedTree (P : Problem) (m : List MatrixClause) (s : Store) (steps : List Step) (goals : List Goal) (before after budget : ℕ) (new : Store) (a : Solved) : Type 0 where
  pub labels : ¬ (a ≡ solved.Found) → IsTrue (has_labels P.setting.logic)
  pub solved : ¬ (a ≡ solved.Found) → (xs : List CellGoal) → AreGoals steps goals goals xs → IsSolved P s (tree_system m steps goals xs) before after budget new a

-- by own spares of the store the tree's choices give a closed tableau
pub record HasOwnTableau (P : Problem) (m : List MatrixClause) (d : ℕ) (s : Store) (steps : List Step) : Type 0 where
  pub solution : Solution
  pub spares : AreOwnSpares (common_spares P) s (flat_map gammas_of steps) solution (λ v. v)
  pub tableau : Tableau
  pub is_built : IsTableauBy (map (choice_at solution) (map (the_step m) steps)) tableau
  pub closed : IsTrue (is_closed P d tableau)

-- at most one step was used for each early list of lengths, and none where there are no labels
pub record IsSolving (P : Problem) (m : List MatrixClause) (s : Store) (steps : List Step) (goals : List Goal) (before after : ℕ) : Type 0 where
  pub counted : (xs : List CellGoal) → AreGoals steps goals goals xs → IsCounted P.setting.logic (AllAllowed P) s (tree_system m steps goals xs) before after
  pub none : has_labels P.setting.logic ≡ false → after ≡ before

-- more lists of lengths are early than steps were used, and all are
pub record IsEnded (P : Problem) (m : List MatrixClause) (s : Store) (steps : List Step) (goals : List Goal) (before after budget : ℕ) : Type 0 where
  pub labels : IsTrue (has_labels P.setting.logic)
  pub ended : after ≡ budget
  pub more_early : (xs : List CellGoal) → AreGoals steps goals goals xs → MoreThan lengths_cmp (AreEarly P.setting.logic (AllAllowed P) s (tree_system m steps goals xs)) (after - before)

-- what the list comes to: no closed tableau has it, or one that has it is found, or the budget is used up
abbrev pub IsDecided : Problem → List MatrixClause → ℕ → List Choice → Store → List Step → List Goal → ℕ → ℕ → ℕ → Store → Visit → Type 0
IsDecided P m d c s steps goals before after budget new visit.On = (¬ IsClosedList P d c) × (new ≡ s)
IsDecided P m d c s steps goals before after budget new (visit.Closed t) = IsTrue (is_closed P d (the_tableau t)) × (choices_of (ground_choices (the_tableau t)) ≡ c)
IsDecided P m d c s steps goals before after budget new visit.Steps = IsEnded P m s steps goals before after budget
