-- Values that tell the variables of the goals apart make goals that are not the same differ, labels included, so that the tree is
-- regular.
use Rattle.std.proofs.Common.{ℕ, List, [], ◌∷◌, map, IsTrue, refl}
use Rattle.std.specs.List.{list_all, list_any, AllByRecursion}
use Rattle.std.proofs.lemmas.Bool.{and_from}
use Rattle.calculus.specs.Syntax.{Problem}
use Rattle.calculus.specs.Equality.{literal_eq}
use Rattle.calculus.specs.Tableaux.{is_new_on}
use Rattle.calculus.specs.Choices.{Goal, is_regular}
use Rattle.store_theory.specs.Stores.{Store, is_store, Solution}
use Rattle.store_theory.specs.Systems.{CellAtom}
use Rattle.search_theory.specs.States.{CellGoal, State, literal_by, goal_at, growth_at}
use Rattle.search_theory.specs.Regular.{AreSame, IsNewGoal, HasNoSamePair}
use Rattle.search_theory.specs.LabelledCells.{AreLabelled}
use Rattle.search_theory.proofs.SpareLaws.{IsRanked}
use Rattle.search_theory.proofs.RegularLaws.{any-of, not-any, each-at}
use Rattle.search_theory.proofs.DistinctLaws.{AreDistinct}
use Rattle.search_theory.proofs.AtomLaws.{atoms-same}
use Rattle.search_theory.specs.CellsIn.{IsAtomIn, IsChoiceIn, IsGoalIn}

-- ---- values that tell variables apart give a regular tree

new-goal : (In : ℕ → Type 0) (s : Store) (rank : ℕ → ℕ) (bound : ℕ) (σ : Solution) (number : ℕ → ℕ) → IsTrue (is_store s) → IsRanked s rank bound → AreDistinct In s σ number → (g : CellGoal) → IsGoalIn In s g → IsNewGoal s g → IsTrue (is_new_on (map (literal_by σ) g.path) (literal_by σ g.literal))
new-goal In s rank bound σ number h ranked d g i n =
    not-any (list_any (literal_eq (literal_by σ g.literal)) (map (literal_by σ) g.path)) (λ k.
    let (j, a, at, e) = any-of σ (literal_by σ g.literal) g.path k in
    each-at (λ (x : CellAtom). ¬ AreSame s g.literal x) g.path j a n at (atoms-same In s rank bound σ number h ranked d g.literal a i.literal (each-at (IsAtomIn In s) g.path j a i.path at) e))

goals-new : (In : ℕ → Type 0) (s : Store) (rank : ℕ → ℕ) (bound : ℕ) (σ : Solution) (number : ℕ → ℕ) → IsTrue (is_store s) → IsRanked s rank bound → AreDistinct In s σ number → (gs : List CellGoal) → AllByRecursion (IsGoalIn In s) gs → AllByRecursion (IsNewGoal s) gs → IsTrue (list_all (λ (g : Goal). is_new_on g.path g.literal) (map (goal_at σ) gs))
goals-new In s rank bound σ number h ranked d [] i n = refl
goals-new In s rank bound σ number h ranked d (g ∷ gs) i n = and_from (is_new_on (map (literal_by σ) g.path) (literal_by σ g.literal)) (list_all (λ (x : Goal). is_new_on x.path x.literal) (map (goal_at σ) gs)) (new-goal In s rank bound σ number h ranked d g i.0 n.0) (goals-new In s rank bound σ number h ranked d gs i.1 n.1)

pub regular-by_distinct : (In : ℕ → Type 0) (S : State) (rank : ℕ → ℕ) (bound : ℕ) (σ : Solution) (number : ℕ → ℕ) → IsTrue (is_store S.store) → IsRanked S.store rank bound → AreDistinct In S.store σ number → AllByRecursion (IsGoalIn In S.store) S.growth.all_goals → HasNoSamePair S → IsTrue (is_regular (growth_at σ S.growth))
regular-by_distinct In S rank bound σ number h ranked d i n = goals-new In S.store rank bound σ number h ranked d S.growth.all_goals i n

-- ---- states of a search with labels

-- the cells of In are built right, and the state's clauses and goals are over them
pub record IsLabelledState (P : Problem) (In : ℕ → Type 0) (S : State) (rank : ℕ → ℕ) (bound : ℕ) : Type 0 where
  pub store : IsTrue (is_store S.store)
  pub ranked : IsRanked S.store rank bound
  pub labelled : AreLabelled P In S.store
  pub choices : AllByRecursion (IsChoiceIn In S.store) S.choices
  pub goals : AllByRecursion (IsGoalIn In S.store) S.growth.all_goals
