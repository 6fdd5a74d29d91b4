-- States of the search, and the program's tree that stands for one.
use Rattle.std.specs.Prelude.{◌≡◌, ◌==◌, ◌+◌, ℕ, suc, List, [], ◌∷◌, ◌++◌, ◌≤◌, length, not, Bool, true, false, Option, None, Some, slice_get, nat_le, nat_lt, IsTrue}
use Rattle.std.specs.List.{AllByRecursion, list_all, list_any}
use Rattle.calculus.specs.declared.sign.Side.{Side}
use Rattle.store_theory.specs.Bindings.{IsWellFormed}
use Rattle.calculus.specs.Choices.{Choice, IsLeft, extension}
use Rattle.calculus.specs.Equality.{sign_eq}
use Rattle.store_theory.specs.Patterns.{PatternAtom}
use Rattle.calculus.specs.Problems.{formula_fits}
use Rattle.store_theory.specs.Stores.{EndsAt, Store}
use Rattle.calculus.specs.Syntax.{Problem}
use Rattle.store_theory.specs.Systems.{CellAtom, IsOpenString, System, cells_of}
use Rattle.search_theory.specs.DeadEnds.{IsDead}
use Rattle.search_theory.specs.Goals.{IsChoiceAt}
use Rattle.search_theory.specs.Jumps.{NamesVariables}
use Rattle.search_theory.specs.Matrix.{IsTemplateMatrix, MatrixClause, MatrixPlace}
use Rattle.search_theory.specs.Regular.{HasNoSamePair}
use Rattle.search_theory.specs.CellsIn.{IsChoiceIn, IsGoalIn}
use Rattle.search_theory.specs.StateSystems.{IsSystemOf}
use Rattle.search_theory.specs.States.{CellChoice, CellGoal, CellGrowth, IsStateOf, State}
use Rattle.search_tree.specs.OwnStores.{AreOwn}
use Rattle.search_tree.specs.Trees.{IsTree, atom_at, tree_system}
use Rattle.search_tree.specs.declared.tree.Goal.{Goal}
use Rattle.search_tree.specs.declared.tree.Step.{Step}
use Rattle.search_tree.specs.declared.tree.Tree.{Tree}
use Rattle.term_store.specs.Room.{TermStore}

-- each unbound string from the number `base` on is one of the system's
abbrev pub NamesStringsFrom : ℕ → Store → System → Type 0
NamesStringsFrom base s y = (v : ℕ) → base ≤ v → IsOpenString s v → (i : ℕ) × (r : ℕ) × (slice_get y.strings i ≡ Some r) × EndsAt s r v

-- a state over cells from the number `base` on, which are the search's own, and its system
pub record IsRunning (P : Problem) (base d : ℕ) (c : List Choice) (S : State) (y : System) : Type 0 where
  pub state : IsStateOf P d c S
  pub well : IsWellFormed S.store
  pub from : base ≤ length S.store.cells
  pub own : AreOwn P base S.store
  pub choices : AllByRecursion (IsChoiceIn (λ r. base ≤ r) S.store) S.choices
  pub open_goals : AllByRecursion (IsGoalIn (λ r. base ≤ r) S.store) S.growth.open_goals
  pub goals : AllByRecursion (IsGoalIn (λ r. base ≤ r) S.store) S.growth.all_goals
  pub system : IsSystemOf P S y
  pub cells : IsTrue (list_all (nat_le base) (cells_of y))
  pub strings : NamesStringsFrom base S.store y
  pub variables : NamesVariables base S.store S.choices

-- the program's store and tree stand for such a state
pub record IsAt (P : Problem) (m : List MatrixClause) (base d : ℕ) (c : List Choice) (s : Store) (steps : List Step) (goals : List Goal) (first : Option ℕ) (cs : List CellChoice) (x : CellGrowth) : Type 0 where
  pub running : IsRunning P base d c (record { store = s; choices = cs; growth = x }) (tree_system m steps goals x.all_goals)
  pub tree : IsTree m steps goals first cs x

-- the matrix is that of the problem, whose formula fits
pub record IsMatrixOf (P : Problem) (m : List MatrixClause) : Type 0 where
  pub fits : IsTrue (formula_fits P.setting.logic P.symbols 0 P.formula)
  pub matrix : IsTemplateMatrix P m

-- they stand for some such state
abbrev pub StandsFor : Problem → List MatrixClause → ℕ → ℕ → List Choice → Store → List Step → List Goal → Option ℕ → Type 0
StandsFor P m base d c s steps goals first = (cs : List CellChoice) × (x : CellGrowth) × IsAt P m base d c s steps goals first cs x

-- they stand for one without open goals, none of whose goals is the same as one above it
abbrev pub StandsWhole : Problem → List MatrixClause → ℕ → ℕ → List Choice → Store → List Step → List Goal → Option ℕ → Type 0
StandsWhole P m base d c s steps goals first = (cs : List CellChoice) × (x : CellGrowth) × IsAt P m base d c s steps goals first cs x × HasNoSamePair (record { store = s; choices = cs; growth = x }) × (first ≡ None)

-- the same as `StandsFor`, where an extension was made from a path of n goals
abbrev pub StandsDeep : Problem → List MatrixClause → ℕ → ℕ → List Choice → Store → List Step → List Goal → Option ℕ → ℕ → Type 0
StandsDeep P m base d c s steps goals first n = (cs : List CellChoice) × (x : CellGrowth) × IsAt P m base d c s steps goals first cs x × IsTrue (list_any (λ k. k == n) x.depths)

-- they stand for a state whose leftmost open goal is g, which has this number
pub record IsAtGoal (P : Problem) (m : List MatrixClause) (base d : ℕ) (c : List Choice) (s : Store) (steps : List Step) (goals : List Goal) (goal : ℕ) (g : CellGoal) : Type 0 where
  pub made : List CellChoice
  pub behind : List CellGoal
  pub every : List CellGoal
  pub depths : List ℕ
  pub at : IsAt P m base d c s steps goals (Some goal) made (record { open_goals = g ∷ behind; all_goals = every; depths = depths })

-- the ancestor of this number is this goal, which has the goal's symbol and the other sign
pub record ReducesBy (steps : List Step) (goals : List Goal) (g : CellGoal) (up ancestor : ℕ) : Type 0 where
  pub number : ℕ
  pub is_number : up ≡ suc number
  pub atom : CellAtom
  pub on_path : slice_get g.path number ≡ Some atom
  pub goal : Goal
  pub stands : slice_get goals ancestor ≡ Some goal
  pub is_atom : atom_at steps goal ≡ Some atom
  pub signs : IsTrue (not (sign_eq g.literal.sign atom.sign))
  pub symbols : g.literal.symbol ≡ atom.symbol

-- the literal at the place has the goal's symbol and the other sign, and the path has room for an extension
pub record ExtendsBy (m : List MatrixClause) (d : ℕ) (g : CellGoal) (p : MatrixPlace) : Type 0 where
  pub deep : IsTrue (nat_lt (length g.path) d)
  pub limit : d ≤ 201
  pub clause : MatrixClause
  pub stands : slice_get m p.clause ≡ Some clause
  pub literal : PatternAtom
  pub there : slice_get clause.template.literals p.literal ≡ Some literal
  pub signs : IsTrue (not (sign_eq g.literal.sign literal.sign))
  pub symbols : g.literal.symbol ≡ literal.symbol

-- where it was not known whether the limit is left, what is found of it at the goal: that it is, or that no extension of a path with as
-- many goals as the limit gives a regular tree
pub record IsLeftFound (P : Problem) (d : ℕ) (c : List Choice) (g : CellGoal) (known left : Bool) : Type 0 where
  pub is_left : left ≡ true → known ≡ false → IsLeft P d
  pub unknown : left ≡ false → known ≡ false
  pub dead : left ≡ false → length g.path ≡ d → (sides : List Side) (place : ℕ) → IsChoiceAt P (d + 1) g (extension sides place) → IsDead P (c ++ extension sides place ∷ [])

-- ---- the same, by the program's store and tree

abbrev pub TreeStands : Problem → List MatrixClause → ℕ → ℕ → List Choice → TermStore → Tree → Type 0
TreeStands P m base d c s t = StandsFor P m base d c s.store t.steps.items t.goals.items t.open

abbrev pub TreeStandsWhole : Problem → List MatrixClause → ℕ → ℕ → List Choice → TermStore → Tree → Type 0
TreeStandsWhole P m base d c s t = StandsWhole P m base d c s.store t.steps.items t.goals.items t.open

abbrev pub TreeStandsDeep : Problem → List MatrixClause → ℕ → ℕ → List Choice → TermStore → Tree → ℕ → Type 0
TreeStandsDeep P m base d c s t n = StandsDeep P m base d c s.store t.steps.items t.goals.items t.open n

abbrev pub GoalStands : Problem → List MatrixClause → ℕ → ℕ → List Choice → TermStore → Tree → ℕ → CellGoal → Type 0
GoalStands P m base d c s t goal g = IsAtGoal P m base d c s.store t.steps.items t.goals.items goal g
