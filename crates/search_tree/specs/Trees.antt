-- What the program's tree stands for: its choices, its goals with their paths and the list of those that are open, which are linked
-- through the list of all goals, and its system.
use Rattle.std.specs.Prelude.{◌≡◌, ◌<◌, ◌≤◌, ◌+◌, ◌++◌, ℕ, zero, suc, List, [], ◌∷◌, drop, map, take, length, sum_by, Option, None, Some, slice_get, ⊤}
use Rattle.std.specs.List.{AllByRecursion, flat_map}
use Rattle.calculus.specs.declared.sort.Sort.{Sort}
use Rattle.calculus.specs.Choices.{start, reduction, extension}
use Rattle.store_theory.specs.Stores.{GammaCell}
use Rattle.store_theory.specs.Systems.{CellAtom, Equation, System}
use Rattle.search_theory.specs.Matrix.{MatrixClause}
use Rattle.search_theory.specs.OrderedChoices.{selection_of}
use Rattle.search_theory.specs.StateSystems.{pairs_of, string_cells}
use Rattle.search_theory.specs.States.{CellClause, CellChoice, CellGoal, CellGrowth}
use Rattle.term_store.specs.ClauseView.{the_atom}
use Rattle.term_store.specs.RefView.{the_places}
use Rattle.search_tree.specs.declared.tree.Copied.{Copied}
use Rattle.search_tree.specs.declared.tree.Goal.{Goal}
use Rattle.search_tree.specs.declared.tree.Step.{Step}
use Rattle.search_tree.specs.declared.tree.Step.TheVariants.{Start, Reduce, Extend}

-- ---- choices

-- the list with one item more at a place
abbrev pub inserted : {A : Type 0} → ℕ → A → List A → List A
inserted place x xs = take place xs ++ x ∷ drop place xs

-- the copied clause with these literals
abbrev pub clause_with : List MatrixClause → Copied → List CellAtom → CellClause
clause_with m c literals = record {
  selection = selection_of (slice_get m c.clause.0);
  values = the_places c.copy.variables;
  literals = literals;
}

abbrev pub the_step : List MatrixClause → Step → CellChoice
the_step m (Start c) = start (clause_with m c c.copy.literals)
the_step m (Reduce goal up ancestor) = reduction up
the_step m (Extend goal c place atom) = extension (clause_with m c (inserted place (the_atom atom) c.copy.literals)) place

-- ---- goals

-- the literals of the goals that the step gave
abbrev pub goals_of : Step → List CellAtom
goals_of (Start c) = c.copy.literals
goals_of (Reduce goal up ancestor) = []
goals_of (Extend goal c place atom) = c.copy.literals

abbrev pub atom_in : ℕ → Option Step → Option CellAtom
atom_in literal None = None
atom_in literal (Some s) = slice_get (goals_of s) literal

abbrev pub atom_at : List Step → Goal → Option CellAtom
atom_at steps g = atom_in g.literal (slice_get steps g.step)

-- the goals from this one upwards have these literals
abbrev pub IsPath : List Step → List Goal → Option ℕ → List CellAtom → Type 0
IsPath steps goals k [] = k ≡ None
IsPath steps goals k (a ∷ path) = (i : ℕ) × (g : Goal) × (k ≡ Some i) × (slice_get goals i ≡ Some g) × (atom_at steps g ≡ Some a) × IsPath steps goals g.above path

-- the program's goal is this one
pub record IsGoal (steps : List Step) (goals : List Goal) (g : Goal) (x : CellGoal) : Type 0 where
  pub literal : atom_at steps g ≡ Some x.literal
  pub path : IsPath steps goals g.above x.path
  pub depth : g.depth ≡ length x.path

-- the goal of this number is this one
pub record IsGoalAt (steps : List Step) (goals : List Goal) (i : ℕ) (x : CellGoal) : Type 0 where
  pub goal : Goal
  pub stands : slice_get goals i ≡ Some goal
  pub is_goal : IsGoal steps goals goal x

-- the goals that are open from this one on
abbrev pub AreOpen : List Step → List Goal → Option ℕ → List CellGoal → Type 0
AreOpen steps goals k [] = k ≡ None
AreOpen steps goals k (x ∷ xs) = (i : ℕ) × (g : Goal) × (k ≡ Some i) × (slice_get goals i ≡ Some g) × IsGoal steps goals g x × AreOpen steps goals g.behind xs

-- the goals `some` of all these goals
abbrev pub AreGoals : List Step → List Goal → List Goal → List CellGoal → Type 0
AreGoals steps goals [] xs = xs ≡ []
AreGoals steps goals (g ∷ some) xs = (x : CellGoal) × (ys : List CellGoal) × (xs ≡ x ∷ ys) × IsGoal steps goals g x × AreGoals steps goals some ys

-- the step's clause is one of the matrix, and its connected literal has a place there
abbrev pub IsBuiltStep : List MatrixClause → Step → Type 0
IsBuiltStep m (Start c) = c.clause.0 < length m
IsBuiltStep m (Reduce goal up ancestor) = ⊤
IsBuiltStep m (Extend goal c place atom) = (c.clause.0 < length m) × (place ≤ length c.copy.literals)

-- the goal of this number has an atom
abbrev pub HasAtom : List Step → List Goal → ℕ → Type 0
HasAtom steps goals i = (g : Goal) × (a : CellAtom) × (slice_get goals i ≡ Some g) × (atom_at steps g ≡ Some a)

-- the goals that the step names stand in the tree
abbrev pub IsLinkedStep : List Step → List Goal → Step → Type 0
IsLinkedStep steps goals (Start c) = ⊤
IsLinkedStep steps goals (Reduce goal up ancestor) = HasAtom steps goals goal × HasAtom steps goals ancestor
IsLinkedStep steps goals (Extend goal c place atom) = HasAtom steps goals goal

-- the tree stands for these choices and this growth
pub record IsTree (m : List MatrixClause) (steps : List Step) (all : List Goal) (first : Option ℕ) (choices : List CellChoice) (x : CellGrowth) : Type 0 where
  pub made : map (the_step m) steps ≡ choices
  pub built : AllByRecursion (IsBuiltStep m) steps
  pub linked : AllByRecursion (IsLinkedStep steps all) steps
  pub goals : AreGoals steps all all x.all_goals
  pub open_goals : AreOpen steps all first x.open_goals

-- choices and goals came behind those that were there
abbrev pub KeepsTree : List Step → List Goal → List Step → List Goal → Type 0
KeepsTree steps goals after all = ((more : List Step) × (after ≡ steps ++ more)) × ((others : List Goal) × (all ≡ goals ++ others))

-- ---- the system of the tree

abbrev pub label_of : Option CellAtom → List ℕ
label_of None = []
label_of (Some a) = a.label

-- the label of the goal of this number
abbrev pub goal_label : List Step → Option Goal → List ℕ
goal_label steps None = []
goal_label steps (Some g) = label_of (atom_at steps g)

-- a connection makes two labels equal: those of the goal and of its ancestor, or of the connected literal
abbrev pub equations_of : List Step → List Goal → Step → List Equation
equations_of steps goals (Start c) = []
equations_of steps goals (Reduce goal up ancestor) = record { left = goal_label steps (slice_get goals goal); right = goal_label steps (slice_get goals ancestor) } ∷ []
equations_of steps goals (Extend goal c place atom) = record { left = goal_label steps (slice_get goals goal); right = (the_atom atom).label } ∷ []

-- the sorts of the clause's variables
abbrev pub sorts_of : Option MatrixClause → List Sort
sorts_of None = []
sorts_of (Some c) = c.template.sorts

-- what a copied clause brings: the variables for strings, its pi steps and its gamma terms
abbrev pub strings_in : List MatrixClause → Copied → List ℕ
strings_in m c = string_cells (sorts_of (slice_get m c.clause.0)) (the_places c.copy.variables)

abbrev pub strings_of : List MatrixClause → Step → List ℕ
strings_of m (Start c) = strings_in m c
strings_of m (Reduce goal up ancestor) = []
strings_of m (Extend goal c place atom) = strings_in m c

abbrev pub pis_of : Step → ℕ
pis_of (Start c) = c.copy.pis
pis_of (Reduce goal up ancestor) = 0
pis_of (Extend goal c place atom) = c.copy.pis

abbrev pub gammas_of : Step → List GammaCell
gammas_of (Start c) = c.copy.gammas
gammas_of (Reduce goal up ancestor) = []
gammas_of (Extend goal c place atom) = c.copy.gammas

-- what the choices ask of labels, strings and gamma terms, with the pairs of all goals with those above them
abbrev pub tree_system : List MatrixClause → List Step → List Goal → List CellGoal → System
tree_system m steps goals every = record {
  equations = flat_map (equations_of steps goals) steps;
  strings = flat_map (strings_of m) steps;
  pis = sum_by pis_of steps;
  gammas = flat_map gammas_of steps;
  pairs = pairs_of every;
}

-- ---- goals that come

-- the goal that is open from the literal j on, of which `left` are left: the goals of the clause begin with the number `first`
abbrev pub link_from : ℕ → Option ℕ → ℕ → ℕ → Option ℕ
link_from first behind j zero = behind
link_from first behind j (suc left) = Some (first + j)

-- the goals of the literals from j on, of which `left` are left
abbrev pub fresh_goals : ℕ → ℕ → Option ℕ → Option ℕ → ℕ → ℕ → ℕ → List Goal
fresh_goals step first above behind depth j zero = []
fresh_goals step first above behind depth j (suc left) =
    record { step = step; literal = j; above = above; behind = link_from first behind (suc j) left; depth = depth }
    ∷ fresh_goals step first above behind depth (suc j) left
