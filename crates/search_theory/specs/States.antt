-- A state of the search: a tableau over the cells of one store, and what it means (lifting): the trees of ground instances that follow a
-- choice list are the images of the state's tree under the ground solutions of its store.
use Rattle.std.specs.Prelude.{◌≡◌, ℕ, List, [], ◌∷◌, ◌++◌, length, map, Bool, true, ◌&&◌, Some, nat_lt, remove, IsTrue}
use Rattle.std.specs.List.{list_all, AllByRecursion}
use Rattle.calculus.specs.declared.sign.Side.{Side}
use Rattle.calculus.specs.Syntax.{Problem}
use Rattle.calculus.specs.Ground.{GroundTerms, GroundMark, Value, no_g_terms, more_g_terms, GroundLiteral}
use Rattle.calculus.specs.Instances.{ClauseInstance}
use Rattle.calculus.specs.Choices.{ChoiceOf, start, reduction, extension, Choice, GroundChoice, choices_of, Goal, Growth, growth_of}
use Rattle.store_theory.specs.Stores.{Store, Solution, Solves, names_below}
use Rattle.store_theory.specs.Systems.{CellAtom}
use Rattle.store_theory.specs.Templates.{as_term, as_value, as_label, is_choice_of_values}

-- a copied clause: its selection, the variables that stand for the values, in order, and its literals
pub record CellClause : Type 0 where
  pub selection : List Side
  pub values : List ℕ
  pub literals : List CellAtom

abbrev pub CellChoice : Type 0
CellChoice = ChoiceOf CellClause

-- a goal with the goals above it on its branch, the nearest first
pub record CellGoal : Type 0 where
  pub literal : CellAtom
  pub path : List CellAtom

-- the open goals, the leftmost first; all goals so far; and how many goals each extension's path had
pub record CellGrowth : Type 0 where
  pub open_goals : List CellGoal
  pub all_goals : List CellGoal
  pub depths : List ℕ

-- the store, the choices made, and the tree that they have grown
pub record State : Type 0 where
  pub store : Store
  pub choices : List CellChoice
  pub growth : CellGrowth

-- ---- images under ground values for the cells

abbrev pub terms_by : Solution → List ℕ → GroundTerms
terms_by σ [] = no_g_terms
terms_by σ (r ∷ rs) = more_g_terms (as_term (σ r)) (terms_by σ rs)

abbrev pub label_by : Solution → List ℕ → List GroundMark
label_by σ [] = []
label_by σ (r ∷ rs) = as_label (σ r) ++ label_by σ rs

abbrev pub values_by : Solution → List ℕ → List Value
values_by σ rs = map (λ r. as_value (σ r)) rs

abbrev pub literal_by : Solution → CellAtom → GroundLiteral
literal_by σ a = record { sign = a.sign; symbol = a.symbol; args = terms_by σ a.args; label = label_by σ a.label }

abbrev pub clause_at : Solution → CellClause → ClauseInstance
clause_at σ i = record { selection = i.selection; values = values_by σ i.values; literals = map (literal_by σ) i.literals }

abbrev pub choice_at : Solution → CellChoice → GroundChoice
choice_at σ (start i) = start (clause_at σ i)
choice_at σ (reduction up) = reduction up
choice_at σ (extension i place) = extension (clause_at σ i) place

abbrev pub goal_at : Solution → CellGoal → Goal
goal_at σ g = record { literal = literal_by σ g.literal; path = map (literal_by σ) g.path }

abbrev pub growth_at : Solution → CellGrowth → Growth
growth_at σ x = record { open_goals = map (goal_at σ) x.open_goals; all_goals = map (goal_at σ) x.all_goals; depths = x.depths }

-- ---- what the choices add to the tree

abbrev pub cell_goals_on : List CellAtom → List CellAtom → List CellGoal
cell_goals_on path literals = map (λ (x : CellAtom). record { literal = x; path = path }) literals

abbrev pub started : CellClause → CellGrowth
started i = record { open_goals = cell_goals_on [] i.literals; all_goals = cell_goals_on [] i.literals; depths = [] }

abbrev pub reduced : List CellGoal → CellGrowth → CellGrowth
reduced gs x = record x { open_goals = gs }

abbrev pub new_cell_goals : CellGoal → CellClause → ℕ → List CellGoal
new_cell_goals g i place = cell_goals_on (g.literal ∷ g.path) (remove i.literals place)

abbrev pub extended : CellGoal → List CellGoal → CellClause → ℕ → CellGrowth → CellGrowth
extended g gs i place x = record { open_goals = new_cell_goals g i place ++ gs; all_goals = x.all_goals ++ new_cell_goals g i place; depths = x.depths ++ length g.path ∷ [] }

-- ---- what a state keeps: it names cells of its store

abbrev pub atom_is_below : ℕ → CellAtom → Bool
atom_is_below n a = names_below n a.args && names_below n a.label

abbrev pub clause_is_below : ℕ → CellClause → Bool
clause_is_below n i = names_below n i.values && list_all (atom_is_below n) i.literals

abbrev pub choice_is_below : ℕ → CellChoice → Bool
choice_is_below n (start i) = clause_is_below n i
choice_is_below n (reduction up) = true
choice_is_below n (extension i place) = clause_is_below n i

abbrev pub goal_is_below : ℕ → CellGoal → Bool
goal_is_below n g = atom_is_below n g.literal && list_all (atom_is_below n) g.path

pub record NamesCells (S : State) : Type 0 where
  pub choices : IsTrue (list_all (choice_is_below (length S.store.cells)) S.choices)
  pub open_goals : IsTrue (list_all (goal_is_below (length S.store.cells)) S.growth.open_goals)
  pub all_goals : IsTrue (list_all (goal_is_below (length S.store.cells)) S.growth.all_goals)

-- ---- ground solutions

-- the values of the clause are admitted, and its strings are steps
abbrev pub IsAdmittedAt : Problem → Solution → CellChoice → Type 0
IsAdmittedAt P σ (start i) = IsTrue (is_choice_of_values P (values_by σ i.values))
IsAdmittedAt P σ (reduction up) = Unit {0}
IsAdmittedAt P σ (extension i place) = IsTrue (is_choice_of_values P (values_by σ i.values))

-- ground values for the cells that meet all bindings, and by which each copied clause is an instance
pub record IsGround (P : Problem) (S : State) (σ : Solution) : Type 0 where
  pub solves : Solves S.store σ
  pub admitted : AllByRecursion (IsAdmittedAt P σ) S.choices

abbrev pub name_of : CellChoice → Choice
name_of (start i) = start i.selection
name_of (reduction up) = reduction up
name_of (extension i place) = extension i.selection place

-- the trees of ground instances that follow the choice list c within the limit d are the images of the state under its ground solutions
pub record IsStateOf (P : Problem) (d : ℕ) (c : List Choice) (S : State) : Type 0 where
  pub names : map name_of S.choices ≡ c
  pub within : IsTrue (list_all (λ n. nat_lt n d) S.growth.depths)
  pub cells : NamesCells S
  -- each image is such a tree
  pub sound : (σ : Solution) → IsGround P S σ → growth_of P (map (choice_at σ) S.choices) ≡ Some (growth_at σ S.growth)
  -- each such tree is an image
  pub complete : (gs : List GroundChoice) (x : Growth) → choices_of gs ≡ c → growth_of P gs ≡ Some x → (σ : Solution) × IsGround P S σ × (map (choice_at σ) S.choices ≡ gs)

-- ---- what the search asks of copying and unification, in terms of ground solutions

-- the two solutions agree on the first n cells
abbrev pub Agree : ℕ → Solution → Solution → Type 0
Agree n σ τ = (r : ℕ) → IsTrue (nat_lt r n) → σ r ≡ τ r
