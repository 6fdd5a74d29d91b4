-- The loop of the search: the choice points on the stack, and how far the search at one limit has come.
use Rattle.std.specs.Prelude.{◌≡◌, ◌⊎◌, ◌≤◌, ◌+◌, ◌-◌, ℕ, List, [], ◌∷◌, ◌++◌, Bool, Option, IsTrue, ⊤, length, reverse}
use Rattle.std.specs.List.{AllByRecursion}
use Rattle.store_theory.specs.Bindings.{IsEarlier}
use Rattle.calculus.specs.Choices.{Choice}
use Rattle.calculus.specs.Counting.{AtLeastMany, MoreThan}
use Rattle.calculus.specs.Problems.{is_problem}
use Rattle.calculus.specs.Space.{IsEarly, Member, member_cmp}
use Rattle.store_theory.specs.Stores.{IsGood, Store, TrailMark, cut_at}
use Rattle.calculus.specs.Syntax.{Problem}
use Rattle.calculus.specs.Tableaux.{is_closed}
use Rattle.search_theory.specs.DeadEnds.{is_not_empty}
use Rattle.search_theory.specs.Exploring.{behind}
use Rattle.search_theory.specs.Jumps.{AreSolvedBehind, ChoicePoint}
use Rattle.search_theory.specs.Matrix.{MatrixClause}
use Rattle.search_theory.specs.Searching.{IsSearch}
use Rattle.search_theory.specs.States.{CellGoal}
use Rattle.tableau_core.specs.Numbered.TableauView.{the_tableau}
use Rattle.term_store.specs.StoreView.{the_mark}
use Rattle.search_tree.specs.Points.{IsPoint}
use Rattle.search_tree.specs.Running.{IsAtGoal, IsMatrixOf, StandsFor}
use Rattle.search_tree.specs.Seeing.{HasSeen, no_goal}
use Rattle.search_tree.specs.Weights.{greatest_weight, weight, weight_of_all}
use Rattle.connection_search.specs.declared.visit.Visit.{Visit}
use Rattle.connection_search.specs.declared.visit.Visit.TheVariants as visit
use Rattle.search_tree.specs.declared.point.Point.{Point}
use Rattle.search_tree.specs.declared.tree.Goal.{Goal}
use Rattle.search_tree.specs.declared.tree.Step.{Step}

-- the space of a problem at this limit
pub record IsSpace (P : Problem) (m : List MatrixClause) (d : ℕ) : Type 0 where
  pub problem : IsTrue (is_problem P)
  pub matrix : IsMatrixOf P m
  pub from_one : 1 ≤ d
  pub to_200 : d ≤ 200

-- ---- points

-- the point q was made before p
pub record IsBefore (p q : Point) : Type 0 where
  pub marks : IsEarlier (the_mark q.mark) (the_mark p.mark)
  pub steps : q.steps ≤ p.steps
  pub goals : q.goals ≤ p.goals

-- choice points, the last one first, and the lists that are pending on them
abbrev pub ArePointsFrom : Problem → List MatrixClause → ℕ → ℕ → Store → List Step → List Goal → List Point → List (List Choice) → Type 0
ArePointsFrom P m base d s steps goals [] pending = pending ≡ []
ArePointsFrom P m base d s steps goals (p ∷ ps) pending =
    (c : List Choice) × (untried : List Choice) × (g : CellGoal) × (below : List (List Choice))
    × (pending ≡ behind c untried ++ below)
    × IsPoint P m base d s steps goals p c untried g
    × AllByRecursion (IsBefore p) ps
    × ArePointsFrom P m base d s steps goals ps below

-- the point as the goals above it see it
abbrev pub choice_point : Point → List Choice → List Choice → ChoicePoint
choice_point p c untried = record { list = c; goals = p.goals; lowest = p.lowest; pending = behind c untried }

abbrev pub traced : (P : Problem) (m : List MatrixClause) (base d : ℕ) (s : Store) (steps : List Step) (goals : List Goal) (points : List Point) (pending : List (List Choice)) → ArePointsFrom P m base d s steps goals points pending → List ChoicePoint
traced P m base d s steps goals [] pending h = []
traced P m base d s steps goals (p ∷ points) pending (c, untried, g, below, e, point, before, rest) = choice_point p c untried ∷ traced P m base d s steps goals points below rest

-- choice points, the last one first, behind which `before` is pending: a goal that was not solved since its point was made is closed by
-- lists behind what is pending on it and on later points, or not at all
pub record IsStack (P : Problem) (m : List MatrixClause) (base d : ℕ) (s : Store) (steps : List Step) (goals : List Goal) (before : List (List Choice)) (points : List Point) (pending : List (List Choice)) : Type 0 where
  pub are : ArePointsFrom P m base d s steps goals points pending
  pub solved : AreSolvedBehind P d no_goal before (traced P m base d s steps goals points pending are)

-- the points were made after the moment
abbrev pub AreAbove : TrailMark → List Point → Type 0
AreAbove k points = AllByRecursion (λ (p : Point). IsEarlier k (the_mark p.mark)) points

-- the moment is kept
abbrev pub KeepsMoment : TrailMark → Store → Store → Type 0
KeepsMoment k before after = IsGood k after × (cut_at k after ≡ cut_at k before)

-- the points after a visit that does not end the search: no more is left to try at them, or there is one more, for which one step was
-- used
abbrev pub ArePushed : List Point → List Point → ℕ → ℕ → Type 0
ArePushed before after used used_after =
    ((weight_of_all after ≤ weight_of_all before) × (used ≤ used_after))
    ⊎ ((p : Point) × (after ≡ before ++ p ∷ []) × (used_after ≡ used + 1) × (weight p ≤ greatest_weight))

-- ---- how far the search has come

-- at most one step was used for each member that is spent, and these lists are pending
pub record IsSearched (P : Problem) (d : ℕ) (pending : List (List Choice)) (begun used : ℕ) (left : Bool) : Type 0 where
  pub spent : List Member
  pub search : IsSearch P d spent pending left
  pub from : begun ≤ used
  pub count : used ≤ begun + length spent

-- what is pending on the points comes next, and then `later`
pub record IsExploring (P : Problem) (m : List MatrixClause) (base d : ℕ) (s : Store) (steps : List Step) (goals : List Goal) (stack : List Point) (later : List (List Choice)) (begun used : ℕ) (left : Bool) : Type 0 where
  pub pending : List (List Choice)
  pub points : IsStack P m base d s steps goals [] (reverse stack) pending
  pub searched : IsSearched P d (pending ++ later) begun used left

-- all choices of the last point were tried: the state is that in which it was made
pub record IsSpentAt (P : Problem) (m : List MatrixClause) (base d : ℕ) (s : Store) (steps : List Step) (goals : List Goal) (p : Point) (points : List Point) (later : List (List Choice)) (begun used : ℕ) (left : Bool) : Type 0 where
  pub choices : List Choice
  pub goal : CellGoal
  pub below : List (List Choice)
  pub at : IsAtGoal P m base d choices s steps goals p.goal goal
  pub before : AllByRecursion (IsBefore p) points
  pub rest : ArePointsFrom P m base d s steps goals points below
  pub solved : AreSolvedBehind P d no_goal [] (choice_point p choices [] ∷ traced P m base d s steps goals points below rest)
  pub searched : IsSearched P d (below ++ later) begun used left

-- the list of the state comes next, then what is pending on the points, and then `later`
pub record IsVisiting (P : Problem) (m : List MatrixClause) (base d : ℕ) (s : Store) (steps : List Step) (goals : List Goal) (first : Option ℕ) (stack : List Point) (later : List (List Choice)) (begun used : ℕ) (left : Bool) : Type 0 where
  pub choices : List Choice
  pub stands : StandsFor P m base d choices s steps goals first
  pub not_empty : IsTrue (is_not_empty choices)
  pub pending : List (List Choice)
  pub points : IsStack P m base d s steps goals (choices ∷ []) (reverse stack) pending
  pub seen : HasSeen first (reverse stack)
  pub searched : IsSearched P d (choices ∷ pending ++ later) begun used left

-- ---- what comes out

abbrev pub IfOn : Visit → Type 0 → Type 0
IfOn visit.On Q = Q
IfOn (visit.Closed t) Q = ⊤
IfOn visit.Steps Q = ⊤

-- why the search ends
abbrev pub IsEnd : Problem → ℕ → ℕ → ℕ → ℕ → Visit → Type 0
IsEnd P d begun used budget visit.On = ⊤
IsEnd P d begun used budget (visit.Closed t) = IsTrue (is_closed P d (the_tableau t))
IsEnd P d begun used budget visit.Steps = (used ≡ budget) × MoreThan member_cmp (IsEarly P d) (used - begun)

-- at most one step was used for each early member
abbrev pub IsCounted : Problem → ℕ → ℕ → ℕ → Type 0
IsCounted P d begun used = (begun ≤ used) × AtLeastMany member_cmp (IsEarly P d) (used - begun)
