-- The loop of the search that does not return to solved goals: the choice points of the goals that are being solved, and what comes out.
use Rattle.std.specs.Prelude.{◌≡◌, ◌≤◌, ◌+◌, ◌-◌, ℕ, List, [], ◌∷◌, ◌++◌, Bool, Option, IsTrue, ⊤, length, reverse}
use Rattle.std.specs.List.{AllByRecursion}
use Rattle.calculus.specs.Choices.{Choice}
use Rattle.calculus.specs.Counting.{AtLeastMany, MoreThan}
use Rattle.calculus.specs.Cut.{Cuts, IsCut, IsRegularLive}
use Rattle.calculus.specs.Space.{Member, member_cmp}
use Rattle.store_theory.specs.Stores.{Store}
use Rattle.calculus.specs.Syntax.{Problem}
use Rattle.calculus.specs.declared.sign.Side.{Side}
use Rattle.search_theory.specs.DeadEnds.{is_not_empty}
use Rattle.search_theory.specs.Cutting.{AreLevels, FailsFrom, IsNext, IsToldOf, Level, pending_on}
use Rattle.search_theory.specs.Exploring.{IsMemberAt, Passes}
use Rattle.search_theory.specs.Matrix.{MatrixClause}
use Rattle.search_theory.specs.States.{CellGoal}
use Rattle.tableau_core.specs.Numbered.TableauView.{the_tableau}
use Rattle.connection_search.specs.Exploring.{IsBefore}
use Rattle.search_tree.specs.Points.{IsPoint}
use Rattle.search_tree.specs.Running.{StandsFor}
use Rattle.connection_search.specs.declared.visit.Visit.{Visit}
use Rattle.connection_search.specs.declared.visit.Visit.TheVariants as visit
use Rattle.search_tree.specs.declared.point.Point.{Point}
use Rattle.search_tree.specs.declared.tree.Goal.{Goal}
use Rattle.search_tree.specs.declared.tree.Step.{Step}

-- ---- how far the search has come

-- at most one step was used for each member that is spent, and these lists come next
pub record IsPassing (P : Problem) (d : ℕ) (pending : List (List Choice)) (begun used : ℕ) : Type 0 where
  pub spent : List Member
  pub passes : Passes P d spent pending
  pub from : begun ≤ used
  pub count : used ≤ begun + length spent

-- each level has a choice point, at which the choices behind the level's are left to try; the last one comes first
abbrev pub AreLevelPoints : Problem → List MatrixClause → ℕ → ℕ → Store → List Step → List Goal → List Point → List Level → Type 0
AreLevelPoints P m base d s steps goals [] [] = ⊤
AreLevelPoints P m base d s steps goals [] (l ∷ ls) = ⊥
AreLevelPoints P m base d s steps goals (p ∷ ps) [] = ⊥
AreLevelPoints P m base d s steps goals (p ∷ ps) (l ∷ ls) =
    (g : CellGoal)
    × IsPoint P m base d s steps goals p l.before l.rest g
    × AllByRecursion (IsBefore p) ps
    × AreLevelPoints P m base d s steps goals ps ls

-- the choices behind that of the last level come next, at each limit of which the search tells
pub record IsCutExploring (P : Problem) (m : List MatrixClause) (base d : ℕ) (sides : List Side) (s : Store) (steps : List Step) (goals : List Goal) (stack : List Point) (later : List (List Choice)) (begun used : ℕ) (left : Bool) : Type 0 where
  pub levels : List Level
  pub next : (e : ℕ) → IsToldOf d left e → IsNext P e sides levels
  pub points : AreLevelPoints P m base d s steps goals (reverse stack) levels
  pub passing : IsPassing P d (pending_on levels ++ later) begun used

-- the list of the state comes next
pub record IsCutVisiting (P : Problem) (m : List MatrixClause) (base d : ℕ) (sides : List Side) (s : Store) (steps : List Step) (goals : List Goal) (first : Option ℕ) (stack : List Point) (later : List (List Choice)) (begun used : ℕ) (left : Bool) : Type 0 where
  pub choices : List Choice
  pub stands : StandsFor P m base d choices s steps goals first
  pub not_empty : IsTrue (is_not_empty choices)
  pub sound : IsRegularLive P d choices
  pub levels : List Level
  pub goals_left : ℕ
  pub solving : (e : ℕ) → IsToldOf d left e → AreLevels P e sides levels goals_left choices
  pub points : AreLevelPoints P m base d s steps goals (reverse stack) levels
  pub passing : IsPassing P d (choices ∷ pending_on levels ++ later) begun used

-- ---- what comes out

-- at most one step was used for each member of the space at the limit d
abbrev pub IsCountedAt : Problem → ℕ → ℕ → ℕ → Type 0
IsCountedAt P d begun used = (begun ≤ used) × AtLeastMany member_cmp (IsMemberAt P d) (used - begun)

-- the budget is used up, and the space at the limit d has more members
abbrev pub IsCutEnded : Problem → ℕ → ℕ → ℕ → ℕ → Type 0
IsCutEnded P d begun used budget = (used ≡ budget) × MoreThan member_cmp (IsMemberAt P d) (used - begun)

-- why the search by a start ends: the tableau has the list that its goals come to, or the budget is used up
abbrev pub IsCutEnd : Problem → ℕ → List Side → ℕ → ℕ → ℕ → Visit → Type 0
IsCutEnd P d sides begun used budget visit.On = ⊤
IsCutEnd P d sides begun used budget (visit.Closed t) = (c : List Choice) × Cuts P d sides c (the_tableau t)
IsCutEnd P d sides begun used budget visit.Steps = IsCutEnded P d begun used budget

-- the start has no cut at any limit of which the search tells, and the lists of later starts come next
abbrev pub IsCutFailed : Problem → ℕ → List Side → List (List Choice) → ℕ → ℕ → Bool → Type 0
IsCutFailed P d sides later begun used left = ((e : ℕ) → IsToldOf d left e → FailsFrom P e sides) × IsPassing P d later begun used

-- why the search at the limit d ends
abbrev pub IsLimitEnd : Problem → ℕ → ℕ → ℕ → ℕ → Visit → Type 0
IsLimitEnd P d begun used budget visit.On = ⊤
IsLimitEnd P d begun used budget (visit.Closed t) = (c : List Choice) × (sides : List Side) × IsCut P d c sides (the_tableau t)
IsLimitEnd P d begun used budget visit.Steps = IsCutEnded P d begun used budget
