-- The moments of a search, and what one moment says of another. Contracts name the program's values once for each moment.
use Rattle.std.specs.Prelude.{ℕ, List, [], ◌∷◌, Bool, Option, reverse, slice_get}
use Rattle.calculus.specs.Choices.{Choice, start}
use Rattle.calculus.specs.declared.sign.Side.{Side}
use Rattle.cop_base.specs.declared.ledger.Ledger.{Ledger}
use Rattle.search_theory.specs.OrderedChoices.{selection_of}
use Rattle.store_theory.specs.Stores.{Store}
use Rattle.term_store.specs.Room.{TermStore}
use Rattle.connection_search.specs.Cutting.{IsCountedAt, IsCutEnd, IsCutExploring, IsCutFailed, IsCutVisiting, IsPassing}
use Rattle.connection_search.specs.Exploring.{IsCounted, IsEnd, IsExploring, IsSearched, IsSpace, IsSpentAt, IsVisiting}
use Rattle.connection_search.specs.declared.visit.Visit.{Visit}
use Rattle.search_tree.specs.declared.state.SearchState.{SearchState}
use Rattle.search_tree.specs.declared.point.Point.{Point}
use Rattle.connection_search.specs.declared.limit_search.LimitSearch.{LimitSearch}
use Rattle.search_tree.specs.declared.tree.Goal.{Goal}
use Rattle.search_tree.specs.declared.tree.Step.{Step}

-- bindings, the tree over them, the choice points, the steps used, and whether the limit is known to be left
pub record Moment : Type 0 where
  pub store : Store
  pub steps : List Step
  pub goals : List Goal
  pub first : Option ℕ
  pub points : List Point
  pub used : ℕ
  pub budget : ℕ
  pub left : Bool

abbrev pub the_moment : TermStore → SearchState → List Point → Ledger → Bool → Moment
the_moment s w points l left = record { store = s.store; steps = w.tree.steps.items; goals = w.tree.goals.items; first = w.tree.open; points = points; used = l.used; budget = l.budget; left = left }

-- the problem, the matrix and the limit of the program's space
abbrev pub IsSpaceOf : LimitSearch → Type 0
IsSpaceOf x = IsSpace x.problem.now x.matrix.now x.limit

-- the choice with which the search by a clause starts, and its sides
abbrev pub sides_of : LimitSearch → ℕ → List Side
sides_of x clause = selection_of (slice_get x.matrix.now clause)

abbrev pub start_by : LimitSearch → ℕ → List Choice
start_by x clause = start (sides_of x clause) ∷ []

-- ---- what is known at a moment, by the number from which on cells are the search's own, the lists that come later and the steps
-- used before it began

-- the list of the moment comes next
abbrev pub VisitingAt : Moment → LimitSearch → ℕ → List (List Choice) → ℕ → Type 0
VisitingAt m x base later begun = IsVisiting x.problem.now x.matrix.now base x.limit m.store m.steps m.goals m.first m.points later begun m.used m.left

-- what is pending on the points comes next
abbrev pub ExploringAt : Moment → LimitSearch → ℕ → List (List Choice) → ℕ → Type 0
ExploringAt m x base later begun = IsExploring x.problem.now x.matrix.now base x.limit m.store m.steps m.goals m.points later begun m.used m.left

-- all choices of this point, which is the last one no more, were tried: what is pending on the points comes next
abbrev pub SpentAt : Moment → Point → LimitSearch → ℕ → List (List Choice) → ℕ → Type 0
SpentAt m p x base later begun = IsSpentAt x.problem.now x.matrix.now base x.limit m.store m.steps m.goals p (reverse m.points) later begun m.used m.left

-- the later lists come next
abbrev pub SearchedAt : Moment → LimitSearch → ℕ → List (List Choice) → ℕ → Type 0
SearchedAt m x base later begun = IsSearched x.problem.now x.limit later begun m.used m.left

abbrev pub EndedAt : Moment → Visit → LimitSearch → ℕ → List (List Choice) → ℕ → Type 0
EndedAt m v x base later begun = IsEnd x.problem.now x.limit begun m.used m.budget v

abbrev pub CountedAt : Moment → LimitSearch → ℕ → List (List Choice) → ℕ → Type 0
CountedAt m x base later begun = IsCounted x.problem.now x.limit begun m.used

-- it is so for some number, lists and steps
abbrev pub Holds : LimitSearch → (LimitSearch → ℕ → List (List Choice) → ℕ → Type 0) → Type 0
Holds x A = (base : ℕ) × (later : List (List Choice)) × (begun : ℕ) × IsSpaceOf x × A x base later begun

-- whichever they are, what was known leads to what is known now
abbrev pub Leads : LimitSearch → (LimitSearch → ℕ → List (List Choice) → ℕ → Type 0) → (LimitSearch → ℕ → List (List Choice) → ℕ → Type 0) → Type 0
Leads x A B = (base : ℕ) (later : List (List Choice)) (begun : ℕ) → IsSpaceOf x → A x base later begun → B x base later begun

-- ---- the same for the search that does not return to solved goals, by a start with these sides

abbrev pub CutVisitingAt : Moment → LimitSearch → ℕ → List Side → List (List Choice) → ℕ → Type 0
CutVisitingAt m x base sides later begun = IsCutVisiting x.problem.now x.matrix.now base x.limit sides m.store m.steps m.goals m.first m.points later begun m.used m.left

abbrev pub CutExploringAt : Moment → LimitSearch → ℕ → List Side → List (List Choice) → ℕ → Type 0
CutExploringAt m x base sides later begun = IsCutExploring x.problem.now x.matrix.now base x.limit sides m.store m.steps m.goals m.points later begun m.used m.left

abbrev pub CutFailedAt : Moment → LimitSearch → ℕ → List Side → List (List Choice) → ℕ → Type 0
CutFailedAt m x base sides later begun = IsCutFailed x.problem.now x.limit sides later begun m.used m.left

abbrev pub CutEndedAt : Moment → Visit → LimitSearch → ℕ → List Side → List (List Choice) → ℕ → Type 0
CutEndedAt m v x base sides later begun = IsCutEnd x.problem.now x.limit sides begun m.used m.budget v

abbrev pub CutCountedAt : Moment → LimitSearch → ℕ → List Side → List (List Choice) → ℕ → Type 0
CutCountedAt m x base sides later begun = IsCountedAt x.problem.now x.limit begun m.used

abbrev pub CutHolds : LimitSearch → (LimitSearch → ℕ → List Side → List (List Choice) → ℕ → Type 0) → Type 0
CutHolds x A = (base : ℕ) × (sides : List Side) × (later : List (List Choice)) × (begun : ℕ) × IsSpaceOf x × A x base sides later begun

abbrev pub CutLeads : LimitSearch → (LimitSearch → ℕ → List Side → List (List Choice) → ℕ → Type 0) → (LimitSearch → ℕ → List Side → List (List Choice) → ℕ → Type 0) → Type 0
CutLeads x A B = (base : ℕ) (sides : List Side) (later : List (List Choice)) (begun : ℕ) → IsSpaceOf x → A x base sides later begun → B x base sides later begun

-- ---- starts, where there is no list yet

-- these lists come next
abbrev pub ComesNext : LimitSearch → Ledger → Bool → List (List Choice) → ℕ → Type 0
ComesNext x l left pending begun = IsSearched x.problem.now x.limit pending begun l.used left

-- the same for the search that does not return to solved goals
abbrev pub PassesNext : LimitSearch → Ledger → List (List Choice) → ℕ → Type 0
PassesNext x l pending begun = IsPassing x.problem.now x.limit pending begun l.used
