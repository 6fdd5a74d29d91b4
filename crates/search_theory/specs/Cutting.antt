-- The search that does not return to solved goals, on its way: the goals that are being solved, one inside the other, and how many goals
-- wait behind each.
use Rattle.std.specs.Prelude.{◌≡◌, ◌⊎◌, ◌<◌, ◌≤◌, ℕ, suc, List, [], ◌∷◌, ◌++◌, Bool, false, length, replicate, slice_get}
use Rattle.calculus.specs.declared.sign.Side.{Side}
use Rattle.calculus.specs.Syntax.{Problem}
use Rattle.calculus.specs.Clauses.{clause_size}
use Rattle.calculus.specs.Tableaux.{Tableau}
use Rattle.calculus.specs.Choices.{start, reduction, extension, Choice, choice_cmp}
use Rattle.calculus.specs.Counting.{IsRising}
use Rattle.calculus.specs.Cut.{IsRegularLive, Fills, Stuck, Cuts, followed_by, goals_added}
use Rattle.search_theory.specs.Exploring.{behind, IsIn}
use Rattle.search_theory.specs.Matrix.{MatrixClause}
use Rattle.search_theory.specs.OrderedChoices.{selection_of}

-- ---- how deep the open goals of a list lie

abbrev pub without_first : List ℕ → List ℕ
without_first [] = []
without_first (k ∷ ks) = ks

abbrev pub below_first : ℕ → List ℕ → List ℕ
below_first n [] = []
below_first n (k ∷ ks) = replicate n (suc k) ++ ks

-- the lengths of the paths of the open goals behind one more choice, the leftmost goal first
abbrev pub depths_after : Problem → Choice → List ℕ → List ℕ
depths_after P (start s) ks = replicate (clause_size P s) 0
depths_after P (reduction up) ks = without_first ks
depths_after P (extension s place) ks = below_first (goals_added P (extension s place)) ks

abbrev pub depths_from : Problem → List ℕ → List Choice → List ℕ
depths_from P ks [] = ks
depths_from P ks (x ∷ c) = depths_from P (depths_after P x ks) c

-- those of a list
abbrev pub open_depths : Problem → List Choice → List ℕ
open_depths P c = depths_from P [] c

-- ---- goals that are being solved

-- to solve n goals in turn from the list c on comes down to solving k goals from the list b on
pub record ComesDown (P : Problem) (d n : ℕ) (c : List Choice) (k : ℕ) (b : List Choice) : Type 0 where
  pub solved : (a : List Choice) → Fills P d k b a → Fills P d n c a
  pub failed : Stuck P d k b → Stuck P d n c

-- each choice of the leftmost goal is one of these, or fails
abbrev pub AreUntried : Problem → ℕ → List Choice → List Choice → Type 0
AreUntried P d c untried = (y : Choice) → IsRegularLive P d (followed_by c y) → IsIn y untried ⊎ Stuck P d (goals_added P y) (followed_by c y)

-- a goal that is being solved: the list at which it was the leftmost one, the choice that is tried, those behind it, and how many
-- goals of the same clause wait behind the goal
pub record Level : Type 0 where
  pub before : List Choice
  pub choice : Choice
  pub rest : List Choice
  pub waiting : ℕ

pub record IsLevel (P : Problem) (d : ℕ) (l : Level) : Type 0 where
  pub sound : IsRegularLive P d (followed_by l.before l.choice)
  pub rising : IsRising choice_cmp (l.choice ∷ l.rest)
  pub untried : AreUntried P d l.before (l.choice ∷ l.rest)

-- how deep the open goals lie: n at the last level, then those that wait, level by level
abbrev pub level_depths : List Level → ℕ → List ℕ
level_depths [] n = replicate n 0
level_depths (l ∷ ls) n = replicate n (length (l ∷ ls)) ++ level_depths ls l.waiting

-- the last level comes first. At it n goals are to be solved from the list c on; what this comes to decides on the goal of the level,
-- and so on up to the goals of the start
abbrev pub AreLevels : Problem → ℕ → List Side → List Level → ℕ → List Choice → Type 0
AreLevels P d s [] n c = (level_depths [] n ≡ open_depths P c) × ComesDown P d (clause_size P s) (start s ∷ []) n c
AreLevels P d s (l ∷ ls) n c = (level_depths (l ∷ ls) n ≡ open_depths P c) × IsLevel P d l × ComesDown P d (goals_added P l.choice) (followed_by l.before l.choice) n c × AreLevels P d s ls (suc l.waiting) l.before

-- the leftmost goal of the list c has these choices left to try
pub record IsTrying (P : Problem) (d : ℕ) (s : List Side) (ls : List Level) (waiting : ℕ) (c untried : List Choice) : Type 0 where
  pub levels : AreLevels P d s ls (suc waiting) c
  pub rising : IsRising choice_cmp untried
  pub complete : AreUntried P d c untried

-- the lists that are still to be tried at these levels
abbrev pub pending_on : List Level → List (List Choice)
pending_on [] = []
pending_on (l ∷ ls) = behind l.before l.rest ++ pending_on ls

-- the limits of which a search at the limit d tells: d itself and, where nothing has shown that d is left, each greater one
abbrev pub IsToldOf : ℕ → Bool → ℕ → Type 0
IsToldOf d left e = (e ≡ d) ⊎ ((d ≤ e) × (left ≡ false))

-- the levels from the first one on whose goals are not all solved: k of them, where the leftmost open goal has a path of k goals
pub record IsSettled (P : Problem) (d : ℕ) (left : Bool) (s : List Side) (ls : List Level) (k : ℕ) (c : List Choice) : Type 0 where
  pub solved : List Level
  pub others : List Level
  pub waiting : ℕ
  pub are_all : ls ≡ solved ++ others
  pub long : length others ≡ k
  pub levels : (e : ℕ) → IsToldOf d left e → AreLevels P e s others (suc waiting) c

-- ---- starts

-- no closed tableau has the list that the goals of the start come to
abbrev pub FailsFrom : Problem → ℕ → List Side → Type 0
FailsFrom P d s = (c : List Choice) (t : Tableau) → ¬ Cuts P d s c t

-- nor has one that of any of the first n clauses
abbrev pub FailsTo : Problem → List MatrixClause → ℕ → ℕ → Type 0
FailsTo P m d n = (k : ℕ) → k < n → FailsFrom P d (selection_of (slice_get m k))

-- what is to be tried next: the choices behind that of the last level. Where there is no level, the start fails
abbrev pub IsNext : Problem → ℕ → List Side → List Level → Type 0
IsNext P d s [] = FailsFrom P d s
IsNext P d s (l ∷ ls) = IsTrying P d s ls l.waiting l.before l.rest
