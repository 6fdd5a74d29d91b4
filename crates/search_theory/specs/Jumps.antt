-- Jumps back: by which lists the leftmost open goal of a list of choices is closed, whatever becomes of the goals behind it. Where none of
-- them is pending any more, no choice helps that leaves the bindings of the goal and of its path as they are.
use Rattle.std.specs.Prelude.{◌≡◌, ◌⊎◌, ◌<◌, ◌≤◌, ℕ, List, [], ◌∷◌, ◌++◌, None, Some, length, min, slice_get, IsTrue, ⊤}
use Rattle.calculus.specs.declared.sort.Sort.{Sort}
use Rattle.calculus.specs.Syntax.{Problem}
use Rattle.calculus.specs.Tableaux.{Closing, closes}
use Rattle.calculus.specs.Choices.{start, reduction, extension, Choice, GroundChoice, choices_of, choices_below, Goal, Growth, growth_of, is_within}
use Rattle.store_theory.specs.Stores.{Cell, variable, Store, parts_of}
use Rattle.search_theory.specs.Exploring.{BeginsWith, Covers, IsIn}
use Rattle.search_theory.specs.States.{CellChoice, State, IsStateOf}

-- the list b closes the leftmost open goal of c: a tree that follows c within the limit d is grown by choices that close this goal
pub record IsSolvedList (P : Problem) (d : ℕ) (c b : List Choice) : Type 0 where
  pub choices : List GroundChoice
  pub growth : Growth
  pub goal : Goal
  pub behind : List Goal
  pub closing : Closing
  pub names : choices_of choices ≡ c
  pub grows : growth_of P choices ≡ Some growth
  pub opened : growth.open_goals ≡ goal ∷ behind
  pub within : IsTrue (is_within d growth)
  pub closed : IsTrue (closes P d goal.path goal.literal closing)
  pub is_list : b ≡ c ++ choices_of (choices_below closing)

-- each list that closes the leftmost open goal of c begins with one of these
abbrev pub IsSolvedBehind : Problem → ℕ → List Choice → List (List Choice) → Type 0
IsSolvedBehind P d c pending = Covers (IsSolvedList P d c) pending

-- a choice point: the list at which it was made, how many goals its tree had, the lowest number of a goal that was the leftmost open one
-- since then, and what is pending on it. The number is below that of goals where the point's goal was solved since then
pub record ChoicePoint : Type 0 where
  pub list : List Choice
  pub goals : ℕ
  pub lowest : ℕ
  pub pending : List (List Choice)

-- the points, the last one first, behind which `before` is pending, after leftmost open goals down to the number `low`: where a point's goal
-- was not solved since then, it is solved behind what is pending on it and on those after it, or not at all
abbrev pub AreSolvedBehind : Problem → ℕ → ℕ → List (List Choice) → List ChoicePoint → Type 0
AreSolvedBehind P d low before [] = ⊤
AreSolvedBehind P d low before (p ∷ ps) = (p.goals ≤ min low p.lowest → IsSolvedBehind P d p.list (before ++ p.pending)) × AreSolvedBehind P d (min low p.lowest) (before ++ p.pending) ps

-- a state stands at the point
pub record StandsAtPoint (P : Problem) (d : ℕ) (p : ChoicePoint) : Type 0 where
  pub state : State
  pub is_state : IsStateOf P d p.list state
  pub goals : length state.growth.all_goals ≡ p.goals

-- no list that closes the goal of a point at which the tree had at most n goals begins with the list c
abbrev pub IsFruitless : Problem → ℕ → List Choice → ℕ → Type 0
IsFruitless P d c n = (q : ChoicePoint) → StandsAtPoint P d q → q.goals ≤ n → (b : List Choice) → IsSolvedList P d q.list b → ¬ BeginsWith c b

-- ---- what an older store says of a goal

-- the variable is one of a copied clause
abbrev pub IsValueOf : ℕ → List CellChoice → Type 0
IsValueOf v [] = ⊥
IsValueOf v (start i ∷ cs) = IsIn v i.values ⊎ IsValueOf v cs
IsValueOf v (reduction up ∷ cs) = IsValueOf v cs
IsValueOf v (extension i place ∷ cs) = IsIn v i.values ⊎ IsValueOf v cs

-- each unbound variable from the number `base` on is one of a clause that was copied
abbrev pub NamesVariables : ℕ → Store → List CellChoice → Type 0
NamesVariables base s cs = (v : ℕ) (sort : Sort) → base ≤ v → slice_get s.cells v ≡ Some (variable sort None) → IsValueOf v cs

-- a variable of the older store that is unbound in the newer one was so before
abbrev pub KeepsUnbound : Store → Store → Type 0
KeepsUnbound old new = (v : ℕ) (sort : Sort) → v < length old.cells → slice_get new.cells v ≡ Some (variable sort None) → slice_get old.cells v ≡ Some (variable sort None)

-- the cells of which R holds, with their parts, are the same in both stores
pub record AreKept (R : ℕ → Type 0) (old new : Store) : Type 0 where
  pub same : (r : ℕ) → R r → (c : Cell) × (slice_get new.cells r ≡ Some c) × (slice_get old.cells r ≡ Some c)
  pub parts : (r k i : ℕ) (c : Cell) → R r → slice_get new.cells r ≡ Some c → slice_get (parts_of c) i ≡ Some k → R k
