-- The turns of an agenda by their places: those of each instance, each turn's parent, and the turns that have to come before it.
use Rattle.std.specs.Prelude.{◌≡◌, ◌↔◌, ℕ, List, map, length, drop, Option, Some, None, slice_get}
use Rattle.std.specs.List.{Contains}
use Rattle.std.specs.Option.{option_map_or}
use Rattle.calculus.specs.Instances.{Turn}
use Rattle.calculus.specs.Syntax.{Problem}
use Rattle.calculus.specs.Tableaux.{Tableau, instances}
use Rattle.conversion_theory.specs.Turns.{Name, turns_of_instance, parent_position, IsParent, names_mentioned, names_introduced}

-- for each instance in preorder the places of its turns, in preorder
abbrev pub IsOrder : Problem → Tableau → List Turn → List (List ℕ) → Type 0
IsOrder P t agenda order = map (map (slice_get agenda)) order ≡ map (λ i. map Some (turns_of_instance P i)) (instances t)

-- for each turn the place of its parent
pub record ParentsTell (P : Problem) (agenda : List Turn) (parents : List (Option ℕ)) : Type 0 where
  pub count : length parents ≡ length agenda
  pub parent : (i j : ℕ) (x : Turn) → slice_get parents i ≡ Some (Some j) → slice_get agenda i ≡ Some x → (y : Turn) × (slice_get agenda j ≡ Some y) × IsParent P y x
  pub root : (i : ℕ) (x : Turn) → slice_get parents i ≡ Some None → slice_get agenda i ≡ Some x → parent_position P x.position ≡ None

-- how many values a turn has from its parent
abbrev pub count_before : List Turn → Option ℕ → ℕ
count_before agenda None = 0
count_before agenda (Some j) = option_map_or (λ (y : Turn). length y.values) (slice_get agenda j) 0

-- the turn with its own values alone
abbrev pub own_part : List Turn → Option ℕ → Turn → Turn
own_part agenda parent x = record x { values = drop (count_before agenda parent) x.values }

-- the turn at place k introduces a name that x mentions by its own values
abbrev pub IsAwaited : Problem → List Turn → Option ℕ → Turn → ℕ → Type 0
IsAwaited P agenda parent x k = (y : Turn) × (n : Name) × (slice_get agenda k ≡ Some y) × Contains (names_mentioned P (own_part agenda parent x)) n × Contains (names_introduced P y) n

-- for each turn the places of those that introduce what it mentions by its own values
pub record WaitsTell (P : Problem) (agenda : List Turn) (parents : List (Option ℕ)) (waits : List (List ℕ)) : Type 0 where
  pub count : length waits ≡ length agenda
  pub each : (i : ℕ) (x : Turn) (p : Option ℕ) (w : List ℕ) → slice_get agenda i ≡ Some x → slice_get parents i ≡ Some p → slice_get waits i ≡ Some w → (k : ℕ) → Contains w k ↔ IsAwaited P agenda p x k
