-- What a look at a goal finds: the bound cells that occur in it.
use Rattle.std.specs.Prelude.{◌≡◌, ◌⊎◌, ◌<◌, ◌++◌, ℕ, List, IsTrue, Some, length, map, slice_get}
use Rattle.calculus.specs.declared.sort.Sort.{Sort}
use Rattle.search_theory.specs.Exploring.{IsIn}
use Rattle.search_theory.specs.States.{CellGoal, goal_is_below}
use Rattle.store_theory.specs.Stores.{OccursIn, Store, variable}
use Rattle.store_theory.specs.Systems.{CellAtom}
use Rattle.term_store.specs.RefView.{the_place}
use Rattle.search_tree.specs.declared.look.Look.{Look}

-- the cells that were found to be bound, and those that are still to be visited
abbrev pub bound_in : Look → List ℕ
bound_in l = map the_place l.bound.items

abbrev pub waiting_in : Look → List ℕ
waiting_in l = map the_place l.places.items

abbrev pub AreBelow : ℕ → List ℕ → Type 0
AreBelow n rs = (r : ℕ) → IsIn r rs → r < n

abbrev pub AreAmong : List ℕ → List ℕ → Type 0
AreAmong rs xs = (r : ℕ) → IsIn r rs → IsIn r xs

-- the cell was found, or occurs in one that is still to be visited
abbrev pub IsFound : Store → List ℕ → List ℕ → ℕ → Type 0
IsFound s bound waiting v = IsIn v bound ⊎ ((r : ℕ) × IsIn r waiting × OccursIn s v r)

-- each bound cell of which that was so is found in the end
abbrev pub FindsAll : Store → List ℕ → List ℕ → List ℕ → Type 0
FindsAll s bound waiting after = (v k : ℕ) (sort : Sort) → slice_get s.cells v ≡ Some (variable sort (Some k)) → IsFound s bound waiting v → IsIn v after

-- it still is so, and cells of the store are to be visited
pub record GoesOn (s : Store) (bound waiting bound_after waiting_after : List ℕ) : Type 0 where
  pub found : (v k : ℕ) (sort : Sort) → slice_get s.cells v ≡ Some (variable sort (Some k)) → IsFound s bound waiting v → IsFound s bound_after waiting_after v
  pub below : AreBelow (length s.cells) waiting → AreBelow (length s.cells) waiting_after

-- the cells of an atom
abbrev pub atom_cells : CellAtom → List ℕ
atom_cells a = a.args ++ a.label

-- the cells of the goal's atom and of those above it came
pub record IsGathered (x : CellGoal) (before after : List ℕ) : Type 0 where
  pub literal : AreAmong (atom_cells x.literal) after
  pub path : (i : ℕ) (a : CellAtom) → slice_get x.path i ≡ Some a → AreAmong (atom_cells a) after
  pub below : (n : ℕ) → IsTrue (goal_is_below n x) → AreBelow n before → AreBelow n after
