-- The bound cells that occur in a goal or in one above it, and whether they are still bound in an older store.
use Rattle.std.specs.Prelude.{◌≡◌, ◌⊎◌, ℕ, List, Some, slice_get}
use Rattle.calculus.specs.declared.sort.Sort.{Sort}
use Rattle.search_theory.specs.Exploring.{IsIn}
use Rattle.search_theory.specs.States.{CellGoal}
use Rattle.store_theory.specs.Stores.{OccursIn, Store, variable}
use Rattle.store_theory.specs.Systems.{CellAtom}

-- the cell occurs in an argument or in the label of the atom
abbrev pub OccursInAtom : Store → CellAtom → ℕ → Type 0
OccursInAtom s a v = (r : ℕ) × (IsIn r a.args ⊎ IsIn r a.label) × OccursIn s v r

-- or in the goal's atom or one of its path
abbrev pub OccursInGoal : Store → CellGoal → ℕ → Type 0
OccursInGoal s g v = OccursInAtom s g.literal v ⊎ ((i : ℕ) × (a : CellAtom) × (slice_get g.path i ≡ Some a) × OccursInAtom s a v)

-- each bound cell that occurs in the goal is one of these
abbrev pub ListsBound : Store → CellGoal → List ℕ → Type 0
ListsBound s g bound = (v k : ℕ) (sort : Sort) → OccursInGoal s g v → slice_get s.cells v ≡ Some (variable sort (Some k)) → IsIn v bound

-- they are bound in the store
abbrev pub AreBound : Store → List ℕ → Type 0
AreBound s bound = (v : ℕ) → IsIn v bound → (sort : Sort) × (k : ℕ) × (slice_get s.cells v ≡ Some (variable sort (Some k)))
