-- What each step of solving keeps of a store.
use Rattle.std.specs.Prelude.{◌≡◌, ℕ, ◌<◌, ◌≤◌, List, length, Some, slice_get, IsTrue}
use Rattle.calculus.specs.Syntax.{Problem}
use Rattle.calculus.specs.declared.setting.Logic.{Logic}
use Rattle.search_theory.specs.KeepingCells.{SolvesRight}
pub use Rattle.search_theory.specs.KeepingCells.{KeepsRight}
use Rattle.calculus.specs.declared.sort.Sort.{Sort}
use Rattle.store_theory.specs.Bindings.{KeepsMarks}
use Rattle.store_theory.specs.Stores.{Store, variable, string_cell, has_sort_at, OccursIn, EndsAt, Solution, Solves}
use Rattle.store_theory.specs.Systems.{HasBuiltStrings, IsOpenString, System, cells_of}
pub use Rattle.term_unify.specs.Flat.{HasNoString, HasNoStringIn}

-- the bindings of the cell end at a built string
abbrev pub IsBuiltString : Store → ℕ → Type 0
IsBuiltString s r = (v : ℕ) × (rs : List ℕ) × EndsAt s r v × (slice_get s.cells v ≡ Some (string_cell rs))

-- cells have the sorts that they had, bindings and built strings stay, an unbound string that occurs in an old cell occurred there before,
-- and none came
pub record IsLater (old new : Store) : Type 0 where
  pub longer : length old.cells ≤ length new.cells
  pub sorts : (sort : Sort) (r : ℕ) → IsTrue (has_sort_at old sort r) → IsTrue (has_sort_at new sort r)
  pub strings : (v r : ℕ) → r < length old.cells → IsOpenString new v → OccursIn new v r → OccursIn old v r × IsOpenString old v
  pub fresh : (v : ℕ) → length old.cells ≤ v → ¬ IsOpenString new v
  pub built : (r : ℕ) → IsBuiltString old r → IsBuiltString new r
  pub bound : (r k : ℕ) (sort : Sort) → slice_get old.cells r ≡ Some (variable sort (Some k)) → slice_get new.cells r ≡ Some (variable sort (Some k))
  pub marks : KeepsMarks old new

-- where a solution was found: the solutions of the new store are some of the old one, the system's strings are built, and the cells of
-- the problem, where it has this logic, stay built right
pub record IsFoundIn (l : Logic) (P : Problem) (y : System) (old new : Store) : Type 0 where
  pub back : (σ : Solution) → Solves new σ → Solves old σ
  pub later : IsLater old new
  pub built : HasBuiltStrings new y
  pub right : P.setting.logic ≡ l → SolvesRight P (cells_of y) old new
