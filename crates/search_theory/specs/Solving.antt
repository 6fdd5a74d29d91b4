-- What solving a system for one list of lengths asks of the store, in terms of its ground solutions: giving the lengths, making the two
-- sides of equations equal, and adding cells.
use Rattle.std.specs.Prelude.{◌≡◌, ℕ, ◌≤◌, List, length, Some, None, slice_get}
use Rattle.calculus.specs.declared.setting.Logic.{Logic}
use Rattle.calculus.specs.Instances.{GammaUse}
use Rattle.store_theory.specs.Stores.{Cell, variable, Store, parts_of, Solution, Solves}
use Rattle.calculus.specs.declared.sort.Sort.TheVariants.{StringSort}
use Rattle.store_theory.specs.Systems.{Equation, System, cells_of, AreEqual, IsBoundedSolution, HaveLengths}
use Rattle.search_theory.specs.States.{Agree}

-- the solutions of the new store are, on the cells of the old one, those of which Q holds
pub record IsNarrowed (old new : Store) (Q : Solution → Type 0) : Type 0 where
  pub longer : length old.cells ≤ length new.cells
  pub back : (σ : Solution) → Solves new σ → Solves old σ × Q σ
  pub forth : (σ : Solution) → Solves old σ → Q σ → (τ : Solution) × Solves new τ × Agree (length old.cells) σ τ

-- no solution of the store makes the two sides equal
abbrev pub CannotEqual : Store → Equation → Type 0
CannotEqual s e = (σ : Solution) → Solves s σ → ¬ AreEqual σ e

-- no solution of the store gives the strings these lengths
abbrev pub CannotHave : Store → List ℕ → List ℕ → Type 0
CannotHave s rs ns = (σ : Solution) → Solves s σ → ¬ HaveLengths σ rs ns

-- the new store gives the strings these lengths, and has kept each solution of the system with them
pub record IsSolving (l : Logic) (Demanded : List GammaUse → Type 0) (old : Store) (y : System) (ns : List ℕ) (new : Store) : Type 0 where
  pub longer : length old.cells ≤ length new.cells
  pub back : (σ : Solution) → Solves new σ → Solves old σ × HaveLengths σ y.strings ns
  pub forth : (σ : Solution) → IsBoundedSolution l Demanded old y ns σ → (τ : Solution) × Solves new τ × Agree (length old.cells) σ τ

-- cells of which none is a string without a binding, with their parts and what they are bound to
pub record IsClosedSet (In : ℕ → Type 0) (s : Store) : Type 0 where
  pub no_open_string : (v : ℕ) → In v → ¬ (slice_get s.cells v ≡ Some (variable StringSort None))
  pub names : (r k i : ℕ) (c : Cell) → In r → slice_get s.cells r ≡ Some c → slice_get (parts_of c) i ≡ Some k → In k

-- each cell that the system names is one of them
abbrev pub HasCells : (ℕ → Type 0) → System → Type 0
HasCells In y = (i r : ℕ) → slice_get (cells_of y) i ≡ Some r → In r
