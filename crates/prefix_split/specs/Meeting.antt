-- What making the equations of a demand equal does to a store.
use Rattle.std.specs.Prelude.{ℕ, ◌≤◌, List, length}
use Rattle.calculus.specs.Instances.{GammaUse}
use Rattle.store_theory.specs.Stores.{Store, Solution, Solves}
use Rattle.store_theory.specs.Systems.{System, MeetsDemand}
use Rattle.search_theory.specs.States.{Agree}

-- the new store has kept each solution that meets the demand
pub record IsForced (Demanded : List GammaUse → Type 0) (y : System) (old new : Store) : Type 0 where
  pub longer : length old.cells ≤ length new.cells
  pub back : (σ : Solution) → Solves new σ → Solves old σ
  pub forth : (σ : Solution) → Solves old σ → MeetsDemand Demanded y σ → (τ : Solution) × Solves new τ × Agree (length old.cells) σ τ
