-- Equations of two labels.
use Rattle.std.specs.Prelude.{ℕ, List}
use Rattle.store_theory.specs.Systems.{Equation}
pub use Rattle.search_theory.specs.KeepingCells.{equation_cells}

abbrev pub equated : List ℕ → List ℕ → Equation
equated l r = record { left = l; right = r }
