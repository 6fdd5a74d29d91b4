-- What stays built right while a system is solved: cells from a number on, where those that are spoken of have this number or greater ones.
use Rattle.std.specs.Prelude.{◌++◌, ◌∷◌, ◌≤◌, ℕ, List, length, IsTrue, nat_le}
use Rattle.std.specs.List.{list_all}
use Rattle.calculus.specs.Syntax.{Problem}
use Rattle.store_theory.specs.Stores.{GammaCell, Store, Solution, Solves}
use Rattle.store_theory.specs.Systems.{AreEqual, Equation}
use Rattle.search_theory.specs.LabelledCells.{AreLabelled}

-- the items of both labels
abbrev pub equation_cells : Equation → List ℕ
equation_cells e = e.left ++ e.right

-- a gamma term and the items of its label
abbrev pub gamma_cells : GammaCell → List ℕ
gamma_cells g = g.term ∷ g.label

-- the problem's cells from the number `base` on, which is above none of these cells, stay built right
abbrev pub KeepsRight : Problem → List ℕ → Store → Store → Type 0
KeepsRight P ks old new = (base : ℕ) → base ≤ length old.cells → IsTrue (list_all (nat_le base) ks) → AreLabelled P (λ r. base ≤ r) old → AreLabelled P (λ r. base ≤ r) new

-- so they do, and it is above none of the cells ls either
abbrev pub AddsRight : Problem → List ℕ → Store → Store → List ℕ → Type 0
AddsRight P ks old new ls = (base : ℕ) → base ≤ length old.cells → IsTrue (list_all (nat_le base) ks) → AreLabelled P (λ r. base ≤ r) old → AreLabelled P (λ r. base ≤ r) new × IsTrue (list_all (nat_le base) ls)

-- so they do where some solution of the new store makes the sides of the equation, whose cells these are, equal
abbrev pub EquatesRight : Problem → List ℕ → Store → Store → Equation → Type 0
EquatesRight P ks old new e = (σ : Solution) → Solves new σ → AreEqual σ e → AddsRight P ks old new (equation_cells e)

-- cells stay built right where the new store has a solution
abbrev pub SolvesRight : Problem → List ℕ → Store → Store → Type 0
SolvesRight P ks old new = (σ : Solution) → Solves new σ → KeepsRight P ks old new
