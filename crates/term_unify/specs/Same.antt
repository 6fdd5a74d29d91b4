-- Cells and labels that the bindings make the same.
use Rattle.std.specs.Prelude.{◌≡◌, ◌⊎◌, ℕ, List, length, map, Some, slice_get}
use Rattle.store_theory.specs.Stores.{Store, Solution, Solves}
use Rattle.search_theory.specs.States.{label_by}
use Rattle.term_unify.specs.Steps.{AreDifferent}

-- by each solution
abbrev pub AreSameCells : Store → List ℕ → List ℕ → Type 0
AreSameCells s xs ys = (σ : Solution) → Solves s σ → map σ xs ≡ map σ ys

abbrev pub AreSameLabels : Store → List ℕ → List ℕ → Type 0
AreSameLabels s xs ys = (σ : Solution) → Solves s σ → label_by σ xs ≡ label_by σ ys

-- their lengths differ, or two cells at one place do
abbrev pub DifferAt : Store → List ℕ → List ℕ → Type 0
DifferAt s xs ys = (¬ (length xs ≡ length ys)) ⊎ ((i : ℕ) × (x : ℕ) × (y : ℕ) × (slice_get xs i ≡ Some x) × (slice_get ys i ≡ Some y) × AreDifferent s x y)
