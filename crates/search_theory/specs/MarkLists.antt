-- Labels as lists of marks.
use Rattle.std.specs.Prelude.{◌≡◌, ℕ, List, IsTrue}
use Rattle.std.specs.List.{list_all}
use Rattle.calculus.specs.declared.sort.Sort.TheVariants.{MarkSort}
use Rattle.store_theory.specs.Stores.{Store, has_sort_at, Solution, marks_at, label_at, Solves}

-- the label ws is the list of the marks ms
pub record IsFlat (s : Store) (ws ms : List ℕ) : Type 0 where
  pub sorted : IsTrue (list_all (has_sort_at s MarkSort) ms)
  pub same : (σ : Solution) → Solves s σ → label_at σ ws ≡ marks_at σ ms

abbrev pub SameMarks : List ℕ → List ℕ → Solution → Type 0
SameMarks ms ns σ = marks_at σ ms ≡ marks_at σ ns

abbrev pub NeverSame : Store → List ℕ → List ℕ → Type 0
NeverSame s ms ns = (σ : Solution) → Solves s σ → ¬ SameMarks ms ns σ
