-- What is over cells of a set.
use Rattle.std.specs.Prelude.{◌≡◌, ℕ, List, IsTrue, Some, slice_get}
use Rattle.std.specs.List.{list_all, AllByRecursion}
use Rattle.store_theory.specs.Stores.{Store, has_value_sort_at}
use Rattle.search_theory.specs.States.{CellGoal, CellClause, CellChoice}
use Rattle.store_theory.specs.Systems.{CellAtom, is_cell_atom}
use Rattle.calculus.specs.Choices.{start, reduction, extension}

abbrev pub IsPart : ℕ → List ℕ → Type 0
IsPart k rs = (i : ℕ) × (slice_get rs i ≡ Some k)

-- the cells of an atom are among those of which In holds
pub record IsAtomIn (In : ℕ → Type 0) (s : Store) (a : CellAtom) : Type 0 where
  pub sorted : IsTrue (is_cell_atom s a)
  pub args : (k : ℕ) → IsPart k a.args → In k
  pub label : (k : ℕ) → IsPart k a.label → In k

-- the goal's atoms and those of its path are over cells of In
pub record IsGoalIn (In : ℕ → Type 0) (s : Store) (g : CellGoal) : Type 0 where
  pub literal : IsAtomIn In s g.literal
  pub path : AllByRecursion (IsAtomIn In s) g.path

-- the clause's variables are terms and strings of In
pub record IsClauseIn (In : ℕ → Type 0) (s : Store) (i : CellClause) : Type 0 where
  pub sorted : IsTrue (list_all (has_value_sort_at s) i.values)
  pub names : (k : ℕ) → IsPart k i.values → In k

abbrev pub IsChoiceIn : (ℕ → Type 0) → Store → CellChoice → Type 0
IsChoiceIn In s (start i) = IsClauseIn In s i
IsChoiceIn In s (reduction up) = Unit {0}
IsChoiceIn In s (extension i place) = IsClauseIn In s i
