-- Goals that the bindings make the same.
use Rattle.std.specs.Prelude.{◌≡◌}
use Rattle.store_theory.specs.Stores.{Store, Solution, Solves}
use Rattle.store_theory.specs.Systems.{CellAtom, Pair}
use Rattle.search_theory.specs.Regular.{AreSame}
use Rattle.search_theory.specs.States.{label_by, literal_by}

abbrev pub DifferNow : Store → Pair → Type 0
DifferNow s p = ¬ AreSame s p.upper p.lower

-- signed atoms that are the same under each solution that makes their labels equal
abbrev pub HaveSameAtom : Store → CellAtom → CellAtom → Type 0
HaveSameAtom s a b = (σ : Solution) → Solves s σ → label_by σ a.label ≡ label_by σ b.label → literal_by σ a ≡ literal_by σ b
