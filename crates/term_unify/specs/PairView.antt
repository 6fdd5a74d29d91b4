-- The pair of places that a pair of references stands for.
use Rattle.std.specs.Prelude.{ℕ}
use Rattle.term_store.specs.declared.cell.Ref.{Ref}

abbrev pub the_pair : Ref × Ref → ℕ × ℕ
the_pair p = (p.0.0, p.1.0)
