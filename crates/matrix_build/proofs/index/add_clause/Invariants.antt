use Rattle.std.proofs.Common.{◌≡◌, ◌++◌, ℕ, map, drop}
use Rattle.calculus.specs.declared.sign.Sign.{Sign}
use Rattle.search_theory.specs.Matrix.{places_among}
use Rattle.matrix_build.specs.MatrixView.{places_at, row_of}
use Rattle.term_store.specs.ClauseView.{the_pattern_atom}
use Rattle.matrix_build.proofs.index.add_clause.Given as goal

abbrev pub invariant-loop-place : goal.invariant-loop-place
invariant-loop-place l = (symbol : ℕ) (sign : Sign) → places_at (row_of symbol sign) l.rows.items ++ places_among symbol sign l.clause.0 l.place (map the_pattern_atom (drop l.place l.items)) ≡ places_at (row_of symbol sign) l.initial.rows.items ++ places_among symbol sign l.clause.0 0 (map the_pattern_atom l.items)
