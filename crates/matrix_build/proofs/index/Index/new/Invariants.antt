use Rattle.std.proofs.Common.{◌≡◌, ◌++◌, ℕ, map, drop}
use Rattle.calculus.specs.declared.sign.Sign.{Sign}
use Rattle.search_theory.specs.Matrix.{clause_places}
use Rattle.matrix_build.specs.MatrixView.{places_at, row_of, the_clause}
use Rattle.matrix_build.proofs.index.Index.new.Given as goal

abbrev pub invariant-loop-number : goal.invariant-loop-number
invariant-loop-number l = (symbol : ℕ) (sign : Sign) → places_at (row_of symbol sign) l.rows.items ++ clause_places symbol sign l.number (map the_clause (drop l.number l.clauses)) ≡ clause_places symbol sign 0 (map the_clause l.clauses)
