use Rattle.std.proofs.Common.{map}
use Rattle.matrix_build.specs.MatrixView.{the_clause}
use Rattle.matrix_build.proofs.NeedsLaws.{AreFirstNeeds}
use Rattle.matrix_build.proofs.needs.needs_of_all.Given as goal

abbrev pub invariant-loop-i : goal.invariant-loop-i
invariant-loop-i l = AreFirstNeeds l.needs.items (map the_clause l.clauses) l.i
