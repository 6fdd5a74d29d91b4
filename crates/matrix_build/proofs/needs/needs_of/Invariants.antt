use Rattle.std.proofs.Common.{map}
use Rattle.matrix_build.proofs.NeedsLaws.{AreNeedsTo}
use Rattle.matrix_build.proofs.needs.needs_of.Given as goal
use Rattle.term_store.specs.ClauseView.{the_pattern_atom}

abbrev pub invariant-loop-i : goal.invariant-loop-i
invariant-loop-i l = AreNeedsTo (map the_pattern_atom l.literals) l.i l.needs
