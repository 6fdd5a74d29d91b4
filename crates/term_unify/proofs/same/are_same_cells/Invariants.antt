use Rattle.std.proofs.Common.{map}
use Rattle.term_store.specs.RefView.{the_place}
use Rattle.term_unify.proofs.SameLaws.{SameTo}
use Rattle.term_unify.proofs.same.are_same_cells.Given as goal

abbrev pub invariant-loop-i : goal.invariant-loop-i
invariant-loop-i l = SameTo l.store.store (map the_place l.xs) (map the_place l.ys) l.i
