use Rattle.std.proofs.Common.{map}
use Rattle.term_store.specs.SystemView.{the_pair}
use Rattle.prefix_split.proofs.SameLaws.{ApartTo}
use Rattle.prefix_split.proofs.same.same_pair.Given as goal

abbrev pub invariant-loop-i : goal.invariant-loop-i
invariant-loop-i l = ApartTo l.store.store (map the_pair l.pairs) l.i
