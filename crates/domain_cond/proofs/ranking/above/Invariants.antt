use Rattle.std.proofs.Common.{map}
use Rattle.term_store.specs.RefView.{the_place}
use Rattle.domain_cond.specs.Ranks.{IsAboveTo, rank_at}
use Rattle.domain_cond.proofs.ranking.above.Given as goal

abbrev pub invariant-loop-i : goal.invariant-loop-i
invariant-loop-i l = IsAboveTo (rank_at l.ranks) (map the_place l.cells) l.i l.above
