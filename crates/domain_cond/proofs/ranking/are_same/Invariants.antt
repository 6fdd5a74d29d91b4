use Rattle.std.proofs.Common.{◌≡◌, ◌<◌, ℕ}
use Rattle.domain_cond.specs.Ranks.{rank_at}
use Rattle.domain_cond.proofs.ranking.are_same.Given as goal

abbrev pub invariant-loop-i : goal.invariant-loop-i
invariant-loop-i l = (r : ℕ) → r < l.i → rank_at l.left r ≡ rank_at l.right r
