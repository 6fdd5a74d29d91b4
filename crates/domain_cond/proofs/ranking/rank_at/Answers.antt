use Rattle.std.proofs.Common.{sym}
use Rattle.domain_cond.proofs.RankingLaws.{rank-beyond, rank-get}
use Rattle.domain_cond.proofs.ranking.rank_at.Goals as goal

pub returns-then-place-ranks : goal.returns-then-place-ranks
returns-then-place-ranks c = rank-get c.args.ranks.now c.args.place

pub returns-else-place-ranks : goal.returns-else-place-ranks
returns-else-place-ranks c = sym (rank-beyond c.args.ranks.now c.args.place c.if-place-ranks.false)
