use Rattle.std.proofs.Common.{map}
use Rattle.search_theory.specs.SpareRules.{homes}
use Rattle.domain_cond.specs.Ranks.{rank_at}
use Rattle.domain_cond.specs.StandingView.{the_standing}
use Rattle.domain_cond.specs.Standings.{home_marks}
use Rattle.domain_cond.proofs.RankingLaws.{RoundTo}
use Rattle.domain_cond.proofs.ranking.next_ranks.Given as goal

abbrev pub invariant-loop-i : goal.invariant-loop-i
invariant-loop-i l = RoundTo (homes (home_marks (map the_standing l.standings))) l.store.store (rank_at l.ranks) l.next.items l.i
