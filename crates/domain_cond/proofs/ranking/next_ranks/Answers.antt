use Rattle.std.proofs.Common.{◌≡◌, arith, map}
use Rattle.search_theory.specs.SpareRules.{homes}
use Rattle.domain_cond.specs.Ranks.{rank_at}
use Rattle.domain_cond.specs.StandingView.{the_standing}
use Rattle.domain_cond.specs.Standings.{home_marks}
use Rattle.domain_cond.proofs.RankingLaws.{round-whole}
use Rattle.domain_cond.proofs.ranking.next_ranks.Goals as goal

pub returns : goal.returns
returns c =
    let done : c.loop-i.i ≡ c.args.count = omega arith in
    round-whole (homes (home_marks (map the_standing c.args.standings.now))) c.args.store.now.store (rank_at c.args.ranks.now) c.loop-i.next.items c.loop-i.i c.args.count done c.loop-i.invariant
