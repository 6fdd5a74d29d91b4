use Rattle.std.proofs.Common.{map}
use Rattle.term_store.specs.ClauseView.{the_gamma}
use Rattle.domain_cond.specs.StandingView.{the_standing}
use Rattle.domain_cond.proofs.StandingLaws.{StandingsTo}
use Rattle.domain_cond.proofs.standing.standings.Given as goal

abbrev pub invariant-loop-i : goal.invariant-loop-i
invariant-loop-i l = StandingsTo l.store.store (map the_gamma l.gammas) (map the_standing l.items.items) l.i
