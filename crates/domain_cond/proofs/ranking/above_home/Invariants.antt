use Rattle.std.proofs.Common.{◌≡◌, drop, map}
use Rattle.domain_cond.specs.StandingView.{the_standing}
use Rattle.domain_cond.specs.Standings.{home_marks}
use Rattle.domain_cond.proofs.ranking.above_home.Given as goal

abbrev pub invariant-loop-i : goal.invariant-loop-i
invariant-loop-i l = home_marks (drop l.i (map the_standing l.standings)) l.end.0 ≡ home_marks (map the_standing l.standings) l.end.0
