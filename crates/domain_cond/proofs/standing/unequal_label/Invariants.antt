use Rattle.std.proofs.Common.{map}
use Rattle.term_store.specs.ClauseView.{the_gamma}
use Rattle.domain_cond.proofs.StandingLaws.{AgreeTo}
use Rattle.domain_cond.proofs.standing.unequal_label.Given as goal

abbrev pub invariant-loop-i : goal.invariant-loop-i
invariant-loop-i l = AgreeTo l.store.store (map the_gamma l.gammas) l.i (the_gamma l.gamma)
