use Rattle.std.proofs.Common.{map}
use Rattle.term_store.specs.ClauseView.{the_gamma}
use Rattle.domain_cond.proofs.StandingLaws.{AllAgreeTo}
use Rattle.domain_cond.proofs.standing.unequal_labels.Given as goal

abbrev pub invariant-loop-place : goal.invariant-loop-place
invariant-loop-place l = AllAgreeTo l.store.store (map the_gamma l.gammas) l.place
