use Rattle.std.proofs.Common.{map}
use Rattle.search_theory.specs.Demanding.{HasNoConstant}
use Rattle.term_store.specs.ClauseView.{the_gamma}
use Rattle.domain_cond.proofs.FirstLaws.{AllTo}
use Rattle.domain_cond.proofs.standing.constant_stands.Given as goal

abbrev pub invariant-loop-i : goal.invariant-loop-i
invariant-loop-i l = AllTo (map the_gamma l.gammas) l.i (HasNoConstant l.store.store)
