use Rattle.std.proofs.Common.{arith, map, slice_get, sym, ap, ◌∙◌}
use Rattle.std.proofs.lemmas.List.{length-map}
use Rattle.search_theory.specs.Demanding.{HasNoConstant}
use Rattle.term_store.specs.ClauseView.{the_gamma}
use Rattle.term_store.specs.RefView.{the_place}
use Rattle.domain_cond.specs.StandingView.{the_standing}
use Rattle.domain_cond.proofs.FirstLaws.{all-whole}
use Rattle.domain_cond.proofs.StandingLaws.{standing-own}
use Rattle.domain_cond.proofs.standing.constant_stands.Goals as goal

pub has_constant-requires : goal.has_constant-requires
has_constant-requires c i e at =
    let own = standing-own c.args.store.now.store (map the_gamma c.args.gammas.now) (map the_standing c.args.standings.now) c.loop-i.i (the_gamma c.gamma_at-gamma.result.now) (the_standing c.standing_at-standing.result.now) c.requires c.gamma_at-gamma.ensures c.standing_at-standing.ensures in
    (own.leaves.held i e (ap (λ xs. slice_get (map the_place xs) i) (sym c.deref.ensures.value) ∙ at)).1

pub returns-clause-no : goal.returns-clause-no
returns-clause-no c = λ q.
    let n = length-map c.args.gammas.now the_gamma in
    all-whole (map the_gamma c.args.gammas.now) c.loop-i.i (HasNoConstant c.args.store.now.store) (omega (arith, n)) c.loop-i.invariant
