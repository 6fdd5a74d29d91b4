use Rattle.std.proofs.Common.{arith, map}
use Rattle.std.proofs.lemmas.List.{length-map}
use Rattle.plain_laws.proofs.Places.{get-there}
use Rattle.term_store.specs.ClauseView.{the_gamma}
use Rattle.domain_cond.proofs.StandingLaws.{all_agree-next, all_agree-start, all_agree-whole}
use Rattle.domain_cond.proofs.standing.unequal_labels.Goals as goal

pub loop-place-init : goal.loop-place-init
loop-place-init c = all_agree-start c.args.store.now.store (map the_gamma c.args.gammas.now)

pub loop-place-preserved : goal.loop-place-preserved
loop-place-preserved c =
    let n = length-map c.args.gammas.now the_gamma in
    let gs = map the_gamma c.args.gammas.now in
    let (g, at) = get-there gs c.loop-place.place (omega (arith, n)) in
    all_agree-next c.args.store.now.store gs c.loop-place.place g c.loop-place.invariant at (c.in_ok-e.ensures.met c.in_default.is g at)

pub returns-clause-met : goal.returns-clause-met
returns-clause-met c = λ q.
    let n = length-map c.args.gammas.now the_gamma in
    all_agree-whole c.args.store.now.store (map the_gamma c.args.gammas.now) c.loop-place.place (omega (arith, n)) c.loop-place.invariant
