use Rattle.std.proofs.Common.{◌≡◌, ◌∙◌, ap, arith, length, map}
use Rattle.std.proofs.lemmas.List.{length-map}
use Rattle.plain_laws.proofs.Every.{all-at}
use Rattle.plain_laws.proofs.Lists.{map-last}
use Rattle.store_theory.specs.Systems.{is_gamma_cell}
use Rattle.term_store.specs.ClauseView.{the_gamma}
use Rattle.domain_cond.specs.StandingView.{the_standing}
use Rattle.domain_cond.proofs.StandingLaws.{standings-next, standings-whole}
use Rattle.domain_cond.proofs.standing.standings.Goals as goal

pub standing_in-requires-clause-gamma : goal.standing_in-requires-clause-gamma
standing_in-requires-clause-gamma c = all-at (is_gamma_cell c.args.store.now.store) (map the_gamma c.args.gammas.now) c.loop-i.i (the_gamma c.gamma_at.result.now) c.requires.gammas c.gamma_at.ensures

pub standing_in-requires-clause-free : goal.standing_in-requires-clause-free
standing_in-requires-clause-free c = c.requires.free c.loop-i.i (the_gamma c.gamma_at.result.now) c.gamma_at.ensures

pub loop-i-preserved : goal.loop-i-preserved
loop-i-preserved c = standings-next c.args.store.now.store (map the_gamma c.args.gammas.now) (map the_standing c.loop-i.items.items) (map the_standing c.push.new.self.items) c.loop-i.i (the_gamma c.gamma_at.result.now) (the_standing c.in_ok-standing_in.field-0) c.loop-i.invariant c.gamma_at.ensures c.in_ok-standing_in.ensures (ap (map the_standing) c.in_ok-push.ensures.items ∙ map-last the_standing c.loop-i.items.items c.in_ok-standing_in.field-0)

pub returns : goal.returns
returns c =
    let n = length-map c.args.gammas.now the_gamma in
    let done : c.loop-i.i ≡ length (map the_gamma c.args.gammas.now) = omega (arith, n) in
    standings-whole c.args.store.now.store (map the_gamma c.args.gammas.now) (map the_standing c.loop-i.items.items) c.loop-i.i done c.loop-i.invariant
