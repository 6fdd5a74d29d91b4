use Rattle.std.proofs.Common.{◌≡◌, ◌∙◌, ap, map, subst, sym}
use Rattle.term_store.specs.RefView.{the_place}
use Rattle.domain_cond.specs.Ranks.{IsAbove, rank_at}
use Rattle.domain_cond.specs.StandingView.{the_standing}
use Rattle.domain_cond.specs.Leaves.{is_among}
use Rattle.domain_cond.specs.Standings.{home_marks}
use Rattle.domain_cond.proofs.RankingLaws.{home-found, home-next}
use Rattle.domain_cond.proofs.ranking.above_home.Goals as goal

pub returns-then-contains : goal.returns-then-contains
returns-then-contains c =
    let t = the_standing c.standing_at-standing.result.now in
    let ts = map the_standing c.args.standings.now in
    let among = ap (λ xs. is_among (map the_place xs) c.args.end.0) (sym c.deref.ensures.value) ∙ sym c.contains.ensures ∙ c.if-contains.true in
    let home : home_marks ts c.args.end.0 ≡ map the_place c.deref-then-contains.result.now = home-found ts c.args.end.0 c.loop-i.i t c.loop-i.invariant c.standing_at-standing.ensures among ∙ ap (map the_place) (sym c.deref-then-contains.ensures.value) in
    subst (λ ks. IsAbove (rank_at c.args.ranks.now) ks c.above.result) (sym home) c.above.ensures

pub loop-i-preserved : goal.loop-i-preserved
loop-i-preserved c =
    let t = the_standing c.standing_at-standing.result.now in
    let ts = map the_standing c.args.standings.now in
    let among = ap (λ xs. is_among (map the_place xs) c.args.end.0) (sym c.deref.ensures.value) ∙ sym c.contains.ensures ∙ c.if-contains.false in
    home-next ts c.args.end.0 c.loop-i.i t c.loop-i.invariant c.standing_at-standing.ensures among
