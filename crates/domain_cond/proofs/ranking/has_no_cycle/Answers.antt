use Rattle.std.proofs.Common.{◌≡◌, ◌∙◌, ap, map, subst, sym}
use Rattle.search_theory.specs.SpareRules.{homes}
use Rattle.domain_cond.specs.Ranks.{IsRound, rank_at}
use Rattle.domain_cond.specs.StandingView.{the_standing}
use Rattle.domain_cond.specs.Standings.{home_marks}
use Rattle.domain_cond.proofs.RankingLaws.{ranking-cycle, ranking-next, round-ranks}
use Rattle.domain_cond.proofs.ranking.has_no_cycle.Goals as goal

pub returns-then-are_same-clause-yes : goal.returns-then-are_same-clause-yes
returns-then-are_same-clause-yes c = λ q.
    let R = homes (home_marks (map the_standing c.args.standings.now)) in
    let s = c.args.store.now.store in
    let n = c.count-count.result in
    let f = rank_at c.loop-i.ranks.items in
    let g = rank_at c.in_ok-next.next.items in
    let round : IsRound R s n f g = subst (λ ns. IsRound R s n (rank_at ns) g) c.deref.ensures.value c.in_ok-next.ensures in
    round-ranks R s n f g c.count-count.ensures.well c.count-count.ensures.count c.requires round (λ r l. sym (ap (λ ns. rank_at ns r) c.deref-in-loop-i.ensures.value) ∙ c.are_same.ensures.yes c.if-are_same.true r l ∙ ap (λ ns. rank_at ns r) c.deref-in-loop-i-2.ensures.value)

pub loop-i-preserved : goal.loop-i-preserved
loop-i-preserved c =
    let R = homes (home_marks (map the_standing c.args.standings.now)) in
    let s = c.args.store.now.store in
    let n = c.count-count.result in
    let f = rank_at c.loop-i.ranks.items in
    let g = rank_at c.in_ok-next.next.items in
    let round : IsRound R s n f g = subst (λ ns. IsRound R s n (rank_at ns) g) c.deref.ensures.value c.in_ok-next.ensures in
    let (r, l, differ) = c.are_same.ensures.no c.if-are_same.false in
    ranking-next R s n c.loop-i._i f g c.count-count.ensures.count c.requires c.loop-i.invariant round (r, l, (λ e. differ (ap (λ ns. rank_at ns r) c.deref-in-loop-i.ensures.value ∙ e ∙ sym (ap (λ ns. rank_at ns r) c.deref-in-loop-i-2.ensures.value))))

pub returns-clause-no : goal.returns-clause-no
returns-clause-no c = λ q.
    let s = c.args.store.now.store in
    let n = c.count-count.result in
    ranking-cycle (homes (home_marks (map the_standing c.args.standings.now))) s n c.loop-i._i (rank_at c.loop-i.ranks.items) c.count-count.ensures.count c.requires c.loop-i.invariant c.loop-i-test.false
