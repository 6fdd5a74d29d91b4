use Rattle.std.proofs.Common.{◌≡◌, ◌++◌, ◌∙◌, ap, map}
use Rattle.store_theory.specs.Stores.{parts_of}
use Rattle.store_theory.proofs.BindingLaws.{ends-there}
use Rattle.term_store.specs.RefView.{the_place}
use Rattle.domain_cond.specs.Ranks.{rank_at}
use Rattle.domain_cond.specs.StandingView.{the_standing}
use Rattle.domain_cond.specs.Standings.{home_marks}
use Rattle.domain_cond.proofs.RankingLaws.{rank-parts}
use Rattle.domain_cond.proofs.ranking.next_rank.Goals as goal

pub is_open_term-requires : goal.is_open_term-requires
is_open_term-requires c = ends-there c.args.store.now.store c.args.cell.0 c.walk-end.result.0 c.walk-end.ensures.ends

pub push_parts-requires : goal.push_parts-requires
push_parts-requires c = ends-there c.args.store.now.store c.args.cell.0 c.walk-end.result.0 c.walk-end.ensures.ends

pub returns : goal.returns
returns c =
    let (d, at, unbound) = ends-there c.args.store.now.store c.args.cell.0 c.walk-end.result.0 c.walk-end.ensures.ends in
    let parts : map the_place c.deref.result.now ≡ parts_of d = ap (map the_place) c.deref.ensures.value ∙ c.in_ok-push_parts.ensures d at ∙ ap (λ xs. map the_place xs ++ parts_of d) c.new-parts.ensures.items in
    rank-parts (home_marks (map the_standing c.args.standings.now)) c.args.store.now.store (rank_at c.args.ranks.now) c.args.cell.0 c.walk-end.result.0 c.above.result d (map the_place c.deref.result.now) c.walk-end.ensures.ends at unbound (c.is_open_term.ensures.no c.if-is_open_term.false) parts c.above.ensures
