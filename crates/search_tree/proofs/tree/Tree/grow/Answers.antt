use Rattle.std.proofs.Common.{◌≡◌, ◌+◌, ◌-◌, ◌++◌, ◌∙◌, ap, ap₂, arith, length}
use Rattle.std.proofs.lemmas.List.{length-map}
use Rattle.term_store.specs.ClauseView.{the_atom}
use Rattle.search_tree.specs.Trees.{fresh_goals, goals_of, link_from}
use Rattle.search_tree.proofs.GrowthLaws.{fresh-next}
use Rattle.search_tree.proofs.tree.Tree.grow.Goals as goal

pub loop-literal-preserved : goal.loop-literal-preserved
loop-literal-preserved c = record {
  goals = ap (λ xs. xs ++ fresh_goals c.len-number.result c.len-first.result c.args.above c.args.behind c.args.depth (c.loop-literal.literal + 1) (length c.goals_of-count.result.now - (c.loop-literal.literal + 1))) c.in_ok-push-2.ensures.items
      ∙ fresh-next c.len-number.result c.len-first.result c.args.depth c.loop-literal.literal (length c.goals_of-count.result.now) c.args.above c.args.behind c.link-next.result c.loop-literal.self.goals.items _ (omega arith) c.link-next.ensures c.loop-literal.invariant.goals;
  steps = c.loop-literal.invariant.steps;
}

pub returns-clause-first : goal.returns-clause-first
returns-clause-first c =
    let n = length-map c.goals_of-count.result.now the_atom in
    let m = ap length c.goals_of-count.ensures in
    let k : length c.goals_of-count.result.now - 0 ≡ length (goals_of c.args.step) = omega (arith, n, m) in
    let o = c.args.self.now.goals.ok.0 in
    let e = c.len-first.ensures in
    let f : c.len-first.result ≡ length c.args.self.now.goals.items = omega (arith, o, e) in
    c.link-self.ensures ∙ ap₂ (λ a b. link_from a c.args.behind 0 b) f k
