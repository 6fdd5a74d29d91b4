use Rattle.std.proofs.Common.{◌+◌, ◌&&◌, ap, arith, drop, map, refl, sym, ◌∙◌}
use Rattle.std.proofs.lemmas.List.{drop_all}
use Rattle.plain_laws.proofs.Booleans.{and-true}
use Rattle.calculus.specs.Lists.{g_terms_tree}
use Rattle.calculus.specs.Skolem.{are_allowed}
use Rattle.formula_core.specs.GroundLists.{the_g_term}
use Rattle.tableau_core.specs.Numbered.Ahead.{are_ahead_allowed}
use Rattle.tableau_core.specs.Numbered.SpotView.{the_mark_at}
use Rattle.tableau_core.proofs.Numbered.AheadLaws.{item-goes_on, items-end, items-step}
use Rattle.tableau_core.proofs.Numbered.KnownLaws.{lower-term-item}
use Rattle.tableau_core.proofs.allowance.are_items_allowed.Goals as goal

pub loop-term-init : goal.loop-term-init
loop-term-init c = let P = c.args.problem.now in let ls = c.args.table.now in let w = map (the_mark_at ls) c.args.at.now in record {
  allowed = ap (λ ts. are_ahead_allowed P w ls c.args.ahead.now.keys && are_allowed P w (g_terms_tree ts)) c.terms-terms.ensures.list;
  bound = c.requires;
}

pub returns-then-not-branch-clause-allowed : goal.returns-then-not-branch-clause-allowed
returns-then-not-branch-clause-allowed c = let P = c.args.problem.now in let ls = c.args.table.now in let w = map (the_mark_at ls) c.args.at.now in
    items-end P w ls c.terms-terms.result.now c.loop-term.term-index _ c.in_ok-is_item_allowed.field-0 c.is_item_allowed.new.ahead.keys c.loop-term.ahead.keys _ (omega arith) c.in_ok-is_item_allowed.ensures.allowed c.if-not-branch.true c.loop-term.invariant.allowed

pub returns-then-not-branch-clause-bound : goal.returns-then-not-branch-clause-bound
returns-then-not-branch-clause-bound c =
    let le = c.in_ok-is_item_allowed.ensures.bound c.args.list.0 (lower-term-item c.args.table.now c.args.list.0 c.args.list.0 c.terms-terms.result.now c.loop-term.term-index _ refl c.terms-terms.ensures.lower (omega arith)) in
    let before = c.loop-term.invariant.bound in
    omega (arith, le, before)

pub loop-term-preserved : goal.loop-term-preserved
loop-term-preserved c = let P = c.args.problem.now in let ls = c.args.table.now in let w = map (the_mark_at ls) c.args.at.now in let i = c.loop-term.term-index in record {
  allowed = item-goes_on c.in_ok-is_item_allowed.field-0 _ _ _ _ _ c.in_ok-is_item_allowed.ensures.allowed c.if-not-branch.false (ap (λ x. are_ahead_allowed P w ls c.loop-term.ahead.keys && x) (sym (items-step P w ls c.terms-terms.result.now i (i + 1) _ (omega arith) (omega arith))) ∙ c.loop-term.invariant.allowed);
  bound =
      let le = c.in_ok-is_item_allowed.ensures.bound c.args.list.0 (lower-term-item ls c.args.list.0 c.args.list.0 c.terms-terms.result.now i _ refl c.terms-terms.ensures.lower (omega arith)) in
      let before = c.loop-term.invariant.bound in
      omega (arith, le, before);
}

pub returns-clause-allowed : goal.returns-clause-allowed
returns-clause-allowed c = let P = c.args.problem.now in let ls = c.args.table.now in let w = map (the_mark_at ls) c.args.at.now in let x = are_ahead_allowed P w ls c.loop-term.ahead.keys in
    sym (and-true x) ∙ sym (ap (λ ts. x && are_allowed P w (g_terms_tree (map (the_g_term ls) ts))) (drop_all c.loop-term.term-index c.terms-terms.result.now (omega arith))) ∙ c.loop-term.invariant.allowed

pub returns-clause-bound : goal.returns-clause-bound
returns-clause-bound c = c.loop-term.invariant.bound
