use Rattle.std.proofs.Common.{◌∷◌, ◌≡◌, map, ap, sym, ◌∙◌, length, arith, refl}
use Rattle.std.proofs.lemmas.List.{length-map}
use Rattle.std.specs.Prelude.{remove}
use Rattle.calculus.specs.Lists.{closings_tree}
use Rattle.calculus.specs.Tableaux.{extend}
use Rattle.tableau_core.proofs.Numbered.ClosingLaws.{closings-in, items-closings, map-remove}
use Rattle.tableau_core.specs.Numbered.ClosingView.{closing_in, closings_in, the_closing}
use Rattle.tableau_core.specs.Counted.{closed_all, closed_one, counted, and_more, longest_string}
use Rattle.tableau_core.specs.Numbered.InstanceView.{the_instance}
use Rattle.tableau_core.specs.Numbered.LiteralView.{the_literal}
use Rattle.tableau_core.proofs.CountLaws.{reduced, extended, extended-not, extension-inside, items-apart, loop-next, loop-stuck, loop-end, closed-small}
use Rattle.tableau_core.proofs.closed.+closed.Goals as goal

-- What is counted below a goal and below a list of goals.

pub closes-returns-in-Reduce : goal.closes-returns-in-Reduce
closes-returns-in-Reduce t c = let P = c.args.problem.now in let d = c.args.limit in let path = map (the_literal c.args.table.now) c.args.path.now in let g = (the_literal c.args.table.now) c.args.goal in
    c.counted-closed.ensures ∙ ap (λ b. counted b c.args.so_far 0 0) c.reduces.ensures ∙ reduced P d path g c.in-Reduce.up c.args.so_far
    ∙ sym (ap (λ x. closed_one P d path g (closing_in c.args.table.now (the_closing x)) c.args.so_far) c.in-Reduce.is)

pub closes-goals_but-requires : goal.closes-goals_but-requires
closes-goals_but-requires t c = let e = c.in-Extend in
    let inside = extension-inside c.args.problem.now c.args.limit (map (the_literal c.args.table.now) c.args.path.now) ((the_literal c.args.table.now) c.args.goal) ((the_instance c.args.table.now) e.instance) e.literal c.in-Some.more (sym c.in-Some.is ∙ c.in_ok-own-in-Extend.ensures) in
    let n : length c.items.result.now ≡ length e.instance.literals = ap length c.items.ensures in let m = length-map e.instance.literals (the_literal c.args.table.now) in omega (arith, inside, n, m)

pub closes-returns-in-None : goal.closes-returns-in-None
closes-returns-in-None t c = let P = c.args.problem.now in let d = c.args.limit in let path = map (the_literal c.args.table.now) c.args.path.now in let g = (the_literal c.args.table.now) c.args.goal in let e = c.in-Extend in
    extended-not P d path g ((the_instance c.args.table.now) e.instance) e.literal (closings_tree (map (closing_in c.args.table.now) e.goals)) c.args.so_far (sym c.in-None.is ∙ c.in_ok-own-in-Extend.ensures)
    ∙ sym (ap (λ x. closed_one P d path g (closing_in c.args.table.now (the_closing x)) c.args.so_far) e.is ∙ ap (λ cs. closed_one P d path g (extend (the_instance c.args.table.now e.instance) e.literal cs) c.args.so_far) (closings-in c.args.table.now e.goals))

pub closes-returns-in_ok-closed-in-Some : goal.closes-returns-in_ok-closed-in-Some
closes-returns-in_ok-closed-in-Some t c = let P = c.args.problem.now in let d = c.args.limit in let path = map (the_literal c.args.table.now) c.args.path.now in let g = (the_literal c.args.table.now) c.args.goal in let e = c.in-Extend in let count = c.and_more-count.result in
    c.in_ok-closed-in-Some.ensures
    ∙ ap (λ ps. closed_all P d ps (map (the_literal c.args.table.now) c.deref-in-Some.result.now) (closings_tree (map (closing_in c.args.table.now) e.goals)) count) (ap (map (the_literal c.args.table.now)) (c.deref.ensures.value ∙ c.in_ok-longer-in-Some.ensures))
    ∙ ap (λ gs. closed_all P d (g ∷ path) gs (closings_tree (map (closing_in c.args.table.now) e.goals)) count) (ap (map (the_literal c.args.table.now)) (c.deref-in-Some.ensures.value ∙ c.in_ok-others-in-Some.ensures ∙ ap (λ ls. remove ls e.literal) c.items.ensures) ∙ map-remove (the_literal c.args.table.now) e.instance.literals e.literal)
    ∙ extended P d path g ((the_instance c.args.table.now) e.instance) e.literal (closings_tree (map (closing_in c.args.table.now) e.goals)) c.args.so_far count c.in-Some.more (sym c.in-Some.is ∙ c.in_ok-own-in-Extend.ensures) (c.and_more-count.ensures ∙ ap (and_more c.args.so_far c.in-Some.more) (c.longest_string-string.ensures ∙ ap longest_string c.values.ensures.list))
    ∙ sym (ap (λ x. closed_one P d path g (closing_in c.args.table.now (the_closing x)) c.args.so_far) e.is ∙ ap (λ cs. closed_one P d path g (extend (the_instance c.args.table.now e.instance) e.literal cs) c.args.so_far) (closings-in c.args.table.now e.goals))

pub closes_all-returns-then-goals-items : goal.closes_all-returns-then-goals-items
closes_all-returns-then-goals-items t c = items-apart c.args.problem.now c.args.limit (map (the_literal c.args.table.now) c.args.path.now) (the_literal c.args.table.now) (λ y. closing_in c.args.table.now (the_closing y)) c.args.goals.now c.items-items.result.now (map (closing_in c.args.table.now) c.args.closings.now) c.args.so_far c.if-goals-items.true (items-closings c.args.table.now c.items-items.result.now c.args.closings.now c.items-items.ensures)

pub closes_all-returns-in-None : goal.closes_all-returns-in-None
closes_all-returns-in-None t c = let y = c.index-items-i.result in
    loop-stuck c.args.problem.now c.args.limit (map (the_literal c.args.table.now) c.args.path.now) (the_literal c.args.table.now) (λ y. closing_in c.args.table.now (the_closing y)) c.args.goals.now c.items-items.result.now c.loop-i.i _ _ y y c.loop-i.count (omega arith) (omega arith) refl c.index-items-i.is (sym c.in-None.is ∙ c.in_ok-one.ensures)
    ∙ c.loop-i.invariant.goals

pub closes_all-loop-i-init : goal.closes_all-loop-i-init
closes_all-loop-i-init t c = record {
  goals = ap (λ cs. closed_all c.args.problem.now c.args.limit (map (the_literal c.args.table.now) c.args.path.now) (map (the_literal c.args.table.now) c.args.goals.now) (closings_tree cs) c.args.so_far) (items-closings c.args.table.now c.items-items.result.now c.args.closings.now c.items-items.ensures);
  small = omega arith;
}

pub closes_all-loop-i-preserved : goal.closes_all-loop-i-preserved
closes_all-loop-i-preserved t c = let y = c.index-items-i.result in let P = c.args.problem.now in let d = c.args.limit in let path = map (the_literal c.args.table.now) c.args.path.now in
    let closed = sym c.in-Some.is ∙ c.in_ok-one.ensures in record {
      goals = loop-next P d path (the_literal c.args.table.now) (λ y. closing_in c.args.table.now (the_closing y)) c.args.goals.now c.items-items.result.now c.loop-i.i _ _ _ y y c.loop-i.count c.in-Some.more (omega arith) (omega arith) (omega arith) refl c.index-items-i.is closed ∙ c.loop-i.invariant.goals;
      small = closed-small P d path _ (closing_in c.args.table.now (the_closing y)) c.loop-i.count c.in-Some.more closed;
    }

pub closes_all-returns : goal.closes_all-returns
closes_all-returns t c =
    loop-end c.args.problem.now c.args.limit (map (the_literal c.args.table.now) c.args.path.now) (the_literal c.args.table.now) (λ y. closing_in c.args.table.now (the_closing y)) c.args.goals.now c.items-items.result.now c.loop-i.i c.loop-i.count (omega arith) (omega arith) c.loop-i.invariant.small
    ∙ c.loop-i.invariant.goals
