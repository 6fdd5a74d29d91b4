use Rattle.std.proofs.Common.{arith, ap, get_or, ◌≡◌, ◌<◌, ◌≤◌, ◌∙◌, sym, length, min}
use Rattle.calculus.specs.Choices.{choice_cmp}
use Rattle.tableau_core.specs.ChoiceView.{the_choice}
use Rattle.tableau_core.proofs.Comparing.{compare-end, compare-here, compare-views, differs}
use Rattle.tableau_core.proofs.choice.compare.Goals as goal

pub returns : goal.returns
returns c = let a = c.args.a.now in let b = c.args.b.now in let n = c.min-i-end.result in let i = c.loop-i.i in
    let e : n ≡ min (length a) (length b) = c.min-i-end.ensures in
    let t : n ≤ i = c.loop-i-test.false in
    let u : i ≤ n = c.loop-i.auto.i-end in
    c.cmp.ensures ∙ sym (compare-end (λ x y. choice_cmp (the_choice x) (the_choice y)) a b i (omega arith) (omega arith) (omega arith)) ∙ c.loop-i.invariant ∙ compare-views the_choice choice_cmp a b

pub returns-then-ne : goal.returns-then-ne
returns-then-ne c = let a = c.args.a.now in let b = c.args.b.now in let i = c.loop-i.i in let n = c.min-i-end.result in
    let e : n ≡ min (length a) (length b) = c.min-i-end.ensures in
    let t : i < n = c.loop-i-test.true in
    let o = c.compare_choice-order.result in
    let x = c.index-a-i.result in let y = c.index-b-i.result in
    let q : choice_cmp (the_choice (get_or a i x)) (the_choice (get_or b i y)) ≡ o = ap (λ z. choice_cmp (the_choice z) (the_choice (get_or b i y))) (sym c.index-a-i.is) ∙ ap (λ z. choice_cmp (the_choice x) (the_choice z)) (sym c.index-b-i.is) ∙ sym c.compare_choice-order.ensures in
    sym (compare-here (λ x y. choice_cmp (the_choice x) (the_choice y)) a b i x y o (omega arith) (omega arith) q (differs o c.ne.result c.if-ne.true c.ne.ensures)) ∙ c.loop-i.invariant ∙ compare-views the_choice choice_cmp a b
