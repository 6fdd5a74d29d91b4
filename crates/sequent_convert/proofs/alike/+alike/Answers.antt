use Rattle.std.proofs.Common.{◌≡◌, ◌<◌, ◌≤◌, true≢false, map, length, arith, ap, sym, ◌∙◌, refl}
use Rattle.std.proofs.lemmas.List.{take_all}
use Rattle.calculus.specs.Instances.{ground_of}
use Rattle.formula_core.specs.GroundLists.{the_g_term}
use Rattle.formula_core.specs.TermView.{the_term}
use Rattle.tableau_core.proofs.Places.{lengths-apart, not-so, views-item}
use Rattle.sequent_convert.proofs.ByNumber.AlikeLaws.{alike-by_items, items-by_alike}
use Rattle.sequent_convert.proofs.alike.+alike.Goals as goal

pub are_alike-returns-then-terms-patterns : goal.are_alike-returns-then-terms-patterns
are_alike-returns-then-terms-patterns t c = let env = map (the_g_term c.args.table.now) c.args.env.now in let other = map (the_g_term c.args.table.now) c.args.other.now in let ts = c.items-terms.result.now in let us = c.items-patterns.result.now in
    not-so (λ e. lengths-apart (λ x. ground_of env (the_term x)) (λ x. ground_of other (the_term x)) ts us c.if-terms-patterns.true (items-by_alike the_term the_term env other ts us c.args.terms.now c.args.patterns.now c.items-terms.ensures c.items-patterns.ensures e))

pub are_alike-returns-then-not-is_alike : goal.are_alike-returns-then-not-is_alike
are_alike-returns-then-not-is_alike t c = let env = map (the_g_term c.args.table.now) c.args.env.now in let other = map (the_g_term c.args.table.now) c.args.other.now in let ts = c.items-terms.result.now in let us = c.items-patterns.result.now in
    let i = c.loop-i.i in let x = c.index-terms-i.result in let y = c.index-patterns-i.result in
    let h : i < length ts = c.loop-i-test.true in let k : length ts ≡ length us = c.if-terms-patterns.false in
    not-so (λ e. true≢false (sym (c.is_alike.ensures.1 (views-item (λ x. ground_of env (the_term x)) (λ x. ground_of other (the_term x)) ts us i x x y y (omega arith) (omega arith) c.index-terms-i.is c.index-patterns-i.is (items-by_alike the_term the_term env other ts us c.args.terms.now c.args.patterns.now c.items-terms.ensures c.items-patterns.ensures e))) ∙ c.if-not-is_alike.true))

pub are_alike-returns : goal.are_alike-returns
are_alike-returns t c = let env = map (the_g_term c.args.table.now) c.args.env.now in let other = map (the_g_term c.args.table.now) c.args.other.now in let ts = c.items-terms.result.now in let us = c.items-patterns.result.now in
    let i = c.loop-i.i in let h : length ts ≤ i = c.loop-i-test.false in let k : length ts ≡ length us = c.if-terms-patterns.false in
    (λ _. alike-by_items the_term the_term env other ts us c.args.terms.now c.args.patterns.now c.items-terms.ensures c.items-patterns.ensures (ap (map (λ x. ground_of env (the_term x))) (sym (take_all i ts (omega arith))) ∙ c.loop-i.invariant ∙ ap (map (λ x. ground_of other (the_term x))) (take_all i us (omega arith))), λ _. refl)
