use Rattle.std.proofs.Common.{◌≡◌, ◌<◌, ◌≤◌, true≢false, map, length, arith, ap, sym, ◌∙◌, refl}
use Rattle.std.proofs.lemmas.List.{take_all}
use Rattle.calculus.specs.Instances.{ground_of}
use Rattle.formula_core.specs.GroundLists.{the_g_term, the_terms}
use Rattle.formula_core.specs.TermView.{the_term}
use Rattle.tableau_core.specs.Numbered.SpotView.{the_bound}
use Rattle.tableau_core.proofs.Environments.{instances-by_items, items-by_instances}
use Rattle.tableau_core.proofs.Places.{lengths-apart, not-so, views-item}
use Rattle.tableau_core.proofs.pattern.+instance_of_terms.Goals as goal

pub are_instances-returns-then-patterns-terms : goal.are_instances-returns-then-patterns-terms
are_instances-returns-then-patterns-terms t c = let env = map (the_bound c.args.table.now) c.args.env.now in let ps = c.items-patterns.result.now in let us = c.terms-terms.result.now in
    not-so (λ e. lengths-apart (λ x. ground_of env (the_term x)) (the_g_term c.args.table.now) ps us c.if-patterns-terms.true (items-by_instances the_term (the_g_term c.args.table.now) env ps us c.args.patterns.now (the_terms c.args.table.now c.args.terms) c.items-patterns.ensures c.terms-terms.ensures.list e))

pub are_instances-returns-then-not-is_instance : goal.are_instances-returns-then-not-is_instance
are_instances-returns-then-not-is_instance t c = let env = map (the_bound c.args.table.now) c.args.env.now in let ps = c.items-patterns.result.now in let us = c.terms-terms.result.now in
    let i = c.loop-i.i in let p = c.index-patterns-i.result in
    let h : i < length ps = c.loop-i-test.true in let k : length ps ≡ length us = c.if-patterns-terms.false in
    not-so (λ e. true≢false (sym (c.is_instance.ensures.1 (views-item (λ x. ground_of env (the_term x)) (the_g_term c.args.table.now) ps us i p p _ _ (omega arith) (omega arith) c.index-patterns-i.is refl (items-by_instances the_term (the_g_term c.args.table.now) env ps us c.args.patterns.now (the_terms c.args.table.now c.args.terms) c.items-patterns.ensures c.terms-terms.ensures.list e))) ∙ c.if-not-is_instance.true))

pub are_instances-returns : goal.are_instances-returns
are_instances-returns t c = let env = map (the_bound c.args.table.now) c.args.env.now in let ps = c.items-patterns.result.now in let us = c.terms-terms.result.now in
    let i = c.loop-i.i in let h : length ps ≤ i = c.loop-i-test.false in let k : length ps ≡ length us = c.if-patterns-terms.false in
    (λ _. instances-by_items the_term (the_g_term c.args.table.now) env ps us c.args.patterns.now (the_terms c.args.table.now c.args.terms) c.items-patterns.ensures c.terms-terms.ensures.list (ap (map (λ x. ground_of env (the_term x))) (sym (take_all i ps (omega arith))) ∙ c.loop-i.invariant ∙ ap (map (the_g_term c.args.table.now)) (take_all i us (omega arith))), λ _. refl)
