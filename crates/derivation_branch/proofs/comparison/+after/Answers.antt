use Rattle.std.proofs.Common.{◌≡◌, ◌+◌, ◌++◌, ◌∷◌, ◌∙◌, List, ap, drop, map, refl, subst, sym, arith}
use Rattle.std.proofs.lemmas.List.{at_drop_more, length-map}
use Rattle.calculus.specs.Lists.{terms_tree}
use Rattle.formula_core.specs.TermView.{the_term}
use Rattle.formula_core.specs.declared.term.Term.{Term}
use Rattle.derivation_branch.specs.EntryView.{term_under}
use Rattle.formula_text.specs.Rows.{row_of, rows_of}
use Rattle.derivation_branch.proofs.FollowingLaws.{IsAfter, after-step, some-then, symbol-first, symbol-then}
use Rattle.derivation_branch.proofs.comparison.+after.Goals as goal

pub after_term-returns-in_err-rest-in-Fun-clause-none : goal.after_term-returns-in_err-rest-in-Fun-clause-none
after_term-returns-in_err-rest-in-Fun-clause-none t c = λ _ rest e.
    let table = c.args.substitutions.now in
    let us = map (term_under table c.in-Fun.i) c.in-Fun.args.now in
    c.in_err-rest-in-Fun.ensures.none refl (rows_of (terms_tree us) ++ rest)
    (symbol-first c.args.items.now rest c.in-Fun.f c.len.result (term_under table c.args.i (the_term c.args.t.now)) us c.in-Fun.ensures.head (c.len.ensures ∙ sym (length-map c.in-Fun.args.now (term_under table c.in-Fun.i))) e)

pub after_term-returns-in_ok-rest-in-Fun-clause-some : goal.after_term-returns-in_ok-rest-in-Fun-clause-some
after_term-returns-in_ok-rest-in-Fun-clause-some t c =
    let table = c.args.substitutions.now in
    let us = map (term_under table c.in-Fun.i) c.in-Fun.args.now in
    some-then (λ r. c.in_ok-rest-in-Fun.rest.now ≡ rows_of (terms_tree us) ++ r.now) _ c.after_terms.result
    (λ r k. symbol-then c.args.items.now c.in_ok-rest-in-Fun.rest.now r.now c.in-Fun.f c.len.result (term_under table c.args.i (the_term c.args.t.now)) us c.in-Fun.ensures.head (c.len.ensures ∙ sym (length-map c.in-Fun.args.now (term_under table c.in-Fun.i))) c.in_ok-rest-in-Fun.ensures.some k)
    c.after_terms.ensures.some

pub after_terms-loop-t-preserved : goal.after_terms-loop-t-preserved
after_terms-loop-t-preserved t c =
    let under = term_under c.args.substitutions.now c.args.i in
    let items = c.items-t-items.result.now in
    let left = λ (xs : List Term). rows_of (terms_tree (map under (map the_term xs))) in
    let here : drop c.loop-t.t-index items ≡ c.t-item.result ∷ drop (c.loop-t.t-index + 1) items = at_drop_more (λ (xs : List Term). xs) items c.loop-t.t-index c.t-item.result (omega (arith, c.loop-t-test.true)) ∙ ap (λ y. y ∷ drop (c.loop-t.t-index + 1) items) (sym c.t-item.is) in
    after-step c.args.items.now (rows_of (terms_tree (map under c.args.ts.now))) c.loop-t.rest.now c.in_ok-rest.rest.now (row_of (under (the_term c.t-item.result))) (left (drop (c.loop-t.t-index + 1) items))
    (subst (λ xs. IsAfter c.args.items.now (rows_of (terms_tree (map under c.args.ts.now))) c.loop-t.rest.now (left xs)) here c.loop-t.invariant)
    c.in_ok-rest.ensures.some
