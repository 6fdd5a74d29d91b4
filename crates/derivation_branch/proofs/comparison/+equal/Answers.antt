use Rattle.std.proofs.Common.{◌∙◌, ap, refl, sym}
use Rattle.calculus.specs.Equality.{term_eq}
use Rattle.formula_core.specs.TermView.{the_term}
use Rattle.derivation_branch.specs.EntryView.{term_under}
use Rattle.derivation_branch.proofs.UnderLaws.{lengths-under, under-value}
use Rattle.derivation_branch.proofs.comparison.+equal.Goals as goal

pub are_equal_terms-returns-then-left-right : goal.are_equal_terms-returns-then-left-right
are_equal_terms-returns-then-left-right t c =
    sym (lengths-under c.args.substitutions.now c.args.i c.args.j c.items-left.result.now c.items-right.result.now c.args.ts.now c.args.us.now c.items-left.ensures c.items-right.ensures c.if-left-right.true)

pub is_equal_term-returns-in-Var-Var : goal.is_equal_term-returns-in-Var-Var
is_equal_term-returns-in-Var-Var t c =
    let table = c.args.substitutions.now in
    let one = under-value table c.args.i c.in-Var-Var.k _ c.are_equal.ensures.closed refl ∙ ap (term_under table c.args.i) (sym (ap the_term c.in-Var-Var.is-0)) in
    let two = under-value table c.args.j c.in-Var-Var.m _ c.are_equal.ensures.other_closed refl ∙ ap (term_under table c.args.j) (sym (ap the_term c.in-Var-Var.is-1)) in
    c.are_equal.ensures.told ∙ (λ i. term_eq (one i) (two i))
