use Rattle.std.proofs.Common.{sym, ◌∙◌, ap, refl}
use Rattle.calculus.specs.Lists.{terms_tree}
use Rattle.calculus.specs.Problems.{term_fits_in, terms_fit_in}
use Rattle.formula_core.specs.TermView.{the_term}
use Rattle.logic_rules.proofs.FittingLaws.{fun-then, fun-else}
use Rattle.logic_rules.proofs.fitting.+fitting.Goals as goal

pub term_fits-returns-then-has_function : goal.term_fits-returns-then-has_function
term_fits-returns-then-has_function t c =
    fun-then c.args.symbols.now c.args.depth c.in-Fun.f.0 c.len.result c.in-Fun.args c.has_function.result c.terms_fit.result c.has_function.ensures c.len.ensures c.terms_fit.ensures c.if-has_function.true
    ∙ sym (ap (λ x. term_fits_in c.args.symbols.now c.args.depth (the_term x)) c.in-Fun.is)

pub term_fits-returns-else-has_function : goal.term_fits-returns-else-has_function
term_fits-returns-else-has_function t c =
    fun-else c.args.symbols.now c.args.depth c.in-Fun.f.0 c.len.result c.in-Fun.args c.has_function.result c.has_function.ensures c.len.ensures c.if-has_function.false
    ∙ sym (ap (λ x. term_fits_in c.args.symbols.now c.args.depth (the_term x)) c.in-Fun.is)
