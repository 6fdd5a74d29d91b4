use Rattle.std.proofs.Common.{subst, sym}
use Rattle.formula_core.specs.TermView.{the_term}
use Rattle.finite_model.specs.Shortened.{IsShort}
use Rattle.finite_model.proofs.shortening.+shortening.Goals as goal

pub short_args-loop-arg-init : goal.short_args-loop-arg-init
short_args-loop-arg-init t c = c.no_args-all.ensures c.args.structure.now c.args.depth

pub short_term-returns-in-Var : goal.short_term-returns-in-Var
short_term-returns-in-Var t c = subst (λ x. IsShort c.args.structure.now c.args.depth (the_term x) c.short_variable.result) (sym c.in-Var.is) (c.short_variable.ensures c.args.structure.now)

pub short_term-returns-in_ok-short-in-Fun : goal.short_term-returns-in_ok-short-in-Fun
short_term-returns-in_ok-short-in-Fun t c = subst (λ x. IsShort c.args.structure.now c.args.depth (the_term x) c.applied.result) (sym c.in-Fun.is) (c.applied.ensures c.args.depth c.in-Fun.args c.in_ok-short-in-Fun.ensures)
