use Rattle.std.proofs.Common.{subst, sym}
use Rattle.formula_text.proofs.Passing.{error-passed}
use Rattle.tableau_text.specs.OpenView.{the_head}
use Rattle.tableau_text.specs.Tokens.{IsBegunAt, NoneAt, by_number, opened, whole}
use Rattle.tableau_text.specs.Items.{a_mark}
use Rattle.calculus.specs.Ground.{g_spare_mark}
use Rattle.tableau_text.proofs.TokenLaws.{spare-begun}
use Rattle.tableau_text.proofs.begun.begin_numbered.Goals as goal

pub returns-in_err-list-in-Eigen-clause-none : goal.returns-in_err-list-in-Eigen-clause-none
returns-in_err-list-in-Eigen-clause-none c = λ e.
    subst (λ k. NoneAt c.args.symbols.now (by_number k c.args.number) c.args.text.now) (sym c.in-Eigen.is) (c.in_err-list-in-Eigen.ensures.none (error-passed c.from_residual.result c.in_err-list-in-Eigen.field-0.0 _ c.from_residual.ensures.1 e))

pub returns-in_err-list-in-New-clause-none : goal.returns-in_err-list-in-New-clause-none
returns-in_err-list-in-New-clause-none c = λ e.
    subst (λ k. NoneAt c.args.symbols.now (by_number k c.args.number) c.args.text.now) (sym c.in-New.is) (c.in_err-list-in-New.ensures.none (error-passed c.from_residual-in_err-list-in-New.result c.in_err-list-in-New.field-0.0 _ c.from_residual-in_err-list-in-New.ensures.1 e))

pub returns-in_ok-list-in-New-clause-ok : goal.returns-in_ok-list-in-New-clause-ok
returns-in_ok-list-in-New-clause-ok c =
    subst (λ k. IsBegunAt c.args.symbols.now (by_number k c.args.number) c.args.text.now (opened (the_head c.in_ok-list-in-New.list)) c.in_ok-list-in-New.rest.now) (sym c.in-New.is) c.in_ok-list-in-New.ensures.ok

pub returns-in-Constant-clause-none : goal.returns-in-Constant-clause-none
returns-in-Constant-clause-none c = λ e. subst (λ k. NoneAt c.args.symbols.now (by_number k c.args.number) c.args.text.now) (sym c.in-Constant.is) (c.begin_spare.ensures.none e)

pub returns-in-Spare-clause-ok : goal.returns-in-Spare-clause-ok
returns-in-Spare-clause-ok c =
    subst (λ k. IsBegunAt c.args.symbols.now (by_number k c.args.number) c.args.text.now (whole (a_mark (g_spare_mark c.args.number))) c.args.text.now) (sym c.in-Spare.is) (spare-begun c.args.symbols.now c.requires.fits c.args.number c.args.text.now)
