use Rattle.formula_text.proofs.Passing.{error-passed}
use Rattle.tableau_text.proofs.StepLaws.{constant-told}
use Rattle.tableau_text.proofs.TokenLaws.{no-constant}
use Rattle.tableau_text.proofs.begun.begin_constant.Goals as goal

pub returns-clause-ok : goal.returns-clause-ok
returns-clause-ok c =
    constant-told c.args.symbols.now c.requires.fits c.requires.distinct c.args.name c.args.text.now c.args.table.now c.in_ok-f.f c.no_args-args.result c.no_args-args.ensures.none c.requires.none c.in_ok-f.ensures.ok

pub returns-in_err-f-clause-none : goal.returns-in_err-f-clause-none
returns-in_err-f-clause-none c = λ e.
    no-constant c.args.symbols.now c.requires.fits c.args.name c.args.text.now c.requires.none (c.in_err-f.ensures.none (error-passed c.from_residual.result c.in_err-f.field-0.0 _ c.from_residual.ensures.1 e))
