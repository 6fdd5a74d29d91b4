use Rattle.formula_text.proofs.Passing.{error-passed}
use Rattle.tableau_text.proofs.CloseLaws.{no-args_close}
use Rattle.tableau_text.proofs.open_list.close.Goals as goal

pub returns-in_err-item-in-Args-clause-none : goal.returns-in_err-item-in-Args-clause-none
returns-in_err-item-in-Args-clause-none c = λ e.
    no-args_close c.args.symbols.now c.args.table.now c.args.list c.in-Args.name c.in-Args.terms c.as_slice.result.now c.in-Args.is c.as_slice.ensures.value (c.in_err-item-in-Args.ensures.none (error-passed c.from_residual.result c.in_err-item-in-Args.field-0.0 _ c.from_residual.ensures.1 e))
