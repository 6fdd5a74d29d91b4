use Rattle.formula_text.proofs.Passing.{error-passed}
use Rattle.tableau_text.proofs.CloseLaws.{args-made, no-args_made}
use Rattle.tableau_text.proofs.open_list.close_args.Goals as goal

pub returns-clause-made : goal.returns-clause-made
returns-clause-made c = args-made c.args.symbols.now c.args.table.now c.add_terms.new.self c.args.name c.args.terms.now c.in-Ok.arity c.in_ok-f.f c.in_ok-args.args c.in-Ok.ensures.1 c.in_ok-f.ensures.ok c.in_ok-args.ensures.list

pub returns-in_err-f-clause-none : goal.returns-in_err-f-clause-none
returns-in_err-f-clause-none c = λ e.
    no-args_made c.args.symbols.now c.args.table.now c.args.name c.args.terms.now c.in-Ok.arity c.in-Ok.ensures.1 (c.in_err-f.ensures.none (error-passed c.from_residual.result c.in_err-f.field-0.0 _ c.from_residual.ensures.1 e))
