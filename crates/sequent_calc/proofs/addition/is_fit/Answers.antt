use Rattle.sequent_calc.specs.StepView.{the_modal, the_row_arg}
use Rattle.sequent_calc.proofs.addition.is_fit.Goals as goal

pub returns : goal.returns
returns c = c.arguments_fit.ensures (the_modal c.args.modal.now) (the_row_arg c.args.term.now) c.form.ensures c.form-2.ensures
