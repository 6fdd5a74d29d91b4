use Rattle.std.proofs.Common.{◌∙◌}
use Rattle.sequent_calc.proofs.Forms.{fit-by}
use Rattle.sequent_calc.proofs.condition.arguments_fit.Goals as goal

pub returns : goal.returns
returns c = λ m t e f. c.forms_fit.ensures ∙ fit-by c.args.kind.modal c.args.kind.shape c.args.modal c.args.term m t e f
