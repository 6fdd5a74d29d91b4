use Rattle.std.proofs.Common.{arith}
use Rattle.finite_model.proofs.ValueLaws.{element-there, element-past}
use Rattle.finite_model.proofs.value.element_of.Goals as goal

pub returns-then-back-env : goal.returns-then-back-env
returns-then-back-env c = element-there c.args.env.now c.args.between (omega arith)

pub returns-else-back-env : goal.returns-else-back-env
returns-else-back-env c = element-past c.args.env.now c.args.between (omega arith)
