use Rattle.finite_model.proofs.WorldChecks.{element-there}
use Rattle.finite_model.proofs.asked.is_inhabited.Goals as goal

pub returns : goal.returns
returns c = element-there c.args.list.now c.is_empty.result c.is_empty.ensures
