use Rattle.std.proofs.Common.{arith}
use Rattle.finite_model.proofs.conditions.first_domain.Goals as goal

pub returns-clause-few : goal.returns-clause-few
returns-clause-few c = omega (arith, c.from.ensures, c.worlds.ensures.few)
