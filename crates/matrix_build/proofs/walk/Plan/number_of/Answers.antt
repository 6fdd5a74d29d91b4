use Rattle.std.proofs.Common.{arith}
use Rattle.matrix_build.proofs.walk.Plan.number_of.Goals as goal

pub overflow_cast-result : goal.overflow_cast-result
overflow_cast-result c = omega (arith, c.requires, c.args.self.now.few)
