use Rattle.std.proofs.Common.{ap, arith}
use Rattle.calculus.specs.Positions.{size}
use Rattle.tableau_core.proofs.FittingLaws.{few-positions}
use Rattle.tableau_core.proofs.sized.SizedProblem.new.Goals as goal

pub sizes_of-requires : goal.sizes_of-requires
sizes_of-requires c = let few = few-positions c.args.problem.now c.formula.ensures.well in omega (arith, few, ap size c.formula.ensures.formula)
