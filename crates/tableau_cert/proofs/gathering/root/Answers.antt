use Rattle.std.proofs.Common.{arith}
use Rattle.calculus.specs.Instances.{root_spot}
use Rattle.tableau_cert.proofs.gathering.root.Goals as goal

pub returns-clause-root : goal.returns-clause-root
returns-clause-root c ls = λ i. record { sign = c.whole.ensures.sign i; formula = c.whole.ensures.formula i; spot = root_spot }

pub returns-clause-fits : goal.returns-clause-fits
returns-clause-fits c = let s = c.whole.ensures.small in omega (arith, s)
