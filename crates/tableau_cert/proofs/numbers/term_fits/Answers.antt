use Rattle.tableau_cert.proofs.NumberLaws.{eigen-numbers, fun-numbers, own-numbers}
use Rattle.tableau_cert.proofs.numbers.term_fits.Goals as goal

pub returns-in-Fun : goal.returns-in-Fun
returns-in-Fun c = λ ls n known low. fun-numbers ls n known c.args.term _ _ c.in-Fun.is low

pub returns-in-Eigen : goal.returns-in-Eigen
returns-in-Eigen c = λ ls n known low. eigen-numbers ls n known c.args.term _ _ c.in-Eigen.is c.number_fits.ensures low

pub returns-in-Own : goal.returns-in-Own
returns-in-Own c = λ ls n known low. own-numbers ls n known c.args.term _ _ c.in-Own.is c.number_fits-in-Own.ensures low
