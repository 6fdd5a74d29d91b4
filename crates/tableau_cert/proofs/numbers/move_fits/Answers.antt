use Rattle.tableau_cert.proofs.NumberLaws.{extension-numbers, reduction-numbers}
use Rattle.tableau_cert.proofs.numbers.move_fits.Goals as goal

pub returns-in-Reduction : goal.returns-in-Reduction
returns-in-Reduction c = λ ls known. reduction-numbers ls c.args.step.now _ c.in-Reduction.is c.number_fits.ensures

pub returns-in-Extension : goal.returns-in-Extension
returns-in-Extension c = λ ls known. extension-numbers ls c.args.step.now _ _ c.in-Extension.is known c.number_fits-in-Extension.ensures
