use Rattle.tableau_cert.proofs.NumberLaws.{new-numbers}
use Rattle.tableau_cert.proofs.numbers.mark_fits.Goals as goal

pub returns-in-New : goal.returns-in-New
returns-in-New c = λ ls n known low. new-numbers ls n known c.args.mark _ _ c.in-New.is c.number_fits.ensures low
