use Rattle.std.proofs.Common.{arith}
use Rattle.tableau_cert.proofs.NumberLaws.{small}
use Rattle.tableau_cert.proofs.numbers.number_fits.Goals as goal

pub returns : goal.returns
returns c = small c.args.number (omega arith)
