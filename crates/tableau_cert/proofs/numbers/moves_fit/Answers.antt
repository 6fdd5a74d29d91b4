use Rattle.std.proofs.lemmas.Bool.{and_from}
use Rattle.tableau_cert.proofs.NumberLaws.{all-values}
use Rattle.tableau_cert.proofs.numbers.moves_fit.Goals as goal

pub returns : goal.returns
returns c = and_from _ _ (all-values c.args.moves.now.table c.table_fits.ensures c.args.moves.now.start.values) (rw c.as_slice.ensures.value at (c.steps_fit.ensures c.args.moves.now.table c.table_fits.ensures))
