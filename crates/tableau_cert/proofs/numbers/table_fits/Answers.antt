use Rattle.tableau_cert.proofs.NumberLaws.{one-list}
use Rattle.tableau_cert.proofs.numbers.table_fits.Goals as goal

pub loop-number-preserved : goal.loop-number-preserved
loop-number-preserved c = one-list c.args.table.now c.loop-number.number c.loop-number.invariant (c.list_fits.ensures c.loop-number.invariant)
