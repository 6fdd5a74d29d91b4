use Rattle.tableau_cert.specs.Numbers.{HaveNumbers}
use Rattle.tableau_cert.proofs.numbers.table_fits.Given as goal

abbrev pub invariant-loop-number : goal.invariant-loop-number
invariant-loop-number l = HaveNumbers l.table l.number
