use Rattle.tableau_reading.proofs.MakingLaws.{NewTo, NoneTo}
use Rattle.tableau_reading.proofs.grounds.Grounds.new.Given as goal

abbrev pub invariant-loop-cell : goal.invariant-loop-cell
invariant-loop-cell l = NoneTo l._cell l.made.items × NewTo l._cell l.asked.items
