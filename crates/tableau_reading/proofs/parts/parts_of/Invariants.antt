use Rattle.tableau_reading.proofs.PartLaws.{PartsTo}
use Rattle.tableau_reading.proofs.parts.parts_of.Given as goal

abbrev pub invariant-loop-i : goal.invariant-loop-i
invariant-loop-i l = PartsTo l.store.store l.end.0 l.i l.refs.items
