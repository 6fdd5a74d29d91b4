use Rattle.std.proofs.Common.{map}
use Rattle.term_store.specs.RefView.{the_place}
use Rattle.tableau_reading.proofs.MakingLaws.{ValuesTo}
use Rattle.tableau_reading.proofs.grounds.Grounds.values.Given as goal

abbrev pub invariant-loop-i : goal.invariant-loop-i
invariant-loop-i l = ValuesTo l.store.store l.self.table l.self.made.items (map the_place l.refs) l.i l.values.items
