use Rattle.std.proofs.Common.{map}
use Rattle.term_store.specs.RefView.{the_place}
use Rattle.tableau_reading.proofs.MakingLaws.{AreMadeTo}
use Rattle.tableau_reading.proofs.grounds.Grounds.first_unmade.Given as goal

abbrev pub invariant-loop-i : goal.invariant-loop-i
invariant-loop-i l = AreMadeTo l.store.store l.self.made.items (map the_place l.refs) l.i
