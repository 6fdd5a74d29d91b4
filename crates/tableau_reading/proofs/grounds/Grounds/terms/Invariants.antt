use Rattle.std.proofs.Common.{map}
use Rattle.term_store.specs.RefView.{the_place}
use Rattle.tableau_reading.proofs.MakingLaws.{TermsTo}
use Rattle.tableau_reading.proofs.grounds.Grounds.terms.Given as goal

abbrev pub invariant-loop-i : goal.invariant-loop-i
invariant-loop-i l = TermsTo l.store.store l.self.table l.self.made.items (map the_place l.refs) l.i l.terms.items
