use Rattle.std.proofs.Common.{◌≡◌, map, drop}
use Rattle.calculus.specs.Calculus.{eigen_occurs}
use Rattle.sequent_calc.specs.EntryView.{the_entry}
use Rattle.sequent_calc.proofs.condition.eigen_occurs.Given as goal

abbrev pub invariant-loop-entry : goal.invariant-loop-entry
invariant-loop-entry l = eigen_occurs l.number (map the_entry (drop l.entry-index l.sequent)) ≡ eigen_occurs l.number (map the_entry l.sequent)
