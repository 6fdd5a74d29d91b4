use Rattle.std.proofs.Common.{◌≡◌, ◌++◌, map, take}
use Rattle.sequent_calc.specs.EntryView.{the_entry}
use Rattle.sequent_calc.proofs.rules.append.Given as goal

abbrev pub invariant-loop-entry : goal.invariant-loop-entry
invariant-loop-entry l = l.sequent ≡ l.initial.sequent ++ map the_entry (take l.entry-index l.entries)
