use Rattle.std.proofs.Common.{◌-◌}
use Rattle.tableau_reading.proofs.GatheringLaws.{StringsTo}
use Rattle.tableau_reading.proofs.system.add_variables.Given as goal

abbrev pub invariant-loop-k : goal.invariant-loop-k
invariant-loop-k l = StringsTo l.sorts l.variables.first.0 (l.variables.end.0 - l.variables.first.0) l.initial.strings l.strings l.k
