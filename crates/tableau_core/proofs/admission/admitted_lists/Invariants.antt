use Rattle.std.proofs.Common.{◌≡◌, length}
use Rattle.tableau_core.specs.Numbered.Known.{KnowsAdmitted}
use Rattle.tableau_core.proofs.admission.admitted_lists.Given as goal

abbrev pub invariant-loop-number : goal.invariant-loop-number
invariant-loop-number l = record {
  known : KnowsAdmitted l.problem l.table l.known.items;
  count : length l.known.items ≡ l.number;
}
