use Rattle.std.proofs.Common.{◌≡◌}
use Rattle.connection_search.proofs.DeepeningLaws.{DeepenedTo}
use Rattle.connection_search.proofs.deepening.deepen_sized.Given as goal

abbrev pub invariant-loop-passed : goal.invariant-loop-passed
invariant-loop-passed l = record {
  passed : DeepenedTo l.problem l.passed l.initial.ledger.used l.ledger.used;
  budget : l.ledger.budget ≡ l.initial.ledger.budget;
}
