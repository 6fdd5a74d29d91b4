use Rattle.std.proofs.Common.{◌≡◌, ℕ}
use Rattle.search_theory.specs.Cutting.{FailsTo, IsToldOf}
use Rattle.connection_search.specs.Cutting.{IsPassing}
use Rattle.connection_search.proofs.SearchedLaws.{starts_from}
use Rattle.connection_search.proofs.limit_search.LimitSearch.run_cut.Given as goal

abbrev pub invariant-loop-number : goal.invariant-loop-number
invariant-loop-number l = record {
  passing : IsPassing l.self.problem.now l.self.limit (starts_from l.self.matrix.now l.number) l.initial.ledger.used l.ledger.used;
  fails : (e : ℕ) → IsToldOf l.self.limit l.left e → FailsTo l.self.problem.now l.self.matrix.now e l.number;
  budget : l.ledger.budget ≡ l.initial.ledger.budget;
}
