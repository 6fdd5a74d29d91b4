use Rattle.std.proofs.Common.{◌≡◌, []}
use Rattle.term_store.specs.Room.{KeepsRoom}
use Rattle.search_tree.specs.Failing.{AreFailed}
use Rattle.connection_search.specs.Exploring.{IsSearched}
use Rattle.connection_search.proofs.SearchedLaws.{starts_from}
use Rattle.connection_search.proofs.limit_search.LimitSearch.run.Given as goal

abbrev pub invariant-loop-number : goal.invariant-loop-number
invariant-loop-number l = record {
  searched : IsSearched l.self.problem.now l.self.limit (starts_from l.self.matrix.now l.number) l.initial.ledger.used l.ledger.used l.left;
  steps : l.work.tree.steps.items ≡ [];
  goals : l.work.tree.goals.items ≡ [];
  failed : AreFailed l.self.problem.now l.self.limit l.failed;
  budget : l.ledger.budget ≡ l.initial.ledger.budget;
  store : l.store.store ≡ l.initial.store.store;
  room : KeepsRoom l.initial.store l.store;
}
