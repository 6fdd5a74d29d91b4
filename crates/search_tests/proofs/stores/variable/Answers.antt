use Rattle.std.proofs.Common.{◌∙◌, ap, length}
use Rattle.store_theory.specs.Stores.{Store}
use Rattle.search_tests.proofs.DoublingLaws.{fresh-term}
use Rattle.search_tests.proofs.stores.variable.Goals as goal

pub returns-clause-term : goal.returns-clause-term
returns-clause-term c = fresh-term c.reserve.new.self.store c.fresh-fresh.new.self.store c.fresh-fresh.result.0 c.fresh-fresh.ensures.store c.fresh-fresh.ensures.place

pub returns-clause-place : goal.returns-clause-place
returns-clause-place c = c.fresh-fresh.ensures.place ∙ ap (λ (s : Store). length s.cells) c.reserve.ensures.store
