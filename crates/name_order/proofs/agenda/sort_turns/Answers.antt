use Rattle.std.proofs.Common.{rules}
use Rattle.std.proofs.lemmas.List.Sorted.{answers_always}
use Rattle.name_order.specs.ByNumber.Order.{sort_key}
use Rattle.name_order.proofs.agenda.sort_turns.Goals as goal

pub returns-clause-sorted : goal.returns-clause-sorted
returns-clause-sorted c = c.in_ok-sort_by_key.ensures.sorted sort_key (answers_always _ _ _ (λ f a r g h. search rules))
