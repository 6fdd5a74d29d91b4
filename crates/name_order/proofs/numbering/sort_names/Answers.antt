use Rattle.std.proofs.Common.{rules}
use Rattle.std.proofs.lemmas.List.Sorted.{IsNonDecreasingBy-from_sort_by_key}
use Rattle.name_order.specs.ByNumber.Order.{name_depth}
use Rattle.name_order.proofs.numbering.sort_names.Goals as goal

pub returns-clause-sorted : goal.returns-clause-sorted
returns-clause-sorted c = IsNonDecreasingBy-from_sort_by_key name_depth _ c.in_ok-sort_by_key.ensures.sorted (λ a r q k. search rules)
