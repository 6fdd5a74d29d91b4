use Rattle.std.proofs.Common.{◌≡◌, map, drop}
use Rattle.derivation_text.specs.InOrder.{greatest_in_order, spare_numbers}
use Rattle.derivation_text.specs.NumbersView.{the_numbered_spare}
use Rattle.derivation_text.proofs.in_order.seen_in_spares.Given as goal

abbrev pub invariant-loop-name : goal.invariant-loop-name
invariant-loop-name l = greatest_in_order l.seen (spare_numbers (map the_numbered_spare (drop l.name-index l.spares))) ≡ greatest_in_order l.fn.before (spare_numbers (map the_numbered_spare l.spares))
