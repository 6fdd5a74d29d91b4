use Rattle.std.proofs.Common.{◌≡◌, map, drop}
use Rattle.derivation_text.specs.InOrder.{eigen_numbers, greatest_in_order}
use Rattle.derivation_text.specs.NumbersView.{the_numbered_eigen}
use Rattle.derivation_text.proofs.in_order.seen_in_eigens.Given as goal

abbrev pub invariant-loop-name : goal.invariant-loop-name
invariant-loop-name l = greatest_in_order l.seen (eigen_numbers (map the_numbered_eigen (drop l.name-index l.eigens))) ≡ greatest_in_order 0 (eigen_numbers (map the_numbered_eigen l.eigens))
