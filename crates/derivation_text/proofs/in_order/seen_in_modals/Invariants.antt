use Rattle.std.proofs.Common.{◌≡◌, map, drop, flat_map}
use Rattle.derivation_text.specs.InOrder.{greatest_in_order, step_label_numbers}
use Rattle.derivation_text.specs.NumbersView.{the_numbered_step}
use Rattle.derivation_text.proofs.in_order.seen_in_modals.Given as goal

abbrev pub invariant-loop-step : goal.invariant-loop-step
invariant-loop-step l = greatest_in_order l.seen (flat_map step_label_numbers (map the_numbered_step (drop l.step-index l.steps))) ≡ greatest_in_order l.fn.before (flat_map step_label_numbers (map the_numbered_step l.steps))
