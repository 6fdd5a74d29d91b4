use Rattle.std.proofs.Common.{◌≡◌, ◌+◌, ◌≤◌, drop}
use Rattle.finite_model.specs.Slots.{function_count}
use Rattle.finite_model.proofs.making.function_count.Given as goal

abbrev pub invariant-loop-place : goal.invariant-loop-place
invariant-loop-place l = record {
  left : l.count + function_count (drop l.place l.symbols) ≡ function_count l.symbols;
  few : l.count ≤ l.place;
}
