use Rattle.std.proofs.Common.{◌≡◌, ◌+◌, ◌≤◌, drop}
use Rattle.calculus.specs.StructureText.{first_broken, function_conditions}
use Rattle.finite_model.specs.Slots.{function_count}
use Rattle.finite_model.proofs.functions.check_functions.Given as goal

abbrev pub invariant-loop-place : goal.invariant-loop-place
invariant-loop-place l = record {
  left : first_broken (function_conditions l.s l.line l.place (drop l.place l.symbols)) ≡ first_broken (function_conditions l.s l.first 0 l.symbols);
  count : l.line + function_count (drop l.place l.symbols) ≡ l.first + function_count l.symbols;
  few : l.line ≤ l.first + l.place;
}
