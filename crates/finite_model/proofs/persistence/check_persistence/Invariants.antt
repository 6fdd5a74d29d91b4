use Rattle.std.proofs.Common.{◌≡◌, ◌+◌, ◌*◌, ◌≤◌, drop}
use Rattle.calculus.specs.StructureText.{first_broken, persistence_conditions_from}
use Rattle.finite_model.proofs.persistence.check_persistence.Given as goal

abbrev pub invariant-loop-place : goal.invariant-loop-place
invariant-loop-place l = record {
  left : first_broken (persistence_conditions_from l.s l.line l.place (drop l.place l.symbols)) ≡ first_broken (persistence_conditions_from l.s l.first 0 l.symbols);
  few : l.line ≤ l.first + 64 * l.place;
}
