use Rattle.std.proofs.Common.{◌≡◌, drop}
use Rattle.std.specs.List.{list_all}
use Rattle.calculus.specs.StructureText.{persists_at}
use Rattle.finite_model.specs.Conditions.{is_kept}
use Rattle.finite_model.proofs.persistence.persists_at.Given as goal

abbrev pub invariant-loop-other : goal.invariant-loop-other
invariant-loop-other l = list_all (is_kept l.s l.predicate.0 l.arity l.world) (drop l.other-index l.reached) ≡ persists_at l.s l.predicate.0 l.arity l.world
