use Rattle.std.proofs.Common.{◌≡◌, drop}
use Rattle.std.specs.List.{list_all}
use Rattle.calculus.specs.Structures.{includes, successors_of}
use Rattle.calculus.specs.StructureText.{is_transitive_at}
use Rattle.finite_model.proofs.asked.is_transitive_at.Given as goal

abbrev pub invariant-loop-other : goal.invariant-loop-other
invariant-loop-other l = list_all (λ v. includes l.reached (successors_of l.s v)) (drop l.other-index l.reached) ≡ is_transitive_at l.s l.world
