use Rattle.std.proofs.Common.{◌≡◌, ◌+◌, length}
use Rattle.calculus.specs.StructureText.{at_worlds, first_broken, persists_at}
use Rattle.calculus.specs.declared.fault.StructureCause.TheVariants as cause
use Rattle.finite_model.proofs.WorldChecks.{conditions_from}
use Rattle.finite_model.proofs.persistence.check_predicate.Given as goal

abbrev pub invariant-loop-world : goal.invariant-loop-world
invariant-loop-world l = first_broken (conditions_from (λ w. l.first + w) cause.Persistence (persists_at l.s l.predicate.0 l.arity) l.world (length l.s.successors)) ≡ first_broken (at_worlds l.s (λ w. l.first + w) cause.Persistence (persists_at l.s l.predicate.0 l.arity))
