use Rattle.std.proofs.Common.{◌≡◌, drop}
use Rattle.std.specs.List.{list_all}
use Rattle.calculus.specs.Structures.{domain_of, includes, successors_of}
use Rattle.finite_model.proofs.asked.is_domain_kept.Given as goal

abbrev pub invariant-loop-other : goal.invariant-loop-other
invariant-loop-other l = list_all (λ v. includes (domain_of l.s v) l.domain) (drop l.other-index l.reached) ≡ list_all (λ v. includes (domain_of l.s v) (domain_of l.s l.world)) (successors_of l.s l.world)
