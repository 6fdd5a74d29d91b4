use Rattle.std.proofs.Common.{◌≡◌, drop}
use Rattle.std.specs.List.{list_all}
use Rattle.calculus.specs.Equality.{contains}
use Rattle.calculus.specs.Structures.{domain_of, function_value, tuples}
use Rattle.finite_model.specs.Conditions.{keeps_domain_at}
use Rattle.finite_model.proofs.functions.keeps_domain_at.Given as goal

abbrev pub invariant-loop-place : goal.invariant-loop-place
invariant-loop-place l = list_all (λ xs. contains (domain_of l.s l.world) (function_value l.s l.function.0 xs)) (drop l.place-index (tuples l.arity (domain_of l.s l.world))) ≡ keeps_domain_at l.s l.function.0 l.arity l.world
