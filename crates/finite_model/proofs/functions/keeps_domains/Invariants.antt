use Rattle.std.proofs.Common.{◌≡◌, ◌<◌, ℕ, true}
use Rattle.finite_model.specs.Conditions.{keeps_domain_at}
use Rattle.finite_model.proofs.functions.keeps_domains.Given as goal

abbrev pub invariant-loop-world : goal.invariant-loop-world
invariant-loop-world l = (u : ℕ) → u < l.world → keeps_domain_at l.s l.function.0 l.arity u ≡ true
