use Rattle.std.proofs.Common.{◌≡◌, ◌+◌, length}
use Rattle.calculus.specs.StructureText.{at_worlds, first_broken}
use Rattle.finite_model.specs.Conditions.{cause_of, holds_at}
use Rattle.finite_model.proofs.WorldChecks.{conditions_from}
use Rattle.finite_model.proofs.asked.check_worlds.Given as goal

-- the conditions on the worlds that are left tell of all
abbrev pub invariant-loop-world : goal.invariant-loop-world
invariant-loop-world l = first_broken (conditions_from (λ w. l.first + w) (cause_of l.asked) (holds_at l.s l.asked) l.world (length l.s.successors)) ≡ first_broken (at_worlds l.s (λ w. l.first + w) (cause_of l.asked) (holds_at l.s l.asked))
