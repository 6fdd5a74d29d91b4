use Rattle.std.proofs.Common.{◌≡◌, ◌-◌}
use Rattle.calculus.specs.Structures.{includes, numbers_from}
use Rattle.finite_model.proofs.asked.includes_below.Given as goal

abbrev pub invariant-loop-number : goal.invariant-loop-number
invariant-loop-number l = includes l.list (numbers_from l.number (l.count - l.number)) ≡ includes l.list (numbers_from 0 l.count)
