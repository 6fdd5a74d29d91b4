use Rattle.std.proofs.Common.{◌≡◌, drop}
use Rattle.calculus.specs.Structures.{includes}
use Rattle.finite_model.proofs.asked.includes.Given as goal

abbrev pub invariant-loop-other : goal.invariant-loop-other
invariant-loop-other l = includes l.list (drop l.other-index l.others) ≡ includes l.list l.others
