use Rattle.std.proofs.Common.{◌≡◌, suc, map, drop}
use Rattle.calculus.specs.DerivationText.{rises_from}
use Rattle.finite_model.proofs.slot.rises.Given as goal

abbrev pub invariant-loop-n : goal.invariant-loop-n
invariant-loop-n l = rises_from l.least (map suc (drop l.n-index l.numbers)) ≡ rises_from 0 (map suc l.numbers)
