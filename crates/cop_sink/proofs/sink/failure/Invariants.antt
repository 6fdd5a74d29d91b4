use Rattle.std.proofs.Common.{◌≡◌, drop}
use Rattle.cop_sink.specs.Memory.{failure_in}
use Rattle.cop_sink.proofs.sink.failure.Given as goal

abbrev pub invariant-loop-number : goal.invariant-loop-number
invariant-loop-number l = failure_in (drop l.number-index l.failing) l.call ≡ failure_in l.failing l.call
