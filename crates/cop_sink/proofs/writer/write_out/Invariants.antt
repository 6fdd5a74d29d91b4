use Rattle.std.proofs.Common.{◌≤◌, ◌⊎◌, length, take}
use Rattle.std.specs.Io.KnownBytes.{Appends}
use Rattle.cop_sink.specs.Output.{MayRefuse}
use Rattle.cop_sink.proofs.writer.write_out.Given as goal

-- each round so far took a byte, or a write was refused
abbrev pub invariant-loop : goal.invariant-loop
invariant-loop g l = (l.count ≤ length l.bytes) × Appends (g.W.Write.contents l.fn.writer) (g.W.Write.contents l.writer) (take l.count l.bytes) × (l.counter ≤ l.count ⊎ MayRefuse g.W.Output.refuses)
