use Rattle.std.proofs.Common.{◌≤◌, length}
use Rattle.leancop_top.proofs.Pieces.{IsOutInFull, IsPut}
use Rattle.leancop_top.proofs.writing.put_all.Given as goal

abbrev pub invariant-loop-rest : goal.invariant-loop-rest
invariant-loop-rest g l =
    IsPut (g.K.Sink.written l.fn.out) (g.K.Sink.written l.out) l.bytes l.rest
    × (g.K.Sink.faults l.fn.out ≤ g.K.Sink.faults l.out)
    × IsOutInFull (g.K.Sink.puts l.fn.out) (g.K.Sink.puts l.out)

abbrev pub decreases-loop-rest : goal.decreases-loop-rest
decreases-loop-rest g l = length l.rest
