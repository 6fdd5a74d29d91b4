use Rattle.std.proofs.Common.{◌-◌, length}
use Rattle.tableau_text.proofs.LineLaws.{IsReadBy}
use Rattle.tableau_text.proofs.reader.read_moves.Given as goal

abbrev pub invariant-loop-line : goal.invariant-loop-line
invariant-loop-line l = IsReadBy l.problem l.bytes l.fn.limit l.table l.fn.start l.moves.items l.place l.ended l.count

abbrev pub decreases-loop-line : goal.decreases-loop-line
decreases-loop-line l = length l.bytes - l.place
