use Rattle.std.proofs.Common.{arith}
use Rattle.tableau_core.proofs.CountLaws.{counted-if, counted-else}
use Rattle.tableau_core.proofs.closed.counted.Goals as goal

pub returns-then-closed : goal.returns-then-closed
returns-then-closed c = counted-if c.args.closed c.args.so_far (omega arith) c.if-closed.true

pub returns-else-closed : goal.returns-else-closed
returns-else-closed c = counted-else c.args.closed c.args.so_far 0 0 c.if-closed.false
