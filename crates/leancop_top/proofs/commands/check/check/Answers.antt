use Rattle.leancop_top.proofs.Ends.{line-counted, line-ends}
use Rattle.leancop_top.specs.Commands.Check.{CheckEnds}
use Rattle.leancop_top.proofs.commands.check.check.Goals as goal

pub returns-clause-ends : goal.returns-clause-ends
returns-clause-ends c = λ told name held.
    line-ends (CheckEnds told c.args.problem.now name) c.in_ok-status.status c.line_reply.result c.line_reply.ensures.same c.line_reply.ensures.line (c.in_ok-status.ensures.ends told name held)

pub returns-clause-counted : goal.returns-clause-counted
returns-clause-counted c = λ m n f g after.
    line-counted m n f g after c.in_ok-status.status c.line_reply.result c.line_reply.ensures.same (c.in_ok-status.ensures.counted m n f g after)
