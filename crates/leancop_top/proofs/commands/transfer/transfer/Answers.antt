use Rattle.std.proofs.Common.{Err, ap}
use Rattle.leancop_top.proofs.Ends.{line-counted, line-ends}
use Rattle.leancop_top.specs.Commands.Transfer.{TransferEnds, rejected}
use Rattle.leancop_top.specs.declared.status.Status.TheVariants.{Rejected}
use Rattle.leancop_top.proofs.commands.transfer.transfer.Goals as goal

pub returns-in-Ok-clause-ends : goal.returns-in-Ok-clause-ends
returns-in-Ok-clause-ends c = λ told name held.
    c.transfer_accepted.ensures.ends told name
    (record { text = c.args.bytes.now; held = held; version = _; is_text = c.in-Ok.ensures.text; judged = c.in-Ok.ensures.accepted })

pub returns-in-Err-Rejected-clause-ends : goal.returns-in-Err-Rejected-clause-ends
returns-in-Err-Rejected-clause-ends c = λ told name held.
    let line = c.in-Err-Rejected.line in
    let fault = c.in-Err-Rejected.fault in
    line-ends (TransferEnds told c.args.problem.now name) (Rejected line fault) c.line_reply.result c.line_reply.ensures.same c.line_reply.ensures.line
    (rejected line fault (record { text = c.args.bytes.now; held = held; judged = c.in-Err-Rejected.ensures.rejected line fault (ap Err c.in-Err-Rejected.field-0-is) }))

pub returns-in-Err-Rejected-clause-counted : goal.returns-in-Err-Rejected-clause-counted
returns-in-Err-Rejected-clause-counted c = λ m n f g after.
    line-counted m n f g after (Rejected c.in-Err-Rejected.line c.in-Err-Rejected.fault) c.line_reply.result c.line_reply.ensures.same tt
