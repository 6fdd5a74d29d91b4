use Rattle.command_line.specs.CommandLine.{asked}
use Rattle.leancop_top.proofs.Leading.{as-led}
use Rattle.leancop_top.specs.Run.{Ends}
use Rattle.leancop_top.proofs.program.answer.Goals as goal

pub returns-clause-ends : goal.returns-clause-ends
returns-clause-ends g c = λ told w.
    as-led (Ends told (asked c.args.words.now)) c.in_ok-task.task c.perform.result (c.in_ok-task.ensures.leads told w) c.perform.ensures.replies

pub returns-clause-counted : goal.returns-clause-counted
returns-clause-counted g c = c.perform.ensures.counted _ _ _ _ _ c.in_ok-task.ensures.counted
