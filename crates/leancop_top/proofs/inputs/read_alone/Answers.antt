use Rattle.std.proofs.Common.{subst}
use Rattle.command_line.specs.CommandView.{the_problem_file}
use Rattle.leancop_top.proofs.Ends.{reading-tells}
use Rattle.leancop_top.proofs.Leading.{on-problem, telling}
use Rattle.leancop_top.specs.Reading.{EndsOn, IsReading, without_problem}
use Rattle.leancop_top.specs.Tasks.{ProblemTaskEnds}
use Rattle.leancop_top.proofs.inputs.read_alone.Goals as goal

pub returns-in-Read-clause-leads : goal.returns-in-Read-clause-leads
returns-in-Read-clause-leads g c = λ told w.
    let p = the_problem_file c.args.file in
    on-problem told p c.in-Read.problem c.args.task (subst (IsReading told p) c.in-Read.is (c.in_ok-problem.ensures.reading told w))

pub returns-in-Refused-clause-leads : goal.returns-in-Refused-clause-leads
returns-in-Refused-clause-leads g c = λ told w.
    let p = the_problem_file c.args.file in
    telling (EndsOn told p (λ P. ProblemTaskEnds c.args.task P)) c.in-Refused.status
    (without_problem c.in-Refused.status (subst (IsReading told p) c.in-Refused.is (c.in_ok-problem.ensures.reading told w)))

pub returns-in-Refused-clause-ready : goal.returns-in-Refused-clause-ready
returns-in-Refused-clause-ready g c =
    let told = g.L.Library.holds c.args.lib.now in
    let p = the_problem_file c.args.file in
    reading-tells told p c.in-Refused.status (subst (IsReading told p) c.in-Refused.is (c.in_ok-problem.ensures.reading told c.in_ok-problem.ensures.reads_on))
