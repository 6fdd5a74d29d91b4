use Rattle.std.proofs.Common.{ap, Err, Ok, true, false}
use Rattle.finite_model.specs.Judging.{truth_of}
use Rattle.leancop_top.proofs.ModelLaws.{ends-bad, ends-false, ends-steps, ends-true}
use Rattle.leancop_top.proofs.commands.model.status_of_bytes.Goals as goal

pub returns-in-Err-Bad-clause-ends : goal.returns-in-Err-Bad-clause-ends
returns-in-Err-Bad-clause-ends c = λ told name held.
    ends-bad told c.args.problem.now name c.args.steps _ c.in-Err-Bad.line _ c.in-Err-Bad.cause c.args.bytes.now held
    (c.in-Err-Bad.ensures.bad c.in-Err-Bad.line c.in-Err-Bad.cause (ap Err c.in-Err-Bad.field-0-is)) c.in-Err-Bad.line-is c.in-Err-Bad.cause-is

pub returns-in-True-clause-ends : goal.returns-in-True-clause-ends
returns-in-True-clause-ends c = λ told name held.
    ends-true told c.args.problem.now name c.args.steps c.in-Ok.structure c.args.bytes.now held
    c.in-Ok.ensures.judged (c.in_ok-judge.ensures.truth true (ap truth_of c.in-True.is))

pub returns-in-False-clause-ends : goal.returns-in-False-clause-ends
returns-in-False-clause-ends c = λ told name held.
    ends-false told c.args.problem.now name c.args.steps c.in-Ok.structure c.args.bytes.now c.symbols-symbols.ensures.well held
    c.in-Ok.ensures.judged (c.in_ok-judge.ensures.truth false (ap truth_of c.in-False.is))

pub returns-clause-ends : goal.returns-clause-ends
returns-clause-ends c = λ told name held.
    ends-steps told c.args.problem.now name c.args.steps c.new-ledger.result.budget c.new-ledger.result.used c.in-Ok.structure c.args.bytes.now held
    c.in-Ok.ensures.text c.in-Ok.ensures.judged c.new-ledger.ensures.budget c.new-ledger.ensures.used (c.in_ok-judge.ensures.steps (ap Ok c.in-Steps.is))
