use Rattle.std.proofs.Common.{subst, sym}
use Rattle.std.specs.Prelude.{IfOk}
use Rattle.leancop_top.specs.Tasks.{FileTaskEnds, IsFitting}
use Rattle.leancop_top.proofs.performing.on_file.Goals as goal

pub transfer-requires : goal.transfer-requires
transfer-requires c = subst (λ t. IsFitting t c.args.problem.now.setting) c.in-Transfer.is c.requires

pub returns-in-Check-clause-ends : goal.returns-in-Check-clause-ends
returns-in-Check-clause-ends c = λ told name held.
    subst (λ t. IfOk c.check.result (λ r. FileTaskEnds t told c.args.problem.now name r.status r.output.items)) (sym c.in-Check.is) (c.check.ensures.ends told name held)

pub returns-in-Transfer-clause-ends : goal.returns-in-Transfer-clause-ends
returns-in-Transfer-clause-ends c = λ told name held.
    subst (λ t. IfOk c.transfer.result (λ r. FileTaskEnds t told c.args.problem.now name r.status r.output.items)) (sym c.in-Transfer.is) (c.transfer.ensures.ends told name held)

pub returns-in-Migrate-clause-ends : goal.returns-in-Migrate-clause-ends
returns-in-Migrate-clause-ends c = λ told name held.
    subst (λ t. IfOk c.migrate.result (λ r. FileTaskEnds t told c.args.problem.now name r.status r.output.items)) (sym c.in-Migrate.is) (c.migrate.ensures.ends told name held)

pub returns-in-Model-clause-ends : goal.returns-in-Model-clause-ends
returns-in-Model-clause-ends c = λ told name held.
    subst (λ t. IfOk c.model.result (λ r. FileTaskEnds t told c.args.problem.now name r.status r.output.items)) (sym c.in-Model.is) (c.model.ensures.ends told name held)

pub returns-in-Tcheck-clause-ends : goal.returns-in-Tcheck-clause-ends
returns-in-Tcheck-clause-ends c = λ told name held.
    subst (λ t. IfOk c.tcheck.result (λ r. FileTaskEnds t told c.args.problem.now name r.status r.output.items)) (sym c.in-Tcheck.is) (c.tcheck.ensures.ends told name held)

pub returns-in-Convert-clause-ends : goal.returns-in-Convert-clause-ends
returns-in-Convert-clause-ends c = λ told name held.
    subst (λ t. IfOk c.convert.result (λ r. FileTaskEnds t told c.args.problem.now name r.status r.output.items)) (sym c.in-Convert.is) (c.convert.ensures.ends told name held)
