use Rattle.std.proofs.Common.{subst}
use Rattle.calculus.specs.VersionJudgement.{IsVersionJudgement}
use Rattle.derivation_check.specs.VerdictView.{the_verdict}
use Rattle.leancop_top.proofs.Theorems.{accepted-theorem}
use Rattle.leancop_top.specs.Commands.Check.{IsJudgedIn, accepted, rejected}
use Rattle.leancop_top.proofs.commands.check.judge.Goals as goal

pub returns-in-Accepted-clause-ends : goal.returns-in-Accepted-clause-ends
returns-in-Accepted-clause-ends c = λ told name held.
    let P = c.args.problem.now in
    let judged = c.in_ok-check.ensures.judgement.judged in
    accepted
    (subst (λ v. IsJudgedIn told c.args.problem.now name (the_verdict v)) c.in-Accepted.is
    (record { text = c.args.bytes.now; held = held; judged = c.in_ok-check.ensures.judgement }))
    (accepted-theorem P c.symbols-symbols.ensures.well (c.in_ok-check.ensures.valid c.in-Accepted.is) c.args.bytes.now (subst (λ v. IsVersionJudgement P c.args.bytes.now (the_verdict v)) c.in-Accepted.is judged))

pub returns-in-Rejected-clause-ends : goal.returns-in-Rejected-clause-ends
returns-in-Rejected-clause-ends c = λ told name held.
    rejected c.in-Rejected.line c.in-Rejected.fault
    (subst (λ v. IsJudgedIn told c.args.problem.now name (the_verdict v)) c.in-Rejected.is
    (record { text = c.args.bytes.now; held = held; judged = c.in_ok-check.ensures.judgement }))
