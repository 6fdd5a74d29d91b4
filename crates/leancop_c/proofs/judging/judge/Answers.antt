use Rattle.std.proofs.Common.{subst, sym}
use Rattle.derivation_check.specs.Only.{IsOnlyVersionJudgement}
use Rattle.derivation_check.specs.VerdictView.{the_verdict}
use Rattle.leancop_top.proofs.Theorems.{accepted-theorem}
use Rattle.leancop_c.specs.Judging.{IsJudged, is_accepted, is_lost, is_rejected}
use Rattle.leancop_c.specs.Told.{zeros}
use Rattle.leancop_c.proofs.judging.judge.Goals as goal

pub returns-in-Ok-Accepted : goal.returns-in-Ok-Accepted
returns-in-Ok-Accepted c =
    let is = c.in-Ok-Accepted.field-0-is in
    let only = subst (λ v. IsOnlyVersionJudgement c.args.problem.now c.args.derivation.now (the_verdict v)) is c.in-Ok-Accepted.ensures.judgement in
    subst (IsJudged c.args.problem.now c.args.derivation.now) (sym c.status_alone.ensures)
    (is_accepted only
    (accepted-theorem c.args.problem.now c.symbols-symbols.ensures.well (c.in-Ok-Accepted.ensures.valid is) c.args.derivation.now only.judged))

pub returns-in-Ok-Rejected : goal.returns-in-Ok-Rejected
returns-in-Ok-Rejected c =
    let only = subst (λ v. IsOnlyVersionJudgement c.args.problem.now c.args.derivation.now (the_verdict v)) c.in-Ok-Rejected.field-0-is c.in-Ok-Rejected.ensures.judgement in
    subst (λ n. IsJudged c.args.problem.now c.args.derivation.now (record { status = 8; fault = n; line = c.in-Ok-Rejected.line; offset = 18446744073709551615; reserved = zeros }))
    (sym c.fault_number.ensures) (is_rejected c.in-Ok-Rejected.line c.in-Ok-Rejected.fault only)

pub returns-in-Err : goal.returns-in-Err
returns-in-Err c = subst (IsJudged c.args.problem.now c.args.derivation.now) (sym c.status_alone-in-Err.ensures) is_lost
