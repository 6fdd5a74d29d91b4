use Rattle.std.proofs.Common.{subst}
use Rattle.calculus.specs.TableauText.{IsTableauJudgement, tableau_rejected}
use Rattle.leancop_top.proofs.Tableaux.{ends-accepted, judged-in}
use Rattle.leancop_top.specs.Commands.Tcheck.{rejected}
use Rattle.tableau_cert.specs.VerdictView.{the_verdict}
use Rattle.leancop_top.proofs.commands.tcheck.judge_tableau.Goals as goal

pub returns-in-Accepted-clause-ends : goal.returns-in-Accepted-clause-ends
returns-in-Accepted-clause-ends c = λ told name held.
    let P = c.args.problem.now in
    ends-accepted told P name c.args.bytes.now c.symbols-symbols.ensures.well held
    (subst (λ v. IsTableauJudgement P c.args.bytes.now (the_verdict v)) c.in-Accepted.is c.in_ok-check_tableau.ensures.judgement)

pub returns-in-Rejected-clause-ends : goal.returns-in-Rejected-clause-ends
returns-in-Rejected-clause-ends c = λ told name held.
    let P = c.args.problem.now in
    let line = c.in-Rejected.line in
    let fault = c.in-Rejected.fault in
    rejected line fault (judged-in told P name c.args.bytes.now (tableau_rejected line fault) c.symbols-symbols.ensures.well held
    (subst (λ v. IsTableauJudgement P c.args.bytes.now (the_verdict v)) c.in-Rejected.is c.in_ok-check_tableau.ensures.judgement))
