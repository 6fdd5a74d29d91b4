use Rattle.tableau_cert.proofs.CallLaws.{exact, one-judgement}
use Rattle.tableau_cert.proofs.calls.check_tableau.Goals as goal

pub returns-clause-one : goal.returns-clause-one
returns-clause-one c v w g h = one-judgement c.args.problem.now c.judgement_of.ensures.well c.args.bytes.now v w g h

pub returns-in_err-verdict-clause-one : goal.returns-in_err-verdict-clause-one
returns-in_err-verdict-clause-one c v w g h = one-judgement c.args.problem.now c.judgement_of.ensures.well c.args.bytes.now v w g h

pub returns-clause-exact : goal.returns-clause-exact
returns-clause-exact c = exact c.args.problem.now c.judgement_of.ensures.well

pub returns-in_err-verdict-clause-exact : goal.returns-in_err-verdict-clause-exact
returns-in_err-verdict-clause-exact c = exact c.args.problem.now c.judgement_of.ensures.well
