use Rattle.std.proofs.Common.{Err, ap, inr}
use Rattle.tableau_text.specs.MovesView.{the_moves}
use Rattle.tableau_cert.proofs.CallLaws.{judged-wrong_as}
use Rattle.tableau_cert.proofs.calls.judgement_of.Goals as goal

pub returns-in_ok-verdict-in-Ok-clause-judgement : goal.returns-in_ok-verdict-in-Ok-clause-judgement
returns-in_ok-verdict-in-Ok-clause-judgement c = inr (record { value = the_moves c.in-Ok.moves; text = c.in-Ok.ensures.text; verdict = c.in_ok-verdict-in-Ok.ensures })

pub returns-in-Err-Wrong-clause-judgement : goal.returns-in-Err-Wrong-clause-judgement
returns-in-Err-Wrong-clause-judgement c = judged-wrong_as c.args.problem.now c.args.bytes.now _ c.in-Err-Wrong.line _ c.in-Err-Wrong.fault c.in-Err-Wrong.line-is c.in-Err-Wrong.fault-is (c.in-Err-Wrong.ensures.fault c.in-Err-Wrong.line c.in-Err-Wrong.fault (ap Err c.in-Err-Wrong.field-0-is))
