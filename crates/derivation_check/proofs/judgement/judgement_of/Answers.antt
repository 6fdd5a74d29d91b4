use Rattle.std.proofs.Common.{Err, ap}
use Rattle.calculus.specs.Versions.{stated}
use Rattle.derivation_check.specs.VerdictView.{the_verdict}
use Rattle.derivation_check.proofs.Accepting.{judged-fault-as, judged-in}
use Rattle.derivation_check.proofs.judgement.judgement_of.Goals as goal

pub returns-in_ok-verdict-in-Ok-clause-judgement : goal.returns-in_ok-verdict-in-Ok-clause-judgement
returns-in_ok-verdict-in-Ok-clause-judgement c = judged-in c.args.problem.now c.args.bytes.now (the_verdict c.in_ok-verdict-in-Ok.verdict) c.in-Ok.version (stated c.in-Ok.derivation) c.in-Ok.ensures.text c.in_ok-verdict-in-Ok.ensures

pub returns-in-Err-Text-clause-judgement : goal.returns-in-Err-Text-clause-judgement
returns-in-Err-Text-clause-judgement c =
    judged-fault-as c.args.problem.now c.args.bytes.now _ c.in-Err-Text.line _ c.in-Err-Text.cause c.in-Err-Text.line-is c.in-Err-Text.cause-is
    (c.in-Err-Text.ensures.fault c.in-Err-Text.line c.in-Err-Text.cause (ap Err c.in-Err-Text.field-0-is))
