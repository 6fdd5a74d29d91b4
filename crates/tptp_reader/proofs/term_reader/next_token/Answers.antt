use Rattle.tptp_reader.specs.Failing.{at_no_token, at_end}
use Rattle.tptp_reader.proofs.FailLaws.{busy-open, fails-next}
use Rattle.tptp_reader.proofs.term_reader.next_token.Goals as goal

pub returns-in-Ok-Some-clause-settles : goal.returns-in-Ok-Some-clause-settles
returns-in-Ok-Some-clause-settles c = λ modal es b h. fails-next modal es (busy-open es b) (rw c.in-Ok-Some.field-0-is at c.in-Ok-Some.ensures.next) h

pub returns-in-Ok-None-clause-settles : goal.returns-in-Ok-None-clause-settles
returns-in-Ok-None-clause-settles c = λ modal es b. at_end es c.args.from b (rw c.in-Ok-None.field-0-is at c.in-Ok-None.ensures.next)

pub returns-in-Err-clause-settles : goal.returns-in-Err-clause-settles
returns-in-Err-clause-settles c = λ modal es b. at_no_token es c.args.from c.in-Err.field-0.offset (busy-open es b) c.in-Err.ensures.next
