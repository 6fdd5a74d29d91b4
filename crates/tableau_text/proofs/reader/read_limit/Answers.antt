use Rattle.std.proofs.Common.{ap, Err}
use Rattle.tableau_text.proofs.ReadLaws.{told-wrong}
use Rattle.tableau_text.proofs.reader.read_limit.Goals as goal

pub returns-in-Err-Wrong-clause-fault : goal.returns-in-Err-Wrong-clause-fault
returns-in-Err-Wrong-clause-fault c = λ line cause e.
    told-wrong c.args.problem.now c.args.bytes.now _ line _ cause e (c.head_fault-line.ensures c.args.problem.now c.args.bytes.now c.read_head.ensures.well (c.in-Err-Wrong.ensures.wrong _ (ap Err c.in-Err-Wrong.field-0-is)))
