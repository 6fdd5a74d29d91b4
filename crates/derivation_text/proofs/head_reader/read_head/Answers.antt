use Rattle.std.proofs.Common.{ap, subst, Err}
use Rattle.text_lines.specs.Head as head
use Rattle.derivation_text.proofs.HeadFaults.{fault-head_in, told-head_in}
use Rattle.derivation_text.proofs.head_reader.read_head.Goals as goal

pub returns-in-Ok-clause-ok : goal.returns-in-Ok-clause-ok
returns-in-Ok-clause-ok c =
    subst (λ first. head.IsHeadRead first c.args.problem.now c.args.bytes.now c.in-Ok.end c.in-Ok.limit) c.first_line.ensures c.in-Ok.ensures.ok

pub returns-in-Err-Wrong-clause-fault : goal.returns-in-Err-Wrong-clause-fault
returns-in-Err-Wrong-clause-fault c = λ line why e.
    let P = c.args.problem.now in
    let bytes = c.args.bytes.now in
    told-head_in c.args.version P bytes c.in-Err-Wrong.line _ line why c.fault_at.ensures e
    (fault-head_in c.args.version P c.read_head.ensures.well bytes c.in-Err-Wrong.line
    (subst (λ first. head.IsHeadFault first P bytes c.in-Err-Wrong.line) c.first_line.ensures (c.in-Err-Wrong.ensures.wrong c.in-Err-Wrong.line (ap (λ x. Err x) c.in-Err-Wrong.field-0-is))))
