use Rattle.std.proofs.Common.{ap, Err}
use Rattle.tableau_text.proofs.ReadLaws.{told-line}
use Rattle.tableau_text.proofs.reader.read.Goals as goal

pub returns-in-Err-clause-fault : goal.returns-in-Err-clause-fault
returns-in-Err-clause-fault c = λ line cause e. told-line c.args.problem.now c.args.bytes.now 5 line cause c.fault_of.result c.in-Err.read c.fault_of.ensures e (λ n. c.in-Err.ensures.none (ap Err n))
