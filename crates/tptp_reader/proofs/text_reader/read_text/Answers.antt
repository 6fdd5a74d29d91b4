use Rattle.tptp_reader.specs.Reading.{reads}
use Rattle.tptp_reader.proofs.OneReading.{one-reading}
use Rattle.tptp_reader.proofs.TextReading.{fault-alone}
use Rattle.tptp_reader.proofs.text_reader.read_text.Goals as goal

pub returns-in_ok-fault-in-Err-NotThere-clause-alone : goal.returns-in_ok-fault-in-Err-NotThere-clause-alone
returns-in_ok-fault-in-Err-NotThere-clause-alone c = fault-alone c.args.modal c.args.text.now c.in_ok-fault-in-Err-NotThere.fault c.in_ok-fault-in-Err-NotThere.ensures

pub returns-in-Ok-clause-alone : goal.returns-in-Ok-clause-alone
returns-in-Ok-clause-alone c = λ other h. one-reading c.args.modal c.args.text.now other (reads c.in-Ok.items) h c.in-Ok.ensures.holds
