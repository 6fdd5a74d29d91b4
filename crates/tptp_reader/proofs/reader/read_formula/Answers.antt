use Rattle.tptp_reader.specs.SourceView.{the_source}
use Rattle.tptp_reader.specs.Reading.{reads}
use Rattle.tptp_reader.proofs.FormulaEnds.{fault-alone}
use Rattle.tptp_reader.proofs.OneReading.{one-formula-reading}
use Rattle.tptp_reader.proofs.reader.read_formula.Goals as goal

pub returns-in_ok-fault-in-Err-NotThere-clause-alone : goal.returns-in_ok-fault-in-Err-NotThere-clause-alone
returns-in_ok-fault-in-Err-NotThere-clause-alone c = fault-alone c.args.modal c.args.text.now c.args.from c.in_ok-fault-in-Err-NotThere.fault c.in_ok-fault-in-Err-NotThere.ensures

pub returns-in-Ok-clause-alone : goal.returns-in-Ok-clause-alone
returns-in-Ok-clause-alone c = λ other h. one-formula-reading c.args.modal c.args.text.now c.args.from other (reads (the_source c.in-Ok.r.0, c.in-Ok.r.1)) h c.in-Ok.ensures.holds
