use Rattle.label_table.proofs.TableLaws.{longer-self}
use Rattle.derivation_check.proofs.using.label_after.Goals as goal

pub returns-in-None-clause-grown : goal.returns-in-None-clause-grown
returns-in-None-clause-grown c = longer-self c.args.labels.now
