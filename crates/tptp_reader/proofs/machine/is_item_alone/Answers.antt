use Rattle.std.proofs.Common.{sym, length}
use Rattle.std.proofs.lemmas.Bool.{ne_eqb}
use Rattle.tptp_reader.proofs.StackViews.{not-alone}
use Rattle.tptp_reader.proofs.machine.is_item_alone.Goals as goal

pub returns : goal.returns
returns c = sym (not-alone c.args.expected.now (ne_eqb (length c.args.expected.now) 1 c.if-expected-eq1.false))
