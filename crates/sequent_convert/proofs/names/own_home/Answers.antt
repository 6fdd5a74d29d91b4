use Rattle.conversion_theory.specs.Numbering.{number_of}
use Rattle.sequent_convert.proofs.ByNumber.NameLines.{own-by}
use Rattle.sequent_convert.proofs.names.own_home.Goals as goal

pub returns : goal.returns
returns c = own-by c.args.named.now.lists c.table.result.now c.table.ensures (number_of c.args.named.now.names) c.args.label c.marks.result.now c.in_ok-home.home c.marks.ensures.list c.in_ok-home.ensures
