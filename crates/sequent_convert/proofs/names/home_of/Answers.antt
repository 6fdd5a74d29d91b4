use Rattle.conversion_theory.specs.Numbering.{number_of}
use Rattle.sequent_convert.proofs.ByNumber.NameLines.{home-by}
use Rattle.sequent_convert.proofs.names.home_of.Goals as goal

pub returns : goal.returns
returns c = home-by c.args.named.now.lists c.table-table.result.now c.table-table.ensures (number_of c.args.named.now.names) c.args.problem.now c.args.position.0 c.args.values c.values-values.result.now c.deref.result.now c.in_ok-marks.marks.items c.in_ok-home.home c.values-values.ensures.list c.in_ok-marks.ensures c.deref.ensures.value c.in_ok-home.ensures
