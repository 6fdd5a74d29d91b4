use Rattle.std.proofs.Common.{arith}
use Rattle.label_table.proofs.LabelLaws.{label-length}
use Rattle.label_table.proofs.labels.Labels.link_count.Goals as goal

pub returns : goal.returns
returns c = let size = label-length c.self.inside.links.entries c.args.self.now c.self.view_is in omega (arith, size, c.len.ensures)
