use Rattle.label_table.proofs.LabelLaws.{label-equal}
use Rattle.label_table.proofs.labels.Labels.are_equal.Goals as goal

pub returns : goal.returns
returns c = label-equal c.self.inside.links.entries c.args.self.now c.args.first c.args.second c.self.view_is c.self.invariant.0 c.self.invariant.1 c.requires.first c.requires.second
