use Rattle.std.proofs.Common.{refl}
use Rattle.label_table.proofs.CutLaws.{cut-back, cut-kept}
use Rattle.label_table.proofs.labels.Labels.cut.Goals as goal

pub invariant_of-self : goal.invariant_of-self
invariant_of-self c =
    let new = c.truncate.ensures in
    cut-kept c.self.inside.links.entries c.truncate.new.self.entries c.args.count new.entries c.self.invariant.0 c.self.invariant.2 new.unique

pub returns : goal.returns
returns c = λ first long size. cut-back c.self.inside.links.entries c.truncate.new.self.entries c.args.self.now _ first c.args.count c.truncate.ensures.entries c.self.view_is refl long size
