use Rattle.std.proofs.Common.{◌∙◌, ap}
use Rattle.derivation_check.specs.ToldView.{is_told}
use Rattle.derivation_check.proofs.ToldLaws.{found-told}
use Rattle.derivation_check.proofs.told_on_branch.ToldOnBranch.has.Goals as goal

pub returns : goal.returns
returns c = c.contains_key.ensures ∙ found-told c.args.place c.self.inside.labels.entries ∙ ap (is_told c.args.place) c.self.view_is
