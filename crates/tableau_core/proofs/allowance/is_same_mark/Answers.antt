use Rattle.tableau_core.proofs.Numbered.LabelLaws.{mark-told}
use Rattle.tableau_core.proofs.allowance.is_same_mark.Goals as goal

pub returns : goal.returns
returns c = mark-told _ _ _ c.is_same.ensures
