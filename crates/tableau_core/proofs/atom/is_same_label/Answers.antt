use Rattle.tableau_core.proofs.Numbered.LabelLaws.{marks-told}
use Rattle.tableau_core.proofs.atom.is_same_label.Goals as goal

pub returns : goal.returns
returns c = marks-told _ _ _ c.are_same_marks.ensures
