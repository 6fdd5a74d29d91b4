use Rattle.tableau_core.proofs.Numbered.LabelLaws.{terms-told}
use Rattle.tableau_core.proofs.atom.are_same_terms.Goals as goal

pub returns : goal.returns
returns c = terms-told _ _ _ c.are_same_terms.ensures
