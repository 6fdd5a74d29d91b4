use Rattle.tableau_text.proofs.StepLaws.{grown-same}
use Rattle.tableau_text.proofs.reader.read_line.Goals as goal

pub returns-then-eq-clause-grown : goal.returns-then-eq-clause-grown
returns-then-eq-clause-grown c = grown-same c.args.table.now c.len-called_for_its_bound.result c.len-called_for_its_bound.ensures.len c.len-called_for_its_bound.ensures.most
