use Rattle.leancop_c.proofs.ByStatus.{formula_told}
use Rattle.leancop_c.proofs.leancop_formula.Goals as goal

pub returns-clause-formula : goal.returns-clause-formula
returns-clause-formula c = formula_told _ _ _ _ _ _ c.write_canonical.ensures
