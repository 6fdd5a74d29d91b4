use Rattle.std.proofs.Common.{arith, subst, sym}
use Rattle.matrix_build.specs.MatrixView.{the_clause}
use Rattle.matrix_build.specs.Needs.{AreNeeds}
use Rattle.matrix_build.specs.declared.clause.Clause.{Clause}
use Rattle.matrix_build.proofs.NeedsLaws.{clause-at}
use Rattle.matrix_build.proofs.needs.needs_at.Goals as goal

pub returns : goal.returns
returns c = (the_clause c.index-clauses-i.result, clause-at c.args.clauses.now c.args.i c.index-clauses-i.result c.index-clauses-i.result (omega arith) c.index-clauses-i.is, subst (λ (x : Clause). AreNeeds (the_clause x).template.literals c.needs_of.result) (sym c.index-clauses-i.is) c.needs_of.ensures)
