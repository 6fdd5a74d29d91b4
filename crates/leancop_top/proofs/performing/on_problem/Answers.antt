use Rattle.std.proofs.Common.{subst, sym}
use Rattle.std.specs.Prelude.{IfOk}
use Rattle.leancop_top.specs.Tasks.{ProblemTaskEnds}
use Rattle.leancop_top.proofs.performing.on_problem.Goals as goal

pub returns-in-Prove-clause-ends : goal.returns-in-Prove-clause-ends
returns-in-Prove-clause-ends c =
    subst (λ t. IfOk c.prove.result (λ r. ProblemTaskEnds t c.args.problem.now r.status r.output.items)) (sym c.in-Prove.is) c.prove.ensures.ends

pub returns-in-Tableau-clause-ends : goal.returns-in-Tableau-clause-ends
returns-in-Tableau-clause-ends c =
    subst (λ t. IfOk c.tableau.result (λ r. ProblemTaskEnds t c.args.problem.now r.status r.output.items)) (sym c.in-Tableau.is) c.tableau.ensures.ends
