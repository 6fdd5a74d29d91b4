use Rattle.logic_rules.proofs.ProblemFacts.{kept}
use Rattle.derivation_text.proofs.FaultLaws.{one-text}
use Rattle.derivation_text.proofs.FormulaLines.{formula-unique_in}
use Rattle.derivation_text.proofs.writer.print.Goals as goal

pub returns-clause-one : goal.returns-clause-one
returns-clause-one c = one-text c.args.problem.now (kept c.args.problem.now c.symbols-symbols.ensures.well).distinct _

pub returns-clause-formula : goal.returns-clause-formula
returns-clause-formula c = formula-unique_in c.args.problem.now c.symbols-symbols.ensures.well _
