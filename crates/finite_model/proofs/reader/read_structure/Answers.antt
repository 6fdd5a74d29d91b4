use Rattle.calculus.proofs.StructureSoundness.{read-structure}
use Rattle.calculus.proofs.StructureTextUnique.{structure_judgement-unique}
use Rattle.formula_text.proofs.Passing.{error-passed}
use Rattle.finite_model.proofs.ReadingOutcomes.{broken-judged, fault-judged, whole-judged}
use Rattle.finite_model.proofs.reader.read_structure.Goals as goal

pub returns-in_err-structure-clause-bad : goal.returns-in_err-structure-clause-bad
returns-in_err-structure-clause-bad c = λ line why e. fault-judged c.args.problem.now c.args.bytes.now line why (c.in_err-structure.ensures.fault line why (error-passed c.from_residual.result c.in_err-structure.field-0.0 _ c.from_residual.ensures.1 e))

pub returns-in_err-structure-clause-one : goal.returns-in_err-structure-clause-one
returns-in_err-structure-clause-one c = structure_judgement-unique c.args.problem.now c.args.bytes.now

pub check_conditions-requires : goal.check_conditions-requires
check_conditions-requires c = c.in_ok-structure.ensures.text.printable

pub returns-in_err-check_conditions-clause-bad : goal.returns-in_err-check_conditions-clause-bad
returns-in_err-check_conditions-clause-bad c = λ line why e. broken-judged c.args.problem.now c.args.bytes.now _ line why c.in_ok-structure.ensures.text (c.in_err-check_conditions.ensures.bad line why (error-passed c.from_residual-in_err-check_conditions.result c.in_err-check_conditions.field-0.0 _ c.from_residual-in_err-check_conditions.ensures.1 e))

pub returns-in_err-check_conditions-clause-one : goal.returns-in_err-check_conditions-clause-one
returns-in_err-check_conditions-clause-one c = structure_judgement-unique c.args.problem.now c.args.bytes.now

pub returns-clause-fits : goal.returns-clause-fits
returns-clause-fits c = read-structure c.args.problem.now _ c.args.bytes.now c.in_ok-structure.ensures.text c.in_ok-check_conditions.ensures.ok

pub returns-clause-judged : goal.returns-clause-judged
returns-clause-judged c = whole-judged c.args.problem.now c.args.bytes.now _ c.in_ok-structure.ensures.text c.in_ok-check_conditions.ensures.ok

pub returns-clause-one : goal.returns-clause-one
returns-clause-one c = structure_judgement-unique c.args.problem.now c.args.bytes.now
