use Rattle.formula_text.proofs.Passing.{error-passed}
use Rattle.derivation_text.proofs.FaultLaws.{wrong-one}
use Rattle.derivation_text.proofs.parser.read_one.Goals as goal

pub returns-in_err-limit-clause-fault : goal.returns-in_err-limit-clause-fault
returns-in_err-limit-clause-fault c = λ line why e.
    wrong-one c.args.problem.now c.args.bytes.now line why c.requires.one (c.in_err-limit.ensures.fault line why (error-passed c.from_residual.result c.in_err-limit.field-0.0 _ c.from_residual.ensures.1 e))

pub returns-in_err-read_lines-clause-fault : goal.returns-in_err-read_lines-clause-fault
returns-in_err-read_lines-clause-fault c = λ line why e.
    wrong-one c.args.problem.now c.args.bytes.now line why c.requires.one (c.in_err-read_lines.ensures.fault line why (error-passed c.from_residual-in_err-read_lines.result c.in_err-read_lines.field-0.0 _ c.from_residual-in_err-read_lines.ensures.1 e))
