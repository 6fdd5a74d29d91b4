use Rattle.std.proofs.Common.{inr}
use Rattle.formula_text.proofs.Passing.{error-passed}
use Rattle.derivation_text.proofs.FaultLaws.{wrong-two}
use Rattle.derivation_text.proofs.StatedLaws.{text-two}
use Rattle.derivation_text.proofs.numbered_parser.read_two.Goals as goal

pub returns-in_err-limit-clause-fault : goal.returns-in_err-limit-clause-fault
returns-in_err-limit-clause-fault c = λ line why e.
    wrong-two c.args.problem.now c.args.bytes.now line why c.requires.two (c.in_err-limit.ensures.fault line why (error-passed c.from_residual.result c.in_err-limit.field-0.0 _ c.from_residual.ensures.1 e))

pub returns-in_err-read_lines-clause-fault : goal.returns-in_err-read_lines-clause-fault
returns-in_err-read_lines-clause-fault c = λ line why e.
    wrong-two c.args.problem.now c.args.bytes.now line why c.requires.two (c.in_err-read_lines.ensures.fault line why (error-passed c.from_residual-in_err-read_lines.result c.in_err-read_lines.field-0.0 _ c.from_residual-in_err-read_lines.ensures.1 e))

pub returns-in_err-check_order-clause-fault : goal.returns-in_err-check_order-clause-fault
returns-in_err-check_order-clause-fault c = λ line why e.
    inr (c.in_err-check_order.ensures.fault line why (error-passed c.from_residual-in_err-check_order.result c.in_err-check_order.field-0.0 _ c.from_residual-in_err-check_order.ensures.1 e))

pub returns-clause-text : goal.returns-clause-text
returns-clause-text c = text-two c.args.problem.now c.read_lines.new.d c.args.bytes.now c.in_ok-read_lines.ensures.text c.in_ok-check_order.ensures.numbers
