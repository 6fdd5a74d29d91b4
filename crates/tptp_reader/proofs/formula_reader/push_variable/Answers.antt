use Rattle.std.proofs.Common.{◌≡◌, None}
use Rattle.tptp_reader.specs.Standing.{variable_in}
use Rattle.tptp_reader.specs.TerminalView.{the_terminal}
use Rattle.tptp_reader.proofs.FailLaws.{misses}
use Rattle.tptp_reader.proofs.formula_reader.push_variable.Goals as goal

pub returns-clause-pushed : goal.returns-clause-pushed
returns-clause-pushed c = (c.in_ok-name.name, c.in_ok-name.ensures.name, c.in_ok-push.ensures.ok)

pub returns-in_err-name-clause-none : goal.returns-in_err-name-clause-none
returns-in_err-name-clause-none c = misses (variable_in (the_terminal c.args.x) ≡ None) (variable_in (the_terminal c.args.x) ≡ None) c.from_residual.result c.in_err-name.field-0.0 c.from_residual.ensures.1 c.in_err-name.ensures.none (λ h. h)
