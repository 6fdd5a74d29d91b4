use Rattle.std.proofs.Common.{◌≡◌, Err, ap}
use Rattle.formula_text.proofs.Passing.{error-passed}
use Rattle.tableau_core.specs.Numbered.TableauView.{the_tableau}
use Rattle.tableau_text.specs.MovesView.{the_moves}
use Rattle.tableau_cert.proofs.CallLaws.{built-text, judged-rejected, judged-wrong_as}
use Rattle.tableau_cert.proofs.calls.parse_tableau.Goals as goal

pub returns-in_ok-tableau-in-Ok-clause-closed : goal.returns-in_ok-tableau-in-Ok-clause-closed
returns-in_ok-tableau-in-Ok-clause-closed c = built-text c.args.problem.now c.args.bytes.now (the_moves c.in-Ok.moves) (the_tableau c.in_ok-tableau-in-Ok.tableau) c.in-Ok.ensures.text c.in_ok-tableau-in-Ok.ensures.built

pub returns-in_err-tableau-in-Ok-clause-bad : goal.returns-in_err-tableau-in-Ok-clause-bad
returns-in_err-tableau-in-Ok-clause-bad c line fault e = judged-rejected c.args.problem.now c.args.bytes.now (the_moves c.in-Ok.moves) line fault c.in-Ok.ensures.text (c.in_err-tableau-in-Ok.ensures.bad line fault (error-passed c.from_residual.result c.in_err-tableau-in-Ok.field-0.0 _ c.from_residual.ensures.1 e))

pub returns-in-Err-Wrong-clause-bad : goal.returns-in-Err-Wrong-clause-bad
returns-in-Err-Wrong-clause-bad c line fault e = let p : line ≡ c.in-Err-Wrong.line = cc in let q : fault ≡ c.in-Err-Wrong.fault = cc in
    judged-wrong_as c.args.problem.now c.args.bytes.now line c.in-Err-Wrong.line fault c.in-Err-Wrong.fault p q (c.in-Err-Wrong.ensures.fault c.in-Err-Wrong.line c.in-Err-Wrong.fault (ap Err c.in-Err-Wrong.field-0-is))
