use Rattle.std.proofs.Common.{◌<◌, ◌≤◌, arith, ◌∷◌, [], refl}
use Rattle.std.proofs.lemmas.Result.{IfOk-weaker}
use Rattle.tptp_reader.specs.Standing.{RightRead, TermRead}
use Rattle.tptp_reader.specs.Expecting.{term}
use Rattle.tptp_reader.specs.Failing.{OnStacks, Behind}
use Rattle.tptp_reader.proofs.FailLaws.{fails-next, stops-behind, passes-behind}
use Rattle.tptp_reader.proofs.formula_reader.read_right.Goals as goal

pub returns-clause-read : goal.returns-clause-read
returns-clause-read c =
    IfOk-weaker c.read_term.result (TermRead c.args.text.now c.args.depth c.in_ok-start.start) (RightRead c.args.text.now c.args.depth c.args.sign)
    (λ r h. (c.in_ok-start.start, c.in_ok-start.ensures.next, h))
    c.read_term.ensures.read

pub returns-clause-onward : goal.returns-clause-onward
returns-clause-onward c =
    IfOk-weaker c.read_term.result (λ r. c.in_ok-start.start.end < r.1.end) (λ r. c.args.sign.end ≤ r.1.end)
    (λ r h. omega (arith, h, c.in_ok-start.ensures.onward))
    c.read_term.ensures.onward

pub returns-in_err-start-clause-settles : goal.returns-in_err-start-clause-settles
returns-in_err-start-clause-settles c = λ modal.
    stops-behind modal c.args.text.now (term c.args.depth ∷ []) c.args.sign.end (OnStacks (Behind modal c.args.text.now c.args.sign.end)) c.from_residual.result c.in_err-start.field-0.0 c.from_residual.ensures.1 (c.in_err-start.ensures.settles modal)
    (λ h es b. h (term c.args.depth ∷ es) refl)

pub returns-clause-settles : goal.returns-clause-settles
returns-clause-settles c = λ modal.
    passes-behind modal c.args.text.now (term c.args.depth ∷ []) c.in_ok-start.start (term c.args.depth ∷ []) c.args.sign.end c.read_term.result
    (λ es b h. fails-next modal (term c.args.depth ∷ es) refl c.in_ok-start.ensures.next h) (c.read_term.ensures.settles modal)
