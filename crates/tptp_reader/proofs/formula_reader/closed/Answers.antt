use Rattle.std.proofs.Common.{refl, ◌∷◌, []}
use Rattle.tptp_reader.specs.Expecting.{this, a_closing}
use Rattle.tptp_reader.specs.Failing.{OnStacks, FailsAt}
use Rattle.tptp_reader.proofs.FailLaws.{stops-at}
use Rattle.tptp_reader.proofs.formula_reader.closed.Goals as goal

pub returns-clause-read : goal.returns-clause-read
returns-clause-read c = (refl, c.in_ok-after.ensures.read)

pub returns-in_err-after-clause-settles : goal.returns-in_err-after-clause-settles
returns-in_err-after-clause-settles c = λ modal d.
    stops-at modal c.args.text.now (this a_closing d ∷ []) c.args.close (OnStacks (λ es. FailsAt modal c.args.text.now (this a_closing d ∷ es) c.args.close)) c.from_residual.result c.in_err-after.field-0.0 c.from_residual.ensures.1 (c.in_err-after.ensures.settles modal d)
    (λ h. h)

pub returns-clause-settles : goal.returns-clause-settles
returns-clause-settles c = λ modal d. c.in_ok-after.ensures.settles modal d
