use Rattle.std.proofs.Common.{refl, ◌∷◌, []}
use Rattle.tptp_reader.specs.Expecting.{after_body}
use Rattle.tptp_reader.specs.Failing.{FailsAt, dot_and_items}
use Rattle.tptp_reader.proofs.FailLaws.{ends-with}
use Rattle.tptp_reader.proofs.item_reader.ended.Goals as goal

pub returns-clause-read : goal.returns-clause-read
returns-clause-read c = (refl, c.in_ok-dot.ensures.read)

pub returns-in_err-dot-clause-settles : goal.returns-in_err-dot-clause-settles
returns-in_err-dot-clause-settles c = λ modal.
    ends-with modal c.args.text.now (after_body ∷ []) c.args.after (FailsAt modal c.args.text.now (after_body ∷ dot_and_items) c.args.after) c.from_residual.result c.in_err-dot.field-0.0 c.from_residual.ensures.1 (c.in_err-dot.ensures.settles modal)
    (λ h. h)

pub returns-clause-settles : goal.returns-clause-settles
returns-clause-settles c = λ modal h. c.in_ok-dot.ensures.settles modal h
