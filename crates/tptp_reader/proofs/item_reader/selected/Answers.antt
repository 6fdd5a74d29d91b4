use Rattle.std.proofs.Common.{refl, ◌∷◌, []}
use Rattle.tptp_reader.specs.Expecting.{names_rest}
use Rattle.tptp_reader.specs.Failing.{FailsAt, dot_and_items}
use Rattle.tptp_reader.proofs.FailLaws.{ends-with}
use Rattle.tptp_reader.proofs.item_reader.selected.Goals as goal

pub returns-clause-read : goal.returns-clause-read
returns-clause-read c = (refl, c.in_ok-dot.ensures.read)

pub returns-in_err-dot-clause-settles : goal.returns-in_err-dot-clause-settles
returns-in_err-dot-clause-settles c = λ n modal.
    ends-with modal c.args.text.now (names_rest ∷ []) c.args.p (FailsAt modal c.args.text.now (names_rest ∷ dot_and_items) c.args.p) c.from_residual.result c.in_err-dot.field-0.0 c.from_residual.ensures.1 (c.in_err-dot.ensures.settles n modal)
    (λ h. h)

pub returns-clause-settles : goal.returns-clause-settles
returns-clause-settles c = λ n modal h. c.in_ok-dot.ensures.settles n modal h
