use Rattle.std.proofs.Common.{refl, ◌∷◌, ◌++◌}
use Rattle.tptp_reader.proofs.ItemReading.{formula-item}
use Rattle.tptp_reader.specs.Expecting.{after_body}
use Rattle.tptp_reader.specs.Failing.{OnStacks, Fails, FailsAt, body_part, head_parts, dot_and_items}
use Rattle.tptp_reader.proofs.FailLaws.{item-stops}
use Rattle.tptp_reader.proofs.ItemFails.{fails-kind, body-busy}
use Rattle.tptp_reader.proofs.item_reader.read_formula_item.Goals as goal

pub returns-clause-read : goal.returns-clause-read
returns-clause-read c = formula-item {p = c.args.p} c.args.modal c.args.kind c.in_ok-head.head _ c.requires.kind c.in_ok-head.ensures.read c.in_ok-body.ensures.read refl

pub returns-in_err-head-clause-settles : goal.returns-in_err-head-clause-settles
returns-in_err-head-clause-settles c =
    item-stops c.args.modal c.args.text.now c.args.p (OnStacks (λ es. Fails c.args.modal c.args.text.now (head_parts ++ es) c.args.p.end)) c.from_residual.result c.in_err-head.field-0.0 c.from_residual.ensures.1 (c.in_err-head.ensures.settles c.args.modal)
    (λ h. fails-kind c.args.modal c.args.kind c.requires.kind (h (body_part c.args.kind ∷ after_body ∷ dot_and_items) (body-busy c.args.kind dot_and_items)))

pub returns-in_err-body-clause-settles : goal.returns-in_err-body-clause-settles
returns-in_err-body-clause-settles c =
    item-stops c.args.modal c.args.text.now c.args.p (FailsAt c.args.modal c.args.text.now (body_part c.args.kind ∷ after_body ∷ dot_and_items) c.in_ok-head.head.body) c.from_residual-in_err-body.result c.in_err-body.field-0.0 c.from_residual-in_err-body.ensures.1 c.in_err-body.ensures.settles
    (λ h. fails-kind c.args.modal c.args.kind c.requires.kind (c.in_ok-head.ensures.settles c.args.modal (body_part c.args.kind ∷ after_body ∷ dot_and_items) (body-busy c.args.kind dot_and_items) h))

pub returns-clause-settles : goal.returns-clause-settles
returns-clause-settles c = λ h. fails-kind c.args.modal c.args.kind c.requires.kind (c.in_ok-head.ensures.settles c.args.modal (body_part c.args.kind ∷ after_body ∷ dot_and_items) (body-busy c.args.kind dot_and_items) (c.in_ok-body.ensures.settles h))
