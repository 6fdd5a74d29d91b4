use Rattle.std.proofs.Common.{arith, ◌∷◌, [], refl}
use Rattle.tptp_reader.proofs.TextReading.{items-begun, items-on, items-done}
use Rattle.tptp_reader.specs.Expecting.{items}
use Rattle.tptp_reader.specs.Failing.{Fails, at_no_token, FailsAt}
use Rattle.tptp_reader.proofs.FailLaws.{fails-next, misses}
use Rattle.tptp_reader.proofs.text_reader.build_items.Goals as goal

pub items-init : goal.items-init
items-init c = record { read = items-begun c.new-items.ensures; settles = λ h. h; within = omega arith }

pub returns-in-Ok-None-clause-holds : goal.returns-in-Ok-None-clause-holds
returns-in-Ok-None-clause-holds c = items-done c.items.invariant.read (rw c.in-Ok-None.field-0-is at c.in-Ok-None.ensures.next)

pub items-preserved : goal.items-preserved
items-preserved c = record {
  read = items-on _ c.items.invariant.read (rw c.in-Ok-Some.field-0-is at c.in-Ok-Some.ensures.next) c.in_ok-item.ensures.read c.in_ok-push.ensures.ok;
  settles = λ h. c.items.invariant.settles (fails-next c.args.modal (items ∷ []) refl (rw c.in-Ok-Some.field-0-is at c.in-Ok-Some.ensures.next) (c.in_ok-item.ensures.settles h));
  within = c.in_ok-item.ensures.within;
}

pub returns-in-Err-clause-none : goal.returns-in-Err-clause-none
returns-in-Err-clause-none c = c.items.invariant.settles (at_no_token (items ∷ []) c.items.place c.in-Err.field-0.offset refl c.in-Err.ensures.next)

pub returns-in_err-item-clause-none : goal.returns-in_err-item-clause-none
returns-in_err-item-clause-none c =
    misses (FailsAt c.args.modal c.args.text.now (items ∷ []) c.in-Ok-Some.piece) (Fails c.args.modal c.args.text.now (items ∷ []) 0) c.from_residual.result c.in_err-item.field-0.0 c.from_residual.ensures.1 c.in_err-item.ensures.settles (λ h. c.items.invariant.settles (fails-next c.args.modal (items ∷ []) refl (rw c.in-Ok-Some.field-0-is at c.in-Ok-Some.ensures.next) (h)))
