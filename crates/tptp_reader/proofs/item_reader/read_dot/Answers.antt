use Rattle.std.proofs.Common.{sym, ◌∙◌, ◌∷◌, [], refl}
use Rattle.tptp_reader.specs.TerminalView.{the_terminal}
use Rattle.tptp_reader.proofs.SpanLaws.{span-one, closing-is, dot-is}
use Rattle.tptp_reader.specs.Expecting.{this, a_closing, a_dot, items}
use Rattle.tptp_reader.specs.Failing.{OnStacks, FailsAt, dot_and_items}
use Rattle.tptp_reader.proofs.FailLaws.{fails-this, fails-other, ends-at}
use Rattle.tptp_reader.proofs.item_reader.read_dot.Goals as goal

pub returns-clause-read : goal.returns-clause-read
returns-clause-read c =
    (span-one {p = c.args.p} (closing-is (the_terminal c.args.p.terminal) c.in_ok-dot.ensures.formed) c.in_ok-dot.ensures.next, dot-is (the_terminal c.in_ok-dot.dot.terminal) (sym c.has_form.ensures ∙ c.if-not-has_form.false))

pub returns-in_err-dot-clause-settles : goal.returns-in_err-dot-clause-settles
returns-in_err-dot-clause-settles c = λ modal.
    ends-at modal c.args.text.now (this a_closing 0 ∷ []) c.args.p (OnStacks (λ es. FailsAt modal c.args.text.now (this a_closing 0 ∷ es) c.args.p)) c.from_residual.result c.in_err-dot.field-0.0 c.from_residual.ensures.1 (c.in_err-dot.ensures.settles modal)
    (λ h. h dot_and_items refl)

pub returns-then-not-has_form-clause-settles : goal.returns-then-not-has_form-clause-settles
returns-then-not-has_form-clause-settles c = λ modal. c.in_ok-dot.ensures.settles modal dot_and_items refl (fails-other modal a_dot 0 (items ∷ []) (sym c.has_form.ensures ∙ c.if-not-has_form.true))

pub returns-clause-settles : goal.returns-clause-settles
returns-clause-settles c = λ modal h. c.in_ok-dot.ensures.settles modal dot_and_items refl (fails-this modal a_dot 0 (items ∷ []) h)
