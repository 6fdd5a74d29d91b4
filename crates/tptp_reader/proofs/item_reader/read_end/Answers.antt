use Rattle.std.proofs.Common.{sym, ◌∙◌, ◌<◌, arith, ◌∷◌, [], refl}
use Rattle.std.proofs.lemmas.Result.{IfOk-weaker}
use Rattle.tptp_reader.specs.ItemStanding.{DotRead, NotesRead, EndRead}
use Rattle.tptp_reader.proofs.NotesReading.{end-bare, end-with}
use Rattle.tptp_reader.specs.Expecting.{this, a_closing, after_body, first_note, notes}
use Rattle.tptp_reader.specs.Failing.{OnStacks, Behind, dot_and_items}
use Rattle.tptp_reader.proofs.FailLaws.{fails-next, ends-at, passes-end-at}
use Rattle.tptp_reader.proofs.ItemFails.{fails-unnoted, fails-noted, fails-first, fails-no_first}
use Rattle.tptp_reader.proofs.item_reader.read_end.Goals as goal

pub returns-then-not-has_form-clause-read : goal.returns-then-not-has_form-clause-read
returns-then-not-has_form-clause-read c =
    IfOk-weaker c.read_dot.result (DotRead c.args.text.now c.args.p) (EndRead c.args.text.now c.args.p) (λ r h. end-bare h) c.read_dot.ensures.read

pub returns-clause-read : goal.returns-clause-read
returns-clause-read c =
    IfOk-weaker c.skip_notes.result (NotesRead c.args.text.now c.in_ok-first.first) (EndRead c.args.text.now c.args.p)
    (λ r h. end-with {p = c.args.p} (sym c.has_form.ensures ∙ c.if-not-has_form.false) c.in_ok-first.ensures.next (sym c.has_form-2.ensures ∙ c.if-has_form.false) h)
    c.skip_notes.ensures.read

pub returns-clause-onward : goal.returns-clause-onward
returns-clause-onward c =
    IfOk-weaker c.skip_notes.result (λ r. c.in_ok-first.first.end < r.end) (λ r. c.args.p.end < r.end) (λ r h. omega (arith, h, c.in_ok-first.ensures.onward)) c.skip_notes.ensures.onward

pub returns-then-not-has_form-clause-settles : goal.returns-then-not-has_form-clause-settles
returns-then-not-has_form-clause-settles c = λ modal.
    passes-end-at modal c.args.text.now (this a_closing 0 ∷ []) c.args.p (after_body ∷ []) c.args.p c.read_dot.result (λ h. fails-unnoted modal dot_and_items (sym c.has_form.ensures ∙ c.if-not-has_form.true) h) (c.read_dot.ensures.settles modal)

pub returns-in_err-first-clause-settles : goal.returns-in_err-first-clause-settles
returns-in_err-first-clause-settles c = λ modal.
    ends-at modal c.args.text.now (after_body ∷ []) c.args.p (OnStacks (Behind modal c.args.text.now c.args.p.end)) c.from_residual.result c.in_err-first.field-0.0 c.from_residual.ensures.1 (c.in_err-first.ensures.settles modal)
    (λ h. fails-noted modal dot_and_items (sym c.has_form.ensures ∙ c.if-not-has_form.false) (h (first_note ∷ dot_and_items) refl))

pub returns-then-has_form-clause-settles : goal.returns-then-has_form-clause-settles
returns-then-has_form-clause-settles c = λ modal. fails-noted modal dot_and_items (sym c.has_form.ensures ∙ c.if-not-has_form.false) (fails-next modal (first_note ∷ dot_and_items) refl c.in_ok-first.ensures.next (fails-no_first modal dot_and_items (sym c.has_form-2.ensures ∙ c.if-has_form.true)))

pub returns-clause-settles : goal.returns-clause-settles
returns-clause-settles c = λ modal.
    passes-end-at modal c.args.text.now (notes [] ∷ []) c.in_ok-first.first (after_body ∷ []) c.args.p c.skip_notes.result
    (λ h. fails-noted modal dot_and_items (sym c.has_form.ensures ∙ c.if-not-has_form.false) (fails-next modal (first_note ∷ dot_and_items) refl c.in_ok-first.ensures.next (fails-first modal dot_and_items (sym c.has_form-2.ensures ∙ c.if-has_form.false) h))) (c.skip_notes.ensures.settles modal)
