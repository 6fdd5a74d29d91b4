use Rattle.std.proofs.Common.{sym, ◌∙◌, ◌<◌, arith, ◌∷◌, [], refl}
use Rattle.std.proofs.lemmas.Result.{IfOk-weaker}
use Rattle.tptp_reader.specs.TerminalView.{the_terminal}
use Rattle.tptp_reader.specs.ItemStanding.{DotRead, SelectedEnd}
use Rattle.tptp_reader.proofs.ItemReading.{square_end-is}
use Rattle.std.proofs.lemmas.Bool.{false≢true}
use Rattle.tptp_reader.specs.Expecting.{this, a_closing, names_rest}
use Rattle.tptp_reader.specs.Failing.{OnStacks, Behind, dot_and_items}
use Rattle.tptp_reader.proofs.FailLaws.{fails-next, ends-at, passes-end-at}
use Rattle.tptp_reader.proofs.ItemFails.{fails-names_end}
use Rattle.tptp_reader.proofs.item_reader.read_square.Goals as goal

pub returns-clause-read : goal.returns-clause-read
returns-clause-read c =
    IfOk-weaker c.read_dot.result (DotRead c.args.text.now c.in_ok-close.close) (SelectedEnd c.args.text.now c.args.p)
    (λ r h. record { close = c.in_ok-close.close; squares = square_end-is (the_terminal c.args.p.terminal) (sym c.is_square.ensures ∙ c.if-not-is_square.false); to_close = c.in_ok-close.ensures.next; rest = h })
    c.read_dot.ensures.read

pub returns-clause-onward : goal.returns-clause-onward
returns-clause-onward c =
    IfOk-weaker c.read_dot.result (λ r. c.in_ok-close.close.end < r.end) (λ r. c.args.p.end < r.end) (λ r h. omega (arith, h, c.in_ok-close.ensures.onward)) c.read_dot.ensures.onward

pub returns-then-not-is_square-clause-settles : goal.returns-then-not-is_square-clause-settles
returns-then-not-is_square-clause-settles c = λ n modal. fails-names_end modal dot_and_items n (λ s. absurd (false≢true (sym (sym c.is_square.ensures ∙ c.if-not-is_square.true) ∙ s)))

pub returns-in_err-close-clause-settles : goal.returns-in_err-close-clause-settles
returns-in_err-close-clause-settles c = λ n modal.
    ends-at modal c.args.text.now (names_rest ∷ []) c.args.p (OnStacks (Behind modal c.args.text.now c.args.p.end)) c.from_residual.result c.in_err-close.field-0.0 c.from_residual.ensures.1 (c.in_err-close.ensures.settles modal)
    (λ h. fails-names_end modal dot_and_items n (λ s. h (this a_closing 0 ∷ dot_and_items) refl))

pub returns-clause-settles : goal.returns-clause-settles
returns-clause-settles c = λ n modal.
    passes-end-at modal c.args.text.now (this a_closing 0 ∷ []) c.in_ok-close.close (names_rest ∷ []) c.args.p c.read_dot.result
    (λ h. fails-names_end modal dot_and_items n (λ s. fails-next modal (this a_closing 0 ∷ dot_and_items) refl c.in_ok-close.ensures.next h)) (c.read_dot.ensures.settles modal)
