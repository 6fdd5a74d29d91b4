use Rattle.std.proofs.Common.{◌∷◌, [], ◌<◌, refl, sym, ◌∙◌, arith}
use Rattle.std.proofs.lemmas.Result.{IfOk-weaker}
use Rattle.tptp_reader.specs.Pieces.{placed}
use Rattle.tptp_reader.specs.Spans.{Span}
use Rattle.tptp_reader.specs.Terminals.{Follow, open_square}
use Rattle.tptp_reader.specs.TerminalView.{the_terminal}
use Rattle.tptp_reader.proofs.SpanLaws.{span-one, span-more, square-is}
use Rattle.tptp_reader.specs.Expecting.{this, a_square}
use Rattle.tptp_reader.specs.Failing.{OnStacks, Behind}
use Rattle.tptp_reader.proofs.FailLaws.{fails-next, fails-this, fails-other, stops-next, passes-next}
use Rattle.tptp_reader.proofs.formula_reader.behind_square.Goals as goal

pub returns-clause-read : goal.returns-clause-read
returns-clause-read c =
    IfOk-weaker c.next_token-2.result (λ q. Follow c.args.text.now c.in_ok-square.square.end (placed q ∷ []) q.end) (Span c.args.text.now c.args.p (the_terminal c.args.p.terminal ∷ open_square ∷ []))
    (λ q h. span-more refl c.in_ok-square.ensures.next (span-one (square-is (the_terminal c.in_ok-square.square.terminal) (sym c.has_form.ensures ∙ c.if-not-has_form.false)) h))
    c.next_token-2.ensures.next

pub returns-clause-onward : goal.returns-clause-onward
returns-clause-onward c =
    IfOk-weaker c.next_token-2.result (λ q. c.in_ok-square.square.end < q.end) (λ q. c.args.p.end < q.end)
    (λ q h. omega (arith, h, c.in_ok-square.ensures.onward))
    c.next_token-2.ensures.onward

pub returns-in_err-square-clause-settles : goal.returns-in_err-square-clause-settles
returns-in_err-square-clause-settles c = λ modal d.
    stops-next modal c.args.text.now (this a_square d ∷ []) c.args.p.end (OnStacks (Behind modal c.args.text.now c.args.p.end)) c.from_residual.result c.in_err-square.field-0.0 c.from_residual.ensures.1 (c.in_err-square.ensures.settles modal)
    (λ h es b. h (this a_square d ∷ es) refl)

pub returns-then-not-has_form-clause-settles : goal.returns-then-not-has_form-clause-settles
returns-then-not-has_form-clause-settles c = λ modal d es b. fails-next modal (this a_square d ∷ es) refl c.in_ok-square.ensures.next (fails-other modal a_square d es (sym c.has_form.ensures ∙ c.if-not-has_form.true))

pub returns-clause-settles : goal.returns-clause-settles
returns-clause-settles c = λ modal d.
    passes-next modal c.args.text.now [] c.in_ok-square.square.end (this a_square d ∷ []) c.args.p.end c.next_token-2.result
    (λ es b h. fails-next modal (this a_square d ∷ es) refl c.in_ok-square.ensures.next (fails-this modal a_square d es h)) (c.next_token-2.ensures.settles modal)
