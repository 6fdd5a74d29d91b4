use Rattle.std.proofs.Common.{◌∷◌, [], ◌<◌, sym, ◌∙◌, arith, refl}
use Rattle.std.proofs.lemmas.Result.{IfOk-weaker}
use Rattle.tptp_reader.specs.Pieces.{placed}
use Rattle.tptp_reader.specs.Standing.{EndRead}
use Rattle.tptp_reader.specs.Terminals.{Follow}
use Rattle.tptp_reader.specs.TerminalView.{the_terminal}
use Rattle.tptp_reader.proofs.SpanLaws.{span-one, span-more, square-end-is, colon-is}
use Rattle.tptp_reader.specs.Expecting.{this, a_colon, variables}
use Rattle.tptp_reader.specs.Failing.{OnStacks, Behind}
use Rattle.tptp_reader.proofs.FailLaws.{fails-next, fails-this, fails-other, stops-to, passes-to}
use Rattle.tptp_reader.proofs.FormulaFails.{fails-closing, fails-unclosed}
use Rattle.tptp_reader.proofs.formula_reader.quantifier_end.Goals as goal

pub returns-clause-read : goal.returns-clause-read
returns-clause-read c =
    IfOk-weaker c.next_token-2.result (λ q. Follow c.args.text.now c.in_ok-colon.colon.end (placed q ∷ []) q.end) (EndRead c.args.text.now c.args.square)
    (λ q h.
    span-more (square-end-is (the_terminal c.args.square.terminal) (sym c.closes_square.ensures ∙ c.if-not-closes_square.false)) c.in_ok-colon.ensures.next
    (span-one (colon-is (the_terminal c.in_ok-colon.colon.terminal) (sym c.has_form.ensures ∙ c.if-not-has_form.false)) h))
    c.next_token-2.ensures.next

pub returns-clause-onward : goal.returns-clause-onward
returns-clause-onward c =
    IfOk-weaker c.next_token-2.result (λ q. c.in_ok-colon.colon.end < q.end) (λ q. c.args.square.end < q.end)
    (λ q h. omega (arith, h, c.in_ok-colon.ensures.onward))
    c.next_token-2.ensures.onward

pub returns-in_err-colon-clause-settles : goal.returns-in_err-colon-clause-settles
returns-in_err-colon-clause-settles c = λ n modal d.
    stops-to modal c.args.text.now (variables d ∷ []) c.args.square (OnStacks (Behind modal c.args.text.now c.args.square.end)) c.from_residual.result c.in_err-colon.field-0.0 c.from_residual.ensures.1 (c.in_err-colon.ensures.settles modal)
    (λ h es b. fails-closing modal d es n (h (this a_colon d ∷ es) refl))

pub returns-then-not-closes_square-clause-settles : goal.returns-then-not-closes_square-clause-settles
returns-then-not-closes_square-clause-settles c = λ n modal d es b. fails-unclosed modal d es n (sym c.closes_square.ensures ∙ c.if-not-closes_square.true)

pub returns-then-not-has_form-clause-settles : goal.returns-then-not-has_form-clause-settles
returns-then-not-has_form-clause-settles c = λ n modal d es b.
    fails-closing modal d es n (fails-next modal (this a_colon d ∷ es) refl c.in_ok-colon.ensures.next (fails-other modal a_colon d es (sym c.has_form.ensures ∙ c.if-not-has_form.true)))

pub returns-clause-settles : goal.returns-clause-settles
returns-clause-settles c = λ n modal d.
    passes-to modal c.args.text.now [] c.in_ok-colon.colon.end (variables d ∷ []) c.args.square c.next_token-2.result
    (λ es b h. fails-closing modal d es n (fails-next modal (this a_colon d ∷ es) refl c.in_ok-colon.ensures.next (fails-this modal a_colon d es h))) (c.next_token-2.ensures.settles modal)
