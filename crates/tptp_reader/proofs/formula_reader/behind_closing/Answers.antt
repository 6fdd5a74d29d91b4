use Rattle.std.proofs.Common.{◌∷◌, [], sym, ◌∙◌}
use Rattle.std.proofs.lemmas.Result.{IfOk-weaker}
use Rattle.tptp_reader.specs.Pieces.{placed}
use Rattle.tptp_reader.specs.Spans.{Span}
use Rattle.tptp_reader.specs.Terminals.{Follow, close_round}
use Rattle.tptp_reader.specs.TerminalView.{the_terminal}
use Rattle.tptp_reader.proofs.SpanLaws.{span-one, closing-is}
use Rattle.tptp_reader.specs.Expecting.{this, a_closing}
use Rattle.tptp_reader.proofs.FailLaws.{fails-this, fails-other, passes-to}
use Rattle.tptp_reader.proofs.formula_reader.behind_closing.Goals as goal

pub returns-clause-read : goal.returns-clause-read
returns-clause-read c =
    IfOk-weaker c.next_token.result (λ q. Follow c.args.text.now c.args.close.end (placed q ∷ []) q.end) (Span c.args.text.now c.args.close (close_round ∷ []))
    (λ q h. span-one (closing-is (the_terminal c.args.close.terminal) (sym c.has_form.ensures ∙ c.if-not-has_form.false)) h)
    c.next_token.ensures.next

pub returns-then-not-has_form-clause-settles : goal.returns-then-not-has_form-clause-settles
returns-then-not-has_form-clause-settles c = λ modal d es b. fails-other modal a_closing d es (sym c.has_form.ensures ∙ c.if-not-has_form.true)

pub returns-clause-settles : goal.returns-clause-settles
returns-clause-settles c = λ modal d.
    passes-to modal c.args.text.now [] c.args.close.end (this a_closing d ∷ []) c.args.close c.next_token.result (λ es b h. fails-this modal a_closing d es h) (c.next_token.ensures.settles modal)
