use Rattle.std.proofs.Common.{◌<◌, arith, ◌∷◌, [], refl}
use Rattle.std.proofs.lemmas.Result.{IfOk-weaker}
use Rattle.tptp_reader.specs.SourceView.{the_source}
use Rattle.tptp_reader.specs.Standing.{IsClosed}
use Rattle.tptp_reader.specs.ClauseStanding.{InsideRead}
use Rattle.tptp_reader.proofs.ClauseReading.{inside-read}
use Rattle.tptp_reader.specs.Expecting.{this, a_closing, literals_rest}
use Rattle.tptp_reader.specs.Failing.{OnStacks, FailsAt}
use Rattle.tptp_reader.proofs.FailLaws.{stops-at, passes-at}
use Rattle.tptp_reader.proofs.clause_reader.read_inside.Goals as goal

pub returns-clause-read : goal.returns-clause-read
returns-clause-read c =
    IfOk-weaker c.closed.result (IsClosed c.args.text.now (the_source c.in_ok-source.source) c.in_ok-source.close) (InsideRead c.args.text.now (the_source c.args.first) c.args.p)
    (λ r h. inside-read c.in_ok-source.ensures.read h) c.closed.ensures.read

pub returns-clause-onward : goal.returns-clause-onward
returns-clause-onward c =
    IfOk-weaker c.closed.result (λ r. c.in_ok-source.close.end < r.1.end) (λ r. c.args.p.end < r.1.end) (λ r h. omega (arith, h, c.in_ok-source.ensures.onward)) c.closed.ensures.onward

pub returns-in_err-source-clause-settles : goal.returns-in_err-source-clause-settles
returns-in_err-source-clause-settles c = λ modal.
    stops-at modal c.args.text.now (literals_rest 1 ∷ this a_closing 1 ∷ []) c.args.p (OnStacks (λ es. FailsAt modal c.args.text.now (literals_rest 1 ∷ es) c.args.p)) c.from_residual.result c.in_err-source.field-0.0 c.from_residual.ensures.1 (c.in_err-source.ensures.settles modal)
    (λ h es b. h (this a_closing 1 ∷ es) refl)

pub returns-clause-settles : goal.returns-clause-settles
returns-clause-settles c = λ modal.
    passes-at modal c.args.text.now (this a_closing 1 ∷ []) c.in_ok-source.close (literals_rest 1 ∷ this a_closing 1 ∷ []) c.args.p c.closed.result
    (λ es b h. c.in_ok-source.ensures.settles modal (this a_closing 1 ∷ es) refl h) (c.closed.ensures.settles modal 1)
