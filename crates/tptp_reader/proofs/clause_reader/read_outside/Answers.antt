use Rattle.std.proofs.Common.{◌<◌, ◌≤◌, arith, ◌∷◌, []}
use Rattle.std.proofs.lemmas.Result.{IfOk-weaker}
use Rattle.tptp_reader.specs.SourceView.{the_source}
use Rattle.tptp_reader.specs.ClauseStanding.{OthersRead, OutsideRead}
use Rattle.tptp_reader.proofs.ClauseReading.{outside-read}
use Rattle.tptp_reader.specs.Expecting.{this, a_closing, literals_rest}
use Rattle.tptp_reader.specs.Failing.{OnStacks, FailsAt}
use Rattle.tptp_reader.proofs.FailLaws.{stops-at, passes-at}
use Rattle.tptp_reader.proofs.clause_reader.read_outside.Goals as goal

pub returns-clause-read : goal.returns-clause-read
returns-clause-read c =
    IfOk-weaker c.read_others.result (OthersRead c.args.text.now 0 (the_source c.in_ok-first.first) c.in_ok-first.after) (OutsideRead c.args.text.now (the_source c.args.first) c.args.close)
    (λ r h. outside-read c.in_ok-first.first c.in_ok-first.after c.in_ok-first.ensures.read h) c.read_others.ensures.read

pub returns-clause-onward : goal.returns-clause-onward
returns-clause-onward c =
    IfOk-weaker c.read_others.result (λ r. c.in_ok-first.after.end ≤ r.1.end) (λ r. c.args.close.end < r.1.end) (λ r h. omega (arith, h, c.in_ok-first.ensures.onward)) c.read_others.ensures.onward

pub returns-in_err-first-clause-settles : goal.returns-in_err-first-clause-settles
returns-in_err-first-clause-settles c = λ modal.
    stops-at modal c.args.text.now (this a_closing 1 ∷ literals_rest 0 ∷ []) c.args.close (OnStacks (λ es. FailsAt modal c.args.text.now (this a_closing 1 ∷ es) c.args.close)) c.from_residual.result c.in_err-first.field-0.0 c.from_residual.ensures.1 (c.in_err-first.ensures.settles modal 1)
    (λ h es b. h (literals_rest 0 ∷ es) b)

pub returns-clause-settles : goal.returns-clause-settles
returns-clause-settles c = λ modal.
    passes-at modal c.args.text.now (literals_rest 0 ∷ []) c.in_ok-first.after (this a_closing 1 ∷ literals_rest 0 ∷ []) c.args.close c.read_others.result
    (λ es b h. c.in_ok-first.ensures.settles modal 1 (literals_rest 0 ∷ es) b h) (c.read_others.ensures.settles modal)
