use Rattle.std.proofs.Common.{◌<◌, ◌≤◌, arith, ◌∷◌, []}
use Rattle.std.proofs.lemmas.Result.{IfOk-weaker}
use Rattle.tptp_reader.specs.SourceView.{the_source}
use Rattle.tptp_reader.specs.ClauseStanding.{OthersRead, DisjunctionRead}
use Rattle.tptp_reader.proofs.ClauseReading.{disjunction-read}
use Rattle.tptp_reader.specs.Expecting.{literal, literals_rest}
use Rattle.tptp_reader.specs.Failing.{OnStacks, FailsAt}
use Rattle.tptp_reader.proofs.FailLaws.{stops-at, passes-at}
use Rattle.tptp_reader.proofs.clause_reader.read_literals.Goals as goal

pub returns-clause-read : goal.returns-clause-read
returns-clause-read c =
    IfOk-weaker c.read_others.result (OthersRead c.args.text.now c.args.depth (the_source c.in_ok-first.first) c.in_ok-first.sign) (DisjunctionRead c.args.text.now c.args.depth c.args.p)
    (λ r h. disjunction-read c.in_ok-first.ensures.read h) c.read_others.ensures.read

pub returns-clause-onward : goal.returns-clause-onward
returns-clause-onward c =
    IfOk-weaker c.read_others.result (λ r. c.in_ok-first.sign.end ≤ r.1.end) (λ r. c.args.p.end < r.1.end) (λ r h. omega (arith, h, c.in_ok-first.ensures.onward)) c.read_others.ensures.onward

pub returns-in_err-first-clause-settles : goal.returns-in_err-first-clause-settles
returns-in_err-first-clause-settles c = λ modal.
    stops-at modal c.args.text.now (literal c.args.depth ∷ literals_rest c.args.depth ∷ []) c.args.p (OnStacks (λ es. FailsAt modal c.args.text.now (literal c.args.depth ∷ es) c.args.p)) c.from_residual.result c.in_err-first.field-0.0 c.from_residual.ensures.1 (c.in_err-first.ensures.settles modal)
    (λ h es b. h (literals_rest c.args.depth ∷ es) b)

pub returns-clause-settles : goal.returns-clause-settles
returns-clause-settles c = λ modal.
    passes-at modal c.args.text.now (literals_rest c.args.depth ∷ []) c.in_ok-first.sign (literal c.args.depth ∷ literals_rest c.args.depth ∷ []) c.args.p c.read_others.result
    (λ es b h. c.in_ok-first.ensures.settles modal (literals_rest c.args.depth ∷ es) b h) (c.read_others.ensures.settles modal)
