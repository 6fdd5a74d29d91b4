use Rattle.std.proofs.Common.{◌<◌, arith, ◌∷◌, [], refl, sym, ◌∙◌}
use Rattle.std.proofs.lemmas.Result.{IfOk-weaker}
use Rattle.tptp_reader.specs.SourceView.{the_source}
use Rattle.tptp_reader.specs.ClauseStanding.{InsideRead, OutsideRead, OpenedRead}
use Rattle.tptp_reader.proofs.ClauseReading.{opened-outside, opened-inside}
use Rattle.tptp_reader.specs.Expecting.{this, a_closing, atom, clause_rest, literals_rest}
use Rattle.tptp_reader.specs.Failing.{OnStacks, FailsAt}
use Rattle.tptp_reader.proofs.FailLaws.{stops-at, passes-at}
use Rattle.tptp_reader.proofs.ClauseFails.{fails-outside, fails-inside}
use Rattle.tptp_reader.proofs.clause_reader.read_opened.Goals as goal

pub returns-then-has_form-clause-read : goal.returns-then-has_form-clause-read
returns-then-has_form-clause-read c =
    IfOk-weaker c.read_outside.result (OutsideRead c.args.text.now (the_source c.in_ok-first.first) c.in_ok-first.sign) (OpenedRead c.args.text.now c.args.p)
    (λ r h. opened-outside c.in_ok-first.ensures.read h) c.read_outside.ensures.read

pub returns-then-has_form-clause-onward : goal.returns-then-has_form-clause-onward
returns-then-has_form-clause-onward c =
    IfOk-weaker c.read_outside.result (λ r. c.in_ok-first.sign.end < r.1.end) (λ r. c.args.p.end < r.1.end) (λ r h. omega (arith, h, c.in_ok-first.ensures.onward)) c.read_outside.ensures.onward

pub returns-clause-read : goal.returns-clause-read
returns-clause-read c =
    IfOk-weaker c.read_inside.result (InsideRead c.args.text.now (the_source c.in_ok-first.first) c.in_ok-first.sign) (OpenedRead c.args.text.now c.args.p)
    (λ r h. opened-inside c.in_ok-first.ensures.read h) c.read_inside.ensures.read

pub returns-clause-onward : goal.returns-clause-onward
returns-clause-onward c =
    IfOk-weaker c.read_inside.result (λ r. c.in_ok-first.sign.end < r.1.end) (λ r. c.args.p.end < r.1.end) (λ r h. omega (arith, h, c.in_ok-first.ensures.onward)) c.read_inside.ensures.onward

pub returns-in_err-first-clause-settles : goal.returns-in_err-first-clause-settles
returns-in_err-first-clause-settles c = λ modal.
    stops-at modal c.args.text.now (atom 1 ∷ clause_rest ∷ []) c.args.p (OnStacks (λ es. FailsAt modal c.args.text.now (atom 1 ∷ es) c.args.p)) c.from_residual.result c.in_err-first.field-0.0 c.from_residual.ensures.1 (c.in_err-first.ensures.settles modal)
    (λ h es b. h (clause_rest ∷ es) refl)

pub returns-then-has_form-clause-settles : goal.returns-then-has_form-clause-settles
returns-then-has_form-clause-settles c = λ modal.
    passes-at modal c.args.text.now (this a_closing 1 ∷ literals_rest 0 ∷ []) c.in_ok-first.sign (atom 1 ∷ clause_rest ∷ []) c.args.p c.read_outside.result
    (λ es b h. c.in_ok-first.ensures.settles modal (clause_rest ∷ es) refl (fails-outside modal es (sym c.has_form.ensures ∙ c.if-has_form.true) h)) (c.read_outside.ensures.settles modal)

pub returns-clause-settles : goal.returns-clause-settles
returns-clause-settles c = λ modal.
    passes-at modal c.args.text.now (literals_rest 1 ∷ this a_closing 1 ∷ []) c.in_ok-first.sign (atom 1 ∷ clause_rest ∷ []) c.args.p c.read_inside.result
    (λ es b h. c.in_ok-first.ensures.settles modal (clause_rest ∷ es) refl (fails-inside modal es (sym c.has_form.ensures ∙ c.if-has_form.false) h)) (c.read_inside.ensures.settles modal)
