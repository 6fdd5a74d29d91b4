use Rattle.std.proofs.Common.{sym, ◌∙◌, ◌<◌, arith, ◌∷◌, [], refl}
use Rattle.std.proofs.lemmas.Result.{IfOk-weaker}
use Rattle.tptp_reader.specs.ClauseStanding.{DisjunctionRead, OpenedRead, ClauseRead}
use Rattle.tptp_reader.proofs.ClauseReading.{clause-bare, clause-opened}
use Rattle.tptp_reader.specs.Expecting.{atom, literal, literals_rest, clause, clause_open, clause_rest}
use Rattle.tptp_reader.specs.Failing.{OnStacks, Behind, bracketed_parts}
use Rattle.tptp_reader.proofs.FailLaws.{fails-next, stops-at, passes-at}
use Rattle.tptp_reader.proofs.ClauseFails.{fails-bare_clause, fails-bracketed_clause, fails-marked, fails-opened}
use Rattle.tptp_reader.proofs.clause_reader.read_clause.Goals as goal

pub returns-then-not-has_form-clause-read : goal.returns-then-not-has_form-clause-read
returns-then-not-has_form-clause-read c =
    IfOk-weaker c.read_literals.result (DisjunctionRead c.args.text.now 0 c.args.p) (ClauseRead c.args.text.now c.args.p) (λ r h. clause-bare h) c.read_literals.ensures.read

pub returns-then-is_mark-clause-read : goal.returns-then-is_mark-clause-read
returns-then-is_mark-clause-read c =
    IfOk-weaker c.read_bracketed.result (OpenedRead c.args.text.now c.in_ok-start.start) (ClauseRead c.args.text.now c.args.p)
    (λ r h. clause-opened {p = c.args.p} (sym c.has_form.ensures ∙ c.if-not-has_form.false) c.in_ok-start.ensures.next h) c.read_bracketed.ensures.read

pub returns-then-is_mark-clause-onward : goal.returns-then-is_mark-clause-onward
returns-then-is_mark-clause-onward c =
    IfOk-weaker c.read_bracketed.result (λ r. c.in_ok-start.start.end < r.1.end) (λ r. c.args.p.end < r.1.end) (λ r h. omega (arith, h, c.in_ok-start.ensures.onward)) c.read_bracketed.ensures.onward

pub returns-clause-read : goal.returns-clause-read
returns-clause-read c =
    IfOk-weaker c.read_opened.result (OpenedRead c.args.text.now c.in_ok-start.start) (ClauseRead c.args.text.now c.args.p)
    (λ r h. clause-opened {p = c.args.p} (sym c.has_form.ensures ∙ c.if-not-has_form.false) c.in_ok-start.ensures.next h) c.read_opened.ensures.read

pub returns-clause-onward : goal.returns-clause-onward
returns-clause-onward c =
    IfOk-weaker c.read_opened.result (λ r. c.in_ok-start.start.end < r.1.end) (λ r. c.args.p.end < r.1.end) (λ r h. omega (arith, h, c.in_ok-start.ensures.onward)) c.read_opened.ensures.onward

pub returns-then-not-has_form-clause-settles : goal.returns-then-not-has_form-clause-settles
returns-then-not-has_form-clause-settles c = λ modal.
    passes-at modal c.args.text.now (literal 0 ∷ literals_rest 0 ∷ []) c.args.p (clause ∷ []) c.args.p c.read_literals.result
    (λ es b h. fails-bare_clause modal es (sym c.has_form.ensures ∙ c.if-not-has_form.true) h) (c.read_literals.ensures.settles modal)

pub returns-in_err-start-clause-settles : goal.returns-in_err-start-clause-settles
returns-in_err-start-clause-settles c = λ modal.
    stops-at modal c.args.text.now (clause ∷ []) c.args.p (OnStacks (Behind modal c.args.text.now c.args.p.end)) c.from_residual.result c.in_err-start.field-0.0 c.from_residual.ensures.1 (c.in_err-start.ensures.settles modal)
    (λ h es b. fails-bracketed_clause modal es (sym c.has_form.ensures ∙ c.if-not-has_form.false) (h (clause_open ∷ es) refl))

pub returns-then-is_mark-clause-settles : goal.returns-then-is_mark-clause-settles
returns-then-is_mark-clause-settles c = λ modal.
    passes-at modal c.args.text.now (bracketed_parts 1) c.in_ok-start.start (clause ∷ []) c.args.p c.read_bracketed.result
    (λ es b h. fails-bracketed_clause modal es (sym c.has_form.ensures ∙ c.if-not-has_form.false) (fails-next modal (clause_open ∷ es) refl c.in_ok-start.ensures.next (fails-marked modal es (sym c.is_mark.ensures ∙ c.if-is_mark.true) h))) (c.read_bracketed.ensures.settles modal)

pub returns-clause-settles : goal.returns-clause-settles
returns-clause-settles c = λ modal.
    passes-at modal c.args.text.now (atom 1 ∷ clause_rest ∷ []) c.in_ok-start.start (clause ∷ []) c.args.p c.read_opened.result
    (λ es b h. fails-bracketed_clause modal es (sym c.has_form.ensures ∙ c.if-not-has_form.false) (fails-next modal (clause_open ∷ es) refl c.in_ok-start.ensures.next (fails-opened modal es (sym c.is_mark.ensures ∙ c.if-is_mark.false) h))) (c.read_opened.ensures.settles modal)
