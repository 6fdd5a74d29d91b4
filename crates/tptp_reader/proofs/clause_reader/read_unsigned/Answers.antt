use Rattle.std.proofs.Common.{sym, ◌∙◌, ◌<◌, ◌+◌, arith, ◌∷◌, [], refl, suc}
use Rattle.std.proofs.lemmas.Result.{IfOk-weaker}
use Rattle.tptp_reader.specs.SourceView.{the_source}
use Rattle.tptp_reader.specs.Standing.{AtomRead, IsClosed}
use Rattle.tptp_reader.specs.ClauseStanding.{UnsignedRead}
use Rattle.tptp_reader.proofs.ClauseReading.{unsigned-bare, unsigned-bracketed}
use Rattle.tptp_reader.specs.Expecting.{this, a_closing, atom, unsigned}
use Rattle.tptp_reader.specs.Failing.{OnStacks, Behind, FailsAt}
use Rattle.tptp_reader.proofs.FailLaws.{stops-at, passes-at}
use Rattle.tptp_reader.proofs.ClauseFails.{fails-bare_atom, fails-bracketed_atom, fails-in_brackets}
use Rattle.tptp_reader.proofs.clause_reader.read_unsigned.Goals as goal

pub returns-then-not-has_form-clause-read : goal.returns-then-not-has_form-clause-read
returns-then-not-has_form-clause-read c =
    IfOk-weaker c.read_atom.result (AtomRead c.args.text.now c.args.depth c.args.p) (UnsignedRead c.args.text.now c.args.depth c.args.p) (λ r h. unsigned-bare h) c.read_atom.ensures.read

pub returns-clause-read : goal.returns-clause-read
returns-clause-read c =
    IfOk-weaker c.closed.result (IsClosed c.args.text.now (the_source c.in_ok-source.source) c.in_ok-source.close) (UnsignedRead c.args.text.now c.args.depth c.args.p)
    (λ r h. unsigned-bracketed c.args.depth (c.args.depth + 1) {p = c.args.p} (omega arith) c.requires.shallow (sym c.has_form.ensures ∙ c.if-not-has_form.false) c.in_ok-start.ensures.next c.in_ok-source.ensures.read h)
    c.closed.ensures.read

pub returns-clause-onward : goal.returns-clause-onward
returns-clause-onward c =
    IfOk-weaker c.closed.result (λ r. c.in_ok-source.close.end < r.1.end) (λ r. c.args.p.end < r.1.end)
    (λ r h. omega (arith, h, c.in_ok-start.ensures.onward, c.in_ok-source.ensures.onward))
    c.closed.ensures.onward

pub returns-then-not-has_form-clause-settles : goal.returns-then-not-has_form-clause-settles
returns-then-not-has_form-clause-settles c = λ modal.
    passes-at modal c.args.text.now (atom c.args.depth ∷ []) c.args.p (unsigned c.args.depth ∷ []) c.args.p c.read_atom.result
    (λ es b h. fails-bare_atom modal c.args.depth es (sym c.has_form.ensures ∙ c.if-not-has_form.true) h) (c.read_atom.ensures.settles modal)

pub returns-in_err-start-clause-settles : goal.returns-in_err-start-clause-settles
returns-in_err-start-clause-settles c = λ modal.
    stops-at modal c.args.text.now (unsigned c.args.depth ∷ []) c.args.p (OnStacks (Behind modal c.args.text.now c.args.p.end)) c.from_residual.result c.in_err-start.field-0.0 c.from_residual.ensures.1 (c.in_err-start.ensures.settles modal)
    (λ h es b. fails-bracketed_atom modal c.args.depth es (sym c.has_form.ensures ∙ c.if-not-has_form.false) (h (atom (suc c.args.depth) ∷ this a_closing (suc c.args.depth) ∷ es) refl))

pub returns-in_err-source-clause-settles : goal.returns-in_err-source-clause-settles
returns-in_err-source-clause-settles c = λ modal.
    stops-at modal c.args.text.now (unsigned c.args.depth ∷ []) c.args.p (OnStacks (λ es. FailsAt modal c.args.text.now (atom (c.args.depth + 1) ∷ es) c.in_ok-start.start)) c.from_residual-in_err-source.result c.in_err-source.field-0.0 c.from_residual-in_err-source.ensures.1 (c.in_err-source.ensures.settles modal)
    (λ h es b. fails-in_brackets modal c.args.depth (c.args.depth + 1) es (omega arith) (sym c.has_form.ensures ∙ c.if-not-has_form.false) c.in_ok-start.ensures.next (h (this a_closing (suc c.args.depth) ∷ es) refl))

pub returns-clause-settles : goal.returns-clause-settles
returns-clause-settles c = λ modal.
    passes-at modal c.args.text.now (this a_closing (suc c.args.depth) ∷ []) c.in_ok-source.close (unsigned c.args.depth ∷ []) c.args.p c.closed.result
    (λ es b h. fails-in_brackets modal c.args.depth (c.args.depth + 1) es (omega arith) (sym c.has_form.ensures ∙ c.if-not-has_form.false) c.in_ok-start.ensures.next (c.in_ok-source.ensures.settles modal (this a_closing (suc c.args.depth) ∷ es) refl h)) (c.closed.ensures.settles modal (suc c.args.depth))
