use Rattle.std.proofs.Common.{sym, ◌∙◌, ◌+◌, ap, arith, ◌∷◌, [], refl, suc}
use Rattle.std.proofs.lemmas.Result.{IfOk-weaker}
use Rattle.tptp_reader.specs.Sources as tree
use Rattle.tptp_reader.specs.ClauseStanding.{UnsignedRead, LiteralRead}
use Rattle.tptp_reader.proofs.ClauseReading.{literal-positive, literal-negative}
use Rattle.tptp_reader.specs.Expecting.{literal, unsigned}
use Rattle.tptp_reader.specs.Failing.{OnStacks, Behind, FailsAt}
use Rattle.tptp_reader.proofs.FailLaws.{stops-at, passes-at}
use Rattle.tptp_reader.proofs.ClauseFails.{fails-positive, fails-negative, fails-negated_atom}
use Rattle.tptp_reader.proofs.clause_reader.read_literal.Goals as goal

pub returns-then-not-is_tilde-clause-read : goal.returns-then-not-is_tilde-clause-read
returns-then-not-is_tilde-clause-read c =
    IfOk-weaker c.read_unsigned.result (UnsignedRead c.args.text.now c.args.depth c.args.p) (LiteralRead c.args.text.now c.args.depth c.args.p) (λ r h. literal-positive h) c.read_unsigned.ensures.read

pub returns-clause-read : goal.returns-clause-read
returns-clause-read c =
    literal-negative c.args.depth (c.args.depth + 1) {p = c.args.p} _ (omega arith) c.requires.shallow (sym c.is_tilde.ensures ∙ c.if-not-is_tilde.false) c.in_ok-start.ensures.next c.in_ok-source.ensures.read (ap tree.not c.in_ok-inner.ensures)

pub returns-then-not-is_tilde-clause-settles : goal.returns-then-not-is_tilde-clause-settles
returns-then-not-is_tilde-clause-settles c = λ modal.
    passes-at modal c.args.text.now (unsigned c.args.depth ∷ []) c.args.p (literal c.args.depth ∷ []) c.args.p c.read_unsigned.result
    (λ es b h. fails-positive modal c.args.depth es (sym c.is_tilde.ensures ∙ c.if-not-is_tilde.true) h) (c.read_unsigned.ensures.settles modal)

pub returns-in_err-start-clause-settles : goal.returns-in_err-start-clause-settles
returns-in_err-start-clause-settles c = λ modal.
    stops-at modal c.args.text.now (literal c.args.depth ∷ []) c.args.p (OnStacks (Behind modal c.args.text.now c.args.p.end)) c.from_residual.result c.in_err-start.field-0.0 c.from_residual.ensures.1 (c.in_err-start.ensures.settles modal)
    (λ h es b. fails-negative modal c.args.depth es (sym c.is_tilde.ensures ∙ c.if-not-is_tilde.false) (h (unsigned (suc c.args.depth) ∷ es) refl))

pub returns-in_err-source-clause-settles : goal.returns-in_err-source-clause-settles
returns-in_err-source-clause-settles c = λ modal.
    stops-at modal c.args.text.now (literal c.args.depth ∷ []) c.args.p (OnStacks (λ es. FailsAt modal c.args.text.now (unsigned (c.args.depth + 1) ∷ es) c.in_ok-start.start)) c.from_residual-in_err-source.result c.in_err-source.field-0.0 c.from_residual-in_err-source.ensures.1 (c.in_err-source.ensures.settles modal)
    (λ h es b. fails-negated_atom modal c.args.depth (c.args.depth + 1) es (omega arith) (sym c.is_tilde.ensures ∙ c.if-not-is_tilde.false) c.in_ok-start.ensures.next (h es b))

pub returns-clause-settles : goal.returns-clause-settles
returns-clause-settles c = λ modal es b h. fails-negated_atom modal c.args.depth (c.args.depth + 1) es (omega arith) (sym c.is_tilde.ensures ∙ c.if-not-is_tilde.false) c.in_ok-start.ensures.next (c.in_ok-source.ensures.settles modal es b h)
