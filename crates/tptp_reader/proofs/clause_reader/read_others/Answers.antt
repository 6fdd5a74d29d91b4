use Rattle.std.proofs.Common.{sym, ◌∙◌, ◌++◌, ◌∷◌, [], ap, refl}
use Rattle.tptp_reader.specs.SourceView.{the_source}
use Rattle.tptp_reader.proofs.ClauseReading.{others-none, others-more}
use Rattle.tptp_reader.specs.Expecting.{literals_rest}
use Rattle.tptp_reader.specs.Failing.{OnStacks, FailsAt}
use Rattle.tptp_reader.proofs.FailLaws.{stops-at}
use Rattle.tptp_reader.proofs.ClauseFails.{fails-unbarred}
use Rattle.tptp_reader.proofs.clause_reader.read_others.Goals as goal

pub returns-then-not-is_bar-clause-read : goal.returns-then-not-is_bar-clause-read
returns-then-not-is_bar-clause-read c = others-none c.args.first c.args.p

pub returns-clause-read : goal.returns-clause-read
returns-clause-read c =
    others-more {p = c.args.p} _ (sym c.is_bar.ensures ∙ c.if-not-is_bar.false) (c.in_ok-push.ensures.ok ∙ ap (λ z. z ++ the_source c.args.first ∷ []) c.new-literals.ensures) c.in_ok-literals.ensures.read c.in_ok-literals.ensures.ended refl

pub returns-then-not-is_bar-clause-settles : goal.returns-then-not-is_bar-clause-settles
returns-then-not-is_bar-clause-settles c = λ modal es b h. fails-unbarred modal c.args.depth es (sym c.is_bar.ensures ∙ c.if-not-is_bar.true) h

pub returns-in_err-literals-clause-settles : goal.returns-in_err-literals-clause-settles
returns-in_err-literals-clause-settles c = λ modal.
    stops-at modal c.args.text.now (literals_rest c.args.depth ∷ []) c.args.p (OnStacks (λ es. FailsAt modal c.args.text.now (literals_rest c.args.depth ∷ es) c.args.p)) c.from_residual-in_err-literals.result c.in_err-literals.field-0.0 c.from_residual-in_err-literals.ensures.1 (c.in_err-literals.ensures.settles modal)
    (λ h. h)

pub returns-clause-settles : goal.returns-clause-settles
returns-clause-settles c = λ modal es b h. c.in_ok-literals.ensures.settles modal es b h
