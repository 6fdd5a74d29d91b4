use Rattle.std.proofs.Common.{sym, ◌∙◌, ◌∷◌, [], refl}
use Rattle.tptp_reader.proofs.FormulaEnds.{formula-holds}
use Rattle.tptp_reader.specs.Expecting.{formula, stop}
use Rattle.tptp_reader.specs.Failing.{OnStacks, Behind, Fails, FailsAt}
use Rattle.tptp_reader.proofs.FailLaws.{fails-next, misses}
use Rattle.tptp_reader.proofs.FormulaFails.{fails-no_stop}
use Rattle.tptp_reader.proofs.reader.build_formula.Goals as goal

pub returns-clause-holds : goal.returns-clause-holds
returns-clause-holds c = formula-holds c.args.modal c.in_ok-source.source c.in_ok-first.ensures.next c.in_ok-source.ensures.read (sym c.is_stop.ensures ∙ c.if-not-is_stop.false)

pub returns-in_err-first-clause-none : goal.returns-in_err-first-clause-none
returns-in_err-first-clause-none c =
    misses (OnStacks (Behind c.args.modal c.args.text.now c.args.from)) (Fails c.args.modal c.args.text.now (formula 0 ∷ stop ∷ []) c.args.from) c.from_residual.result c.in_err-first.field-0.0 c.from_residual.ensures.1 (c.in_err-first.ensures.settles c.args.modal) (λ h. h (formula 0 ∷ stop ∷ []) refl)

pub returns-in_err-source-clause-none : goal.returns-in_err-source-clause-none
returns-in_err-source-clause-none c =
    misses (OnStacks (λ es. FailsAt c.args.modal c.args.text.now (formula 0 ∷ es) c.in_ok-first.first)) (Fails c.args.modal c.args.text.now (formula 0 ∷ stop ∷ []) c.args.from) c.from_residual-in_err-source.result c.in_err-source.field-0.0 c.from_residual-in_err-source.ensures.1 c.in_err-source.ensures.settles (λ h. fails-next c.args.modal (formula 0 ∷ stop ∷ []) refl c.in_ok-first.ensures.next (h (stop ∷ []) refl))

pub returns-then-not-is_stop-clause-none : goal.returns-then-not-is_stop-clause-none
returns-then-not-is_stop-clause-none c = fails-next c.args.modal (formula 0 ∷ stop ∷ []) refl c.in_ok-first.ensures.next (c.in_ok-source.ensures.settles (stop ∷ []) refl (fails-no_stop c.args.modal [] (sym c.is_stop.ensures ∙ c.if-not-is_stop.true)))
