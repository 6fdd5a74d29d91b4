use Rattle.std.proofs.Common.{sym, subst}
use Rattle.derivation_text.specs.NumbersView.{AreAmong, the_numbered_derivation}
use Rattle.sequent_calc.specs.StepView.{the_row_arg}
use Rattle.derivation_text.proofs.EnteredLaws.{both-entered, modal-entered, use-entered}
use Rattle.sequent_calc.specs.StepView.{the_modal}
use Rattle.derivation_text.proofs.text_derivation.TextDerivation.enter_use.Goals as goal

pub invariant_of-self-in_err-term : goal.invariant_of-self-in_err-term
invariant_of-self-in_err-term c =
    let d = c.self.inside in
    subst (λ ts. AreAmong (the_numbered_derivation d.limit c.enter_modal.new.labels d.eigens.items d.spares.items ts d.steps.items)) (sym c.in_err-term.ensures.err)
    (modal-entered d.limit d.labels c.enter_modal.new.labels d.eigens.items d.spares.items d.terms d.steps.items (the_modal c.args.modal.now) c.self.invariant c.in_ok-modal.ensures.entered)

pub invariant_of-self-in_err-push : goal.invariant_of-self-in_err-push
invariant_of-self-in_err-push c =
    let d = c.self.inside in
    subst (λ xs. AreAmong (the_numbered_derivation d.limit c.enter_modal.new.labels d.eigens.items d.spares.items c.enter_arg.new.terms xs)) (sym c.in_err-push.ensures.items)
    (both-entered d.limit d.labels c.enter_modal.new.labels d.eigens.items d.spares.items d.terms c.enter_arg.new.terms d.steps.items (the_modal c.args.modal.now) (the_row_arg c.args.term) c.self.invariant c.in_ok-modal.ensures.entered c.in_ok-term.ensures.entered)

pub invariant_of-self-2 : goal.invariant_of-self-2
invariant_of-self-2 c =
    let d = c.self.inside in
    use-entered d.limit d.labels c.enter_modal.new.labels d.eigens.items d.spares.items d.terms c.enter_arg.new.terms d.steps.items c.push.new.self.items c.args.entry c.in_ok-modal.modal c.in_ok-term.term (the_modal c.args.modal.now) (the_row_arg c.args.term) c.self.invariant
    c.in_ok-modal.ensures.entered c.in_ok-modal.ensures.number c.in_ok-term.ensures.entered c.in_ok-term.ensures.number c.in_ok-push.ensures.items
