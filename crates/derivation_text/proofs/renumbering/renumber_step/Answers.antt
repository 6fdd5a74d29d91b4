use Rattle.std.proofs.Common.{ap, sym, ◌∙◌}
use Rattle.calculus.specs.Versions.{stated_modal, stated_step, stated_term}
use Rattle.derivation_text.specs.Entering.{put_step}
use Rattle.derivation_text.specs.NumbersView.{the_numbered_arg, the_numbered_modal, the_numbered_step}
use Rattle.derivation_text.proofs.RenumberingLaws.{use-put}
use Rattle.derivation_text.proofs.renumbering.renumber_step.Goals as goal

pub returns-in_ok-put_step-in-Use-clause-put : goal.returns-in_ok-put_step-in-Use-clause-put
returns-in_ok-put_step-in-Use-clause-put c =
    use-put c.args.to.now c.new_modal.new.to c.new_arg.new.to c.put_step.new.self c.in-Use.entry _ _ (stated_modal c.args.d.now.labels (the_numbered_modal c.in-Use.modal)) (stated_term c.args.d.now.terms (the_numbered_arg c.in-Use.term)) c.in_ok-modal-in-Use.ensures.entered c.in_ok-modal-in-Use.ensures.number c.in_ok-term-in-Use.ensures.entered c.in_ok-term-in-Use.ensures.number c.in_ok-put_step-in-Use.ensures
    ∙ ap (λ y. put_step c.args.to.now (stated_step c.args.d.now.labels c.args.d.now.terms (the_numbered_step y))) (sym c.in-Use.is)
