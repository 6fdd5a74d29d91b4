use Rattle.std.proofs.Common.{sym, subst}
use Rattle.derivation_text.specs.NumbersView.{AreAmong, the_numbered_derivation}
use Rattle.derivation_text.proofs.EnteredLaws.{eigen-entered, label-entered}
use Rattle.derivation_text.proofs.text_derivation.TextDerivation.enter_eigen.Goals as goal

pub invariant_of-self-in_err-push : goal.invariant_of-self-in_err-push
invariant_of-self-in_err-push c =
    let d = c.self.inside in
    subst (λ es. AreAmong (the_numbered_derivation d.limit c.enter.new.self es d.spares.items d.terms d.steps.items)) (sym c.in_err-push.ensures.items)
    (label-entered d.limit d.labels c.enter.new.self d.eigens.items d.spares.items d.terms d.steps.items c.args.home.now c.self.invariant c.in_ok-home.ensures.listed)

pub invariant_of-self-2 : goal.invariant_of-self-2
invariant_of-self-2 c =
    let d = c.self.inside in
    eigen-entered d.limit d.labels c.enter.new.self d.eigens.items c.push.new.self.items d.spares.items d.terms d.steps.items c.args.number c.in_ok-home.home c.args.home.now c.self.invariant c.in_ok-home.ensures.listed c.in_ok-home.ensures.number c.in_ok-push.ensures.items
