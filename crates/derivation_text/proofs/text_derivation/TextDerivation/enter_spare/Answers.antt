use Rattle.std.proofs.Common.{sym, subst}
use Rattle.derivation_text.specs.NumbersView.{AreAmong, the_numbered_derivation}
use Rattle.derivation_text.proofs.EnteredLaws.{home-entered, spare-entered}
use Rattle.sequent_calc.specs.NamesView.{the_home}
use Rattle.derivation_text.proofs.text_derivation.TextDerivation.enter_spare.Goals as goal

pub invariant_of-self-in_err-push : goal.invariant_of-self-in_err-push
invariant_of-self-in_err-push c =
    let d = c.self.inside in
    subst (λ ss. AreAmong (the_numbered_derivation d.limit c.enter_home.new.labels d.eigens.items ss d.terms d.steps.items)) (sym c.in_err-push.ensures.items)
    (home-entered d.limit d.labels c.enter_home.new.labels d.eigens.items d.spares.items d.terms d.steps.items (the_home c.args.home.now) c.self.invariant c.in_ok-home.ensures.entered)

pub invariant_of-self-2 : goal.invariant_of-self-2
invariant_of-self-2 c =
    let d = c.self.inside in
    spare-entered d.limit d.labels c.enter_home.new.labels d.eigens.items d.spares.items c.push.new.self.items d.terms d.steps.items c.args.number c.in_ok-home.home (the_home c.args.home.now) c.self.invariant c.in_ok-home.ensures.entered c.in_ok-home.ensures.number c.in_ok-push.ensures.items
