use Rattle.derivation_text.proofs.EnteredLaws.{label-entered}
use Rattle.derivation_text.proofs.text_derivation.TextDerivation.enter_label.Goals as goal

pub invariant_of-self-2 : goal.invariant_of-self-2
invariant_of-self-2 c =
    let d = c.self.inside in
    label-entered d.limit d.labels c.enter.new.self d.eigens.items d.spares.items d.terms d.steps.items c.args.label.now c.self.invariant c.in_ok-number.ensures.listed
