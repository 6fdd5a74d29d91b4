use Rattle.derivation_text.proofs.EnteredLaws.{label-listed}
use Rattle.derivation_text.proofs.text_derivation.TextDerivation.put_label.Goals as goal

pub invariant_of-self-2 : goal.invariant_of-self-2
invariant_of-self-2 c =
    let d = c.self.inside in
    label-listed d.limit d.labels c.push.new.self d.eigens.items d.spares.items d.terms d.steps.items c.args.label.now c.self.invariant c.in_ok-push.ensures.ok
