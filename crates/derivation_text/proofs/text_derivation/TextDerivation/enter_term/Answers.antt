use Rattle.derivation_text.proofs.EnteredLaws.{term-entered}
use Rattle.derivation_text.proofs.text_derivation.TextDerivation.enter_term.Goals as goal

pub invariant_of-self-2 : goal.invariant_of-self-2
invariant_of-self-2 c =
    let d = c.self.inside in
    term-entered d.limit d.labels d.eigens.items d.spares.items d.terms c.enter.new.self d.steps.items c.args.row c.self.invariant c.in_ok-number.ensures.listed
