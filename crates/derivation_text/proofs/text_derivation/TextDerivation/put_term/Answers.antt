use Rattle.derivation_text.proofs.EnteredLaws.{term-listed}
use Rattle.derivation_text.proofs.text_derivation.TextDerivation.put_term.Goals as goal

pub invariant_of-self-2 : goal.invariant_of-self-2
invariant_of-self-2 c =
    let d = c.self.inside in
    term-listed d.limit d.labels d.eigens.items d.spares.items d.terms c.push.new.self d.steps.items c.args.row c.self.invariant c.in_ok-push.ensures.ok
