use Rattle.std.proofs.Common.{refl, sym, ◌∙◌}
use Rattle.plain_laws.proofs.Lists.{pointwise-differ}
use Rattle.derivation_text.proofs.NumberedArgs.{no-numbered_home}
use Rattle.derivation_text.proofs.numbered_parts.read_numbered_home.Goals as goal

pub returns-in_err-number-clause-none : goal.returns-in_err-number-clause-none
returns-in_err-number-clause-none c = λ _.
    no-numbered_home c.args.text.now (λ s. pointwise-differ _ _ (sym c.if-eq.false ∙ c.eq.ensures) (s ∙ sym c.as_slice.ensures)) (c.in_err-number.ensures.none refl)
