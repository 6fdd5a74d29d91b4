use Rattle.std.proofs.Common.{◌≡◌, Ok, ap, sym, ◌∙◌, decimal}
use Rattle.plain_laws.proofs.Lists.{pointwise-differ}
use Rattle.command_line.proofs.NumberLaws.{parsed}
use Rattle.command_line.proofs.value.plain_number.Goals as goal

pub returns-in_default-clause-none : goal.returns-in_default-clause-none
returns-in_default-clause-none c = λ _ n h e. c.in_default.not-Ok n (parsed _ n c.parse.result h e c.parse.ensures.value.0)

pub returns-else-eq-clause-none : goal.returns-else-eq-clause-none
returns-else-eq-clause-none c = λ _ n h e.
    let r : c.parse.result ≡ Ok n = parsed _ n c.parse.result h e c.parse.ensures.value.0 in
    let s : c.in-Ok.number ≡ n = cc (r, c.in-Ok.is) in
    pointwise-differ _ _ c.if-eq.ensures (c.as_bytes.ensures.value ∙ c.format.ensures.text ∙ ap decimal s ∙ sym e ∙ sym c.as_bytes-2.ensures.value)
