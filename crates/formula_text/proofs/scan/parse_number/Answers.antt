use Rattle.std.proofs.Common.{◌≡◌, Ok, ap, sym, ◌∙◌, decimal}
use Rattle.plain_laws.proofs.Lists.{pointwise-differ}
use Rattle.formula_text.proofs.Numbers.{decimal-utf8, parsed}
use Rattle.formula_text.proofs.scan.parse_number.Goals as goal

pub returns-in_default-clause-none : goal.returns-in_default-clause-none
returns-in_default-clause-none c = λ _ n h e. c.in_default.ensures.cases.0 (decimal-utf8 _ n h e)

pub returns-in_default-parse-clause-none : goal.returns-in_default-parse-clause-none
returns-in_default-parse-clause-none c = λ _ n h e. c.in_default-parse.not-Ok n (parsed _ n c.parse.result h (c.in-Ok.ensures.cases.0 ∙ e) c.parse.ensures.value.0)

pub returns-else-eq-clause-none : goal.returns-else-eq-clause-none
returns-else-eq-clause-none c = λ _ n h e.
    let r : c.parse.result ≡ Ok n = parsed _ n c.parse.result h (c.in-Ok.ensures.cases.0 ∙ e) c.parse.ensures.value.0 in
    let s : c.in-Ok-parse.n ≡ n = cc (r, c.in-Ok-parse.is) in
    pointwise-differ _ _ c.if-eq.ensures (c.as_bytes.ensures.value ∙ c.format.ensures.text ∙ ap decimal s ∙ sym e)
