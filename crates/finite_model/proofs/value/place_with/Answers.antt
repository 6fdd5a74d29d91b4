use Rattle.std.proofs.Common.{◌+◌, ◌*◌, ◌∙◌, ap, min}
use Rattle.finite_model.proofs.ValueLaws.{far-place}
use Rattle.finite_model.proofs.value.place_with.Goals as goal

pub returns : goal.returns
returns c = λ p e.
    c.saturating_add.ensures
    ∙ ap (λ k. min (k + c.args.element) 18446744073709551615) (c.saturating_mul.ensures ∙ ap (λ k. min (k * c.args.elements) 18446744073709551615) e)
    ∙ far-place 18446744073709551615 c.args.elements p c.args.element
