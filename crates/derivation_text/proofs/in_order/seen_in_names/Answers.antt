use Rattle.std.proofs.Common.{ap, sym, ◌∙◌}
use Rattle.derivation_text.specs.InOrder.{eigen_numbers, greatest_from, greatest_in_order, spare_numbers}
use Rattle.derivation_text.proofs.GreatestLaws.{greatest-append}
use Rattle.derivation_text.proofs.in_order.seen_in_names.Goals as goal

pub returns-in-Some : goal.returns-in-Some
returns-in-Some c =
    let d = c.args.d.now in
    c.seen_in_spares.ensures ∙ ap (λ l. greatest_in_order c.in-Some.seen (spare_numbers l)) c.spares.ensures.view
    ∙ ap (λ o. greatest_from o (spare_numbers d.spares)) (c.in-Some.ensures ∙ ap (λ l. greatest_in_order 0 (eigen_numbers l)) c.eigens.ensures.view) ∙ sym (greatest-append 0 (eigen_numbers d.eigens) (spare_numbers d.spares))

pub returns-in-None : goal.returns-in-None
returns-in-None c =
    let d = c.args.d.now in
    ap (λ o. greatest_from o (spare_numbers d.spares)) (c.in-None.ensures ∙ ap (λ l. greatest_in_order 0 (eigen_numbers l)) c.eigens.ensures.view) ∙ sym (greatest-append 0 (eigen_numbers d.eigens) (spare_numbers d.spares))
