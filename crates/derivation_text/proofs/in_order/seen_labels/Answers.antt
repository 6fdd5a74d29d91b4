use Rattle.std.proofs.Common.{◌++◌, ap, sym, ◌∙◌, flat_map}
use Rattle.derivation_text.specs.InOrder.{eigen_numbers, greatest_from, greatest_in_order, spare_numbers, step_label_numbers}
use Rattle.derivation_text.proofs.GreatestLaws.{greatest-append}
use Rattle.derivation_text.proofs.in_order.seen_labels.Goals as goal

pub returns-in-Some : goal.returns-in-Some
returns-in-Some c =
    let d = c.args.d.now in
    let steps = flat_map step_label_numbers d.steps in
    c.seen_in_modals.ensures ∙ ap (λ l. greatest_in_order c.in-Some.seen (flat_map step_label_numbers l)) c.steps.ensures.view
    ∙ ap (λ o. greatest_from o steps) c.in-Some.ensures ∙ sym (greatest-append 0 (eigen_numbers d.eigens ++ spare_numbers d.spares) steps)

pub returns-in-None : goal.returns-in-None
returns-in-None c =
    let d = c.args.d.now in
    let steps = flat_map step_label_numbers d.steps in
    ap (λ o. greatest_from o steps) c.in-None.ensures ∙ sym (greatest-append 0 (eigen_numbers d.eigens ++ spare_numbers d.spares) steps)
