use Rattle.std.proofs.Common.{[], length, ap, subst, ◌∙◌}
use Rattle.calculus.specs.Syntax.{spare}
use Rattle.derivation_text.specs.Listing.{AreApart}
use Rattle.derivation_text.proofs.GreatestLaws.{all-in_order}
use Rattle.derivation_text.proofs.in_order.is_in_order.Goals as goal

pub returns : goal.returns
returns c = λ e.
    let labels = subst (λ l. AreApart l []) c.labels-labels.ensures.list (c.are_apart.ensures c.if-not-are_apart.false) in
    let terms = subst (λ l. AreApart l (spare 0)) c.terms-terms.ensures (c.are_apart-2.ensures c.if-not-are_apart-2.false) in
    all-in_order c.args.d.now c.count.result c.count-2.result c.seen_labels.result c.seen_terms.result c.labels-labels.ensures.among labels terms
    c.seen_labels.ensures (c.are_all.ensures c.if-not-are_all.false) (c.count.ensures ∙ ap length c.labels-labels.ensures.list) c.seen_terms.ensures (c.are_all-2.ensures e) (c.count-2.ensures ∙ ap length c.terms-terms.ensures)
