use Rattle.std.proofs.Common.{[], length, replicate, ap, ◌∙◌}
use Rattle.calculus.specs.Equality.{term_eq}
use Rattle.calculus.specs.Syntax.{spare}
use Rattle.calculus.specs.Versions.{same_label}
use Rattle.derivation_text.proofs.RenumberingLaws.{none-new}
use Rattle.derivation_text.proofs.renumbering.renumber.Goals as goal

pub renumber_all-requires-clause-labels : goal.renumber_all-requires-clause-labels
renumber_all-requires-clause-labels c =
    none-new same_label [] c.args.d.now.labels [] c.deref_mut.result.now (c.deref_mut.ensures.value ∙ c.in_ok-labels.ensures.items_if_clones_equal (λ y e. e) ∙ ap (λ n. replicate n 0) (c.count.ensures ∙ ap length c.labels.ensures.list))

pub renumber_all-requires-clause-terms : goal.renumber_all-requires-clause-terms
renumber_all-requires-clause-terms c =
    none-new term_eq (spare 0) c.args.d.now.terms [] c.deref_mut-2.result.now (c.deref_mut-2.ensures.value ∙ c.in_ok-terms.ensures.items_if_clones_equal (λ y e. e) ∙ ap (λ n. replicate n 0) (c.count-2.ensures ∙ ap length c.terms.ensures))
