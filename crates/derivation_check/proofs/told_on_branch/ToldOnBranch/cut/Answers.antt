use Rattle.std.proofs.Common.{◌++◌, ◌∙◌, ap, drop, subst, sym, take-append-drop}
use Rattle.derivation_check.specs.ToldView.{AreRising}
use Rattle.derivation_check.proofs.ToldLaws.{rising-take}
use Rattle.derivation_check.proofs.told_on_branch.ToldOnBranch.cut.Goals as goal

pub invariant_of-self : goal.invariant_of-self
invariant_of-self c = subst (AreRising 0) (sym c.truncate.ensures.entries) (rising-take 0 c.kept-kept.result c.self.inside.labels.entries c.self.invariant)

pub returns-clause-begins : goal.returns-clause-begins
returns-clause-begins c =
    let es = c.self.inside.labels.entries in
    (drop c.kept-kept.result es, sym c.self.view_is ∙ sym (take-append-drop c.kept-kept.result es) ∙ ap (λ l. l ++ drop c.kept-kept.result es) (sym c.truncate.ensures.entries))
