use Rattle.std.proofs.Common.{false, ◌-◌, ◌∙◌, ◌∷◌, ◌++◌, [], get_or, ap, refl, subst, sym}
use Rattle.calculus.specs.declared.kind.Shape.TheVariants.{Alpha, Beta, Gamma, Delta, Literal}
use Rattle.calculus.specs.Calculus.{one, two}
use Rattle.calculus.specs.Kinds.{signed}
use Rattle.formula_core.specs.ComponentsView.{the_signed}
use Rattle.formula_core.specs.FormulaView.{the_formula}
use Rattle.derivation_branch.specs.AddedView.{PutsArgument}
use Rattle.derivation_branch.proofs.OutlineLaws.{component-one, component-two, shape-no}
use Rattle.derivation_branch.specs.OutlineView.{IsNode, node}
use Rattle.derivation_branch.proofs.AddedLaws.{added-bound, added-plain}
use Rattle.derivation_branch.proofs.addition.added_by.Goals as goal

pub returns-in-Literal-clause-added : goal.returns-in-Literal-clause-added
returns-in-Literal-clause-added c = λ table labels t put s.
    let e = c.args.used in
    let f = the_formula e.formula.now in
    let shape = sym c.in-Literal.ensures.shape in
    let none = subst (λ k. PutsArgument table e.substitution c.args.inner k t) shape put in
    sym (added-plain table e.substitution e.sign f Literal (signed e.sign f ∷ []) t s (get_or labels c.args.label []) refl shape
    (sym c.in-Literal.ensures.components ∙ ap (λ g. signed e.sign g ∷ []) (sym c.in-Literal.ensures.atom)) none)

pub returns-in-One-clause-added : goal.returns-in-One-clause-added
returns-in-One-clause-added c = λ table labels t put s.
    let e = c.args.used in
    let shape = sym c.in-One.ensures.shape in
    let none = subst (λ k. PutsArgument table e.substitution c.args.inner k t) shape put in
    ap (λ x. one (s ++ x ∷ [])) (c.component.ensures.entry table labels)
    ∙ sym (added-plain table e.substitution e.sign (the_formula e.formula.now) Alpha (the_signed c.in-One.a ∷ []) t s (get_or labels c.args.label []) refl shape (sym c.in-One.ensures.components) none)

pub returns-in-Alpha-clause-added : goal.returns-in-Alpha-clause-added
returns-in-Alpha-clause-added c = λ table labels t put s.
    let e = c.args.used in
    let shape = sym c.in-Alpha.ensures.shape in
    let none = subst (λ k. PutsArgument table e.substitution c.args.inner k t) shape put in
    let first = c.component-in-Alpha.ensures.entry table labels in
    let second = c.component-in-Alpha-2.ensures.entry table labels in
    (λ i. one (s ++ first i ∷ second i ∷ []))
    ∙ sym (added-plain table e.substitution e.sign (the_formula e.formula.now) Alpha (the_signed c.in-Alpha.a ∷ the_signed c.in-Alpha.b ∷ []) t s (get_or labels c.args.label []) refl shape (sym c.in-Alpha.ensures.components) none)

pub returns-in-Beta-clause-added : goal.returns-in-Beta-clause-added
returns-in-Beta-clause-added c = λ table labels t put s.
    let e = c.args.used in
    let shape = sym c.in-Beta.ensures.shape in
    let none = subst (λ k. PutsArgument table e.substitution c.args.inner k t) shape put in
    let first = c.component-in-Beta.ensures.entry table labels in
    let second = c.component-in-Beta-2.ensures.entry table labels in
    (λ i. two (s ++ first i ∷ []) (s ++ second i ∷ []))
    ∙ sym (added-plain table e.substitution e.sign (the_formula e.formula.now) Beta (the_signed c.in-Beta.a ∷ the_signed c.in-Beta.b ∷ []) t s (get_or labels c.args.label []) refl shape (sym c.in-Beta.ensures.components) none)

pub returns-in-Gamma-clause-added : goal.returns-in-Gamma-clause-added
returns-in-Gamma-clause-added c = λ table labels t put s.
    let e = c.args.used in
    ap (λ x. one (s ++ x ∷ [])) (c.component-in-Gamma.ensures.entry table labels)
    ∙ sym (added-bound table e.substitution c.args.inner e.sign (the_formula e.formula.now) Gamma (the_signed c.in-Gamma.a) t s (get_or labels c.args.label []) refl (sym c.in-Gamma.ensures.shape) (sym c.in-Gamma.ensures.components) put)

pub returns-in-Delta-clause-added : goal.returns-in-Delta-clause-added
returns-in-Delta-clause-added c = λ table labels t put s.
    let e = c.args.used in
    ap (λ x. one (s ++ x ∷ [])) (c.component-in-Delta.ensures.entry table labels)
    ∙ sym (added-bound table e.substitution c.args.inner e.sign (the_formula e.formula.now) Delta (the_signed c.in-Delta.a) t s (get_or labels c.args.label []) refl (sym c.in-Delta.ensures.shape) (sym c.in-Delta.ensures.components) put)

pub returns-in-One-clause-nodes : goal.returns-in-One-clause-nodes
returns-in-One-clause-nodes c = λ parts outline h.
    let e = c.args.used in
    let f = the_formula e.formula.now in
    c.component.ensures.placed parts (subst (λ k. IsNode parts k (the_signed c.in-One.a).formula) (sym c.saturating_sub-last.ensures) (component-one parts e.node e.sign f (the_signed c.in-One.a) (shape-no e.sign f Alpha (λ x. x) c.in-One.ensures.shape) (sym c.in-One.ensures.components) h))

pub returns-in-Gamma-clause-nodes : goal.returns-in-Gamma-clause-nodes
returns-in-Gamma-clause-nodes c = λ parts outline h.
    let e = c.args.used in
    let f = the_formula e.formula.now in
    c.component-in-Gamma.ensures.placed parts (subst (λ k. IsNode parts k (the_signed c.in-Gamma.a).formula) (sym c.saturating_sub-last.ensures) (component-one parts e.node e.sign f (the_signed c.in-Gamma.a) (shape-no e.sign f Gamma (λ x. x) c.in-Gamma.ensures.shape) (sym c.in-Gamma.ensures.components) h))

pub returns-in-Delta-clause-nodes : goal.returns-in-Delta-clause-nodes
returns-in-Delta-clause-nodes c = λ parts outline h.
    let e = c.args.used in
    let f = the_formula e.formula.now in
    c.component-in-Delta.ensures.placed parts (subst (λ k. IsNode parts k (the_signed c.in-Delta.a).formula) (sym c.saturating_sub-last.ensures) (component-one parts e.node e.sign f (the_signed c.in-Delta.a) (shape-no e.sign f Delta (λ x. x) c.in-Delta.ensures.shape) (sym c.in-Delta.ensures.components) h))

pub returns-in-Alpha-clause-nodes : goal.returns-in-Alpha-clause-nodes
returns-in-Alpha-clause-nodes c = λ parts outline h.
    let e = c.args.used in
    let f = the_formula e.formula.now in
    let both = component-two parts c.args.outline.now.nodes.items e.node c.second.result e.sign f (the_signed c.in-Alpha.a) (the_signed c.in-Alpha.b) (node false 0) outline (sym c.in-Alpha.ensures.components) (c.second.ensures (node false 0)) h in
    (c.component-in-Alpha.ensures.placed parts (subst (λ k. IsNode parts k (the_signed c.in-Alpha.a).formula) (sym (c.saturating_sub-other.ensures ∙ ap (λ m. m - c.second.result) c.saturating_sub-last.ensures)) both.0), c.component-in-Alpha-2.ensures.placed parts (subst (λ k. IsNode parts k (the_signed c.in-Alpha.b).formula) (sym c.saturating_sub-last.ensures) both.1))

pub returns-in-Beta-clause-nodes : goal.returns-in-Beta-clause-nodes
returns-in-Beta-clause-nodes c = λ parts outline h.
    let e = c.args.used in
    let f = the_formula e.formula.now in
    let both = component-two parts c.args.outline.now.nodes.items e.node c.second.result e.sign f (the_signed c.in-Beta.a) (the_signed c.in-Beta.b) (node false 0) outline (sym c.in-Beta.ensures.components) (c.second.ensures (node false 0)) h in
    (c.component-in-Beta.ensures.placed parts (subst (λ k. IsNode parts k (the_signed c.in-Beta.a).formula) (sym (c.saturating_sub-other.ensures ∙ ap (λ m. m - c.second.result) c.saturating_sub-last.ensures)) both.0), c.component-in-Beta-2.ensures.placed parts (subst (λ k. IsNode parts k (the_signed c.in-Beta.b).formula) (sym c.saturating_sub-last.ensures) both.1))
