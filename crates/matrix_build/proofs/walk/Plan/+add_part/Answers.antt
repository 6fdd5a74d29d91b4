-- What each arm of the walk adds, by the law for its step.
use Rattle.std.proofs.Common.{◌≡◌, ◌+◌, ◌∙◌, ◌∷◌, [], ℕ, suc, refl, subst, sym, arith}
use Rattle.std.proofs.lemmas.Result.{IfOk-weaker}
use Rattle.calculus.specs.declared.kind.Shape.TheVariants as shape
use Rattle.calculus.specs.Kinds.{components, shape_of}
use Rattle.calculus.specs.Positions.{size}
use Rattle.search_theory.specs.TemplateOf.{pattern_part}
use Rattle.formula_core.specs.ComponentsView.{the_signed}
use Rattle.formula_core.specs.FormulaView.{the_formula}
use Rattle.matrix_build.specs.PartView.{the_part}
use Rattle.matrix_build.specs.Parts.{Adds, body_by, signed_part}
use Rattle.matrix_build.specs.WayView.{pi_spot, spot_at}
use Rattle.matrix_build.proofs.PartLaws.{beta-adds, gamma-part, nu-part, pi-part}
use Rattle.matrix_build.proofs.SizeLaws.{parts-of}
use Rattle.matrix_build.proofs.walk.Plan.+add_part.Goals as goal

pub add_body-add_alpha-requires : goal.add_body-add_alpha-requires
add_body-add_alpha-requires t c =
    let size_is = c.in-Alpha.ensures.size in
    let top = c.decreases in (
      omega arith,
      (
        c.requires.few,
        parts-of c.args.self.now.sizes.items c.args.position c.args.sign (the_formula c.args.f.now) shape.Alpha (the_signed c.in-Alpha.a ∷ the_signed c.in-Alpha.b ∷ []) c.in-Alpha.ensures.shape c.in-Alpha.ensures.components c.requires.sizes,
      ),
    )

pub add_body-add_beta-requires : goal.add_body-add_beta-requires
add_body-add_beta-requires t c =
    let size_is = c.in-Beta.ensures.size in
    let top = c.decreases in (
      omega arith,
      (
        c.requires.few,
        parts-of c.args.self.now.sizes.items c.args.position c.args.sign (the_formula c.args.f.now) shape.Beta (the_signed c.in-Beta.a ∷ the_signed c.in-Beta.b ∷ []) c.in-Beta.ensures.shape c.in-Beta.ensures.components c.requires.sizes,
      ),
    )

pub add_beta-returns-clause-adds : goal.add_beta-returns-clause-adds
add_beta-returns-clause-adds t c =
    let l = c.args.self.now.logic in
    let second = signed_part l (the_signed c.args.b) in
    let between = the_part c.add_part.new.part in
    let after = the_part c.add_part-2.new.part in
    let more : Adds second (spot_at (c.args.position + suc (size (the_formula c.args.a.formula.now))) c.args.way.now) between after = subst (λ q. Adds second (spot_at q c.args.way.now) between after) c.second-second.ensures c.in_ok-add_part-2.ensures.adds in
    beta-adds (size (the_formula c.args.a.formula.now)) (signed_part l (the_signed c.args.a)) second (spot_at c.args.position c.args.way.now) (the_part c.args.part.now) between after c.in_ok-add_part.ensures.adds more

pub add_gamma-returns-clause-adds : goal.add_gamma-returns-clause-adds
add_gamma-returns-clause-adds t c = gamma-part (signed_part c.args.self.now.logic (the_signed c.args.a)) c.in_ok-n.n (spot_at c.args.position c.args.way.now) (spot_at (c.args.position + 1) c.in_ok-inside.inside) (the_part c.args.part.now) (the_part c.add_variable.new.self) (the_part c.add_gamma.new.self) (the_part c.add_part.new.part) c.in_ok-n.ensures.number c.in_ok-n.ensures.part c.in_ok-add_gamma.ensures.part (c.in_ok-inside.ensures c.args.position (c.args.position + 1) refl) c.in_ok-add_part.ensures.adds

pub add_part-returns-in_ok-after-in-Nu-clause-adds : goal.add_part-returns-in_ok-after-in-Nu-clause-adds
add_part-returns-in_ok-after-in-Nu-clause-adds t c =
    let l = c.args.self.now.logic in
    let s = c.args.sign in
    let f = the_formula c.args.f.now in
    let spot = spot_at c.args.position c.args.way.now in
    let inner = spot_at c.args.position c.in_ok-after-in-Nu.after in
    let before = the_part c.args.part.now in
    let between = the_part c.add_variable.new.self in
    let after = the_part c.add_body-in-Nu.new.part in
    IfOk-weaker c.add_body-in-Nu.result (λ _. Adds (body_by l (shape_of s f) (components s f)) inner between after) (λ _. Adds (pattern_part l f s) spot before after)
    (λ _ h. nu-part l s f c.in_ok-n-in-Nu.n spot inner before between after (sym c.in-Nu.is ∙ c.kind_of.ensures.modal) c.in_ok-n-in-Nu.ensures.number c.in_ok-n-in-Nu.ensures.part (c.in_ok-after-in-Nu.ensures c.args.position) h)
    c.add_body-in-Nu.ensures.adds

pub add_part-returns-in_ok-after-in-Pi-clause-adds : goal.add_part-returns-in_ok-after-in-Pi-clause-adds
add_part-returns-in_ok-after-in-Pi-clause-adds t c =
    let l = c.args.self.now.logic in
    let s = c.args.sign in
    let f = the_formula c.args.f.now in
    let way = c.args.way.now in
    let reached = c.in_ok-after-in-Pi.after in
    let spot = spot_at c.args.position way in
    let inner = spot_at c.args.position reached in
    let before = the_part c.args.part.now in
    let between = the_part c.add_pi.new.self in
    let after = the_part c.add_body-in-Pi.new.part in
    let stepped : inner ≡ pi_spot l spot = subst (λ (q : ℕ). spot_at q reached ≡ pi_spot l (spot_at q way)) c.number_of-at.ensures c.in_ok-after-in-Pi.ensures in
    IfOk-weaker c.add_body-in-Pi.result (λ _. Adds (body_by l (shape_of s f) (components s f)) inner between after) (λ _. Adds (pattern_part l f s) spot before after)
    (λ _ h. pi-part l s f spot inner before between after (sym c.in-Pi.is ∙ c.kind_of.ensures.modal) c.add_pi.ensures.part stepped h)
    c.add_body-in-Pi.ensures.adds
