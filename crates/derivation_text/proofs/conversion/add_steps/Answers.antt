use Rattle.std.proofs.Common.{◌++◌, length, ap, refl, ◌∙◌}
use Rattle.plain_laws.proofs.Lists.{map-composed}
use Rattle.calculus.specs.Versions.{stated_step}
use Rattle.derivation_text.specs.Listed.{are_listed}
use Rattle.derivation_text.specs.NumbersView.{the_numbered_step}
use Rattle.derivation_text.proofs.GrowingLaws.{map-whole}
use Rattle.derivation_text.proofs.Items.{all-item}
use Rattle.derivation_text.proofs.conversion.add_steps.Goals as goal

pub step_of-requires : goal.step_of-requires
step_of-requires c = all-item the_numbered_step (are_listed (length c.args.d.now.labels) (length c.args.d.now.terms)) c.args.steps.now _ c.loop-step.step-index _ _ refl c.loop-step-test.true refl c.requires.listed

pub returns : goal.returns
returns c =
    let L = c.args.d.now.labels in
    let T = c.args.d.now.terms in
    c.loop-step.invariant ∙ ap (λ l. c.args.to.now ++ l) (map-whole (λ x. stated_step L T (the_numbered_step x)) c.args.steps.now c.loop-step.step-index c.loop-step-test.false ∙ map-composed the_numbered_step (stated_step L T) c.args.steps.now)
