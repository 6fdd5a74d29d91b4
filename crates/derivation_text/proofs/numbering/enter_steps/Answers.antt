use Rattle.std.proofs.Common.{ap, ◌∙◌}
use Rattle.calculus.specs.Versions.{numbering}
use Rattle.derivation_text.specs.Entering.{derivation_with}
use Rattle.derivation_text.proofs.GrowingLaws.{map-whole, steps-grown}
use Rattle.sequent_calc.specs.StepView.{the_step}
use Rattle.derivation_text.proofs.numbering.enter_steps.Goals as goal

pub loop-step-preserved : goal.loop-step-preserved
loop-step-preserved c = λ limit es ss e.
    steps-grown the_step c.args.steps.now c.loop-step.step-index c.step-item.result c.step-item.result limit es ss c.loop-step.d c.enter_step.new.d c.loop-step-test.true c.step-item.is (c.loop-step.invariant limit es ss e) c.in_ok-enter_step.ensures

pub returns : goal.returns
returns c = λ limit es ss e. c.loop-step.invariant limit es ss e ∙ ap (λ l. numbering (derivation_with limit es ss l)) (map-whole the_step c.args.steps.now c.loop-step.step-index c.loop-step-test.false)
