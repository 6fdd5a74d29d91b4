use Rattle.std.proofs.Common.{length, ap, refl, ◌∙◌}
use Rattle.plain_laws.proofs.Lists.{map-composed}
use Rattle.calculus.specs.Versions.{numbering, stated_step}
use Rattle.derivation_text.specs.Entering.{derivation_with}
use Rattle.derivation_text.specs.Listed.{are_listed}
use Rattle.derivation_text.specs.NumbersView.{the_numbered_step}
use Rattle.derivation_text.proofs.GrowingLaws.{map-whole, steps-grown}
use Rattle.derivation_text.proofs.Items.{all-item}
use Rattle.derivation_text.proofs.renumbering.renumber_steps.Goals as goal

pub renumber_step-requires-clause-listed : goal.renumber_step-requires-clause-listed
renumber_step-requires-clause-listed c = all-item the_numbered_step (are_listed (length c.args.d.now.labels) (length c.args.d.now.terms)) c.args.steps.now _ c.loop-step.step-index _ _ refl c.loop-step-test.true refl c.requires.listed

pub loop-step-preserved : goal.loop-step-preserved
loop-step-preserved c = record {
  put = λ limit es ss e.
      steps-grown (λ x. stated_step c.args.d.now.labels c.args.d.now.terms (the_numbered_step x)) c.args.steps.now c.loop-step.step-index _ _ limit es ss c.loop-step.to c.renumber_step.new.to c.loop-step-test.true refl (c.loop-step.invariant.put limit es ss e) c.in_ok-renumber_step.ensures.put;
  labels = c.in_ok-renumber_step.ensures.labels;
  terms = c.in_ok-renumber_step.ensures.terms;
}

pub returns : goal.returns
returns c = λ limit es ss e.
    let L = c.args.d.now.labels in
    let T = c.args.d.now.terms in
    c.loop-step.invariant.put limit es ss e ∙ ap (λ l. numbering (derivation_with limit es ss l)) (map-whole (λ x. stated_step L T (the_numbered_step x)) c.args.steps.now c.loop-step.step-index c.loop-step-test.false ∙ map-composed the_numbered_step (stated_step L T) c.args.steps.now)
