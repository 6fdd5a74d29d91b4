use Rattle.std.proofs.Common.{[], ap, ◌∙◌}
use Rattle.calculus.specs.Versions.{numbering}
use Rattle.derivation_text.specs.Entering.{derivation_with}
use Rattle.derivation_text.proofs.GrowingLaws.{spares-grown, map-whole}
use Rattle.sequent_calc.specs.NamesView.{the_spare}
use Rattle.derivation_text.proofs.numbering.enter_spares.Goals as goal

pub loop-name-preserved : goal.loop-name-preserved
loop-name-preserved c = λ limit es e.
    spares-grown the_spare c.args.names.now c.loop-name.name-index c.name-item.result c.name-item.result limit es c.loop-name.d c.enter_spare.new.self c.loop-name-test.true c.name-item.is (c.loop-name.invariant limit es e) c.in_ok-enter_spare.ensures

pub returns : goal.returns
returns c = λ limit es e. c.loop-name.invariant limit es e ∙ ap (λ l. numbering (derivation_with limit es l [])) (map-whole the_spare c.args.names.now c.loop-name.name-index c.loop-name-test.false)
