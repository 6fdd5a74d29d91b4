use Rattle.std.proofs.Common.{[], ap, ◌∙◌}
use Rattle.calculus.specs.Versions.{numbering}
use Rattle.derivation_text.specs.Entering.{derivation_with}
use Rattle.derivation_text.proofs.GrowingLaws.{eigens-grown, map-whole}
use Rattle.sequent_calc.specs.NamesView.{the_eigen}
use Rattle.derivation_text.proofs.numbering.enter_eigens.Goals as goal

pub loop-name-preserved : goal.loop-name-preserved
loop-name-preserved c = λ limit e.
    eigens-grown the_eigen c.args.names.now c.loop-name.name-index c.name-item.result c.name-item.result limit c.loop-name.d c.enter_eigen.new.self c.loop-name-test.true c.name-item.is (c.loop-name.invariant limit e) c.in_ok-enter_eigen.ensures

pub returns : goal.returns
returns c = λ limit e. c.loop-name.invariant limit e ∙ ap (λ l. numbering (derivation_with limit l [] [])) (map-whole the_eigen c.args.names.now c.loop-name.name-index c.loop-name-test.false)
