use Rattle.std.proofs.Common.{None, ◌++◌, length, ap, refl, ◌∙◌}
use Rattle.plain_laws.proofs.Lists.{map-composed}
use Rattle.calculus.specs.Versions.{stated_spare}
use Rattle.derivation_text.specs.Listed.{may_have_home_among}
use Rattle.derivation_text.specs.NumbersView.{the_numbered_spare}
use Rattle.derivation_text.proofs.GrowingLaws.{map-whole}
use Rattle.derivation_text.proofs.Items.{all-item}
use Rattle.derivation_text.proofs.conversion.add_spares.Goals as goal

pub home_of-requires : goal.home_of-requires
home_of-requires c = all-item the_numbered_spare (may_have_home_among (length c.args.d.now.labels)) c.args.names.now _ c.loop-name.name-index _ (0, None) refl c.loop-name-test.true refl c.requires.among

pub returns : goal.returns
returns c =
    let L = c.args.d.now.labels in
    c.loop-name.invariant ∙ ap (λ l. c.args.to.now ++ l) (map-whole (λ x. stated_spare L (the_numbered_spare x)) c.args.names.now c.loop-name.name-index c.loop-name-test.false ∙ map-composed the_numbered_spare (stated_spare L) c.args.names.now)
