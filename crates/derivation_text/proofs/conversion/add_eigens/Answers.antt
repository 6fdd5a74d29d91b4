use Rattle.std.proofs.Common.{get_or, ◌++◌, length, ap, refl, ◌∙◌}
use Rattle.plain_laws.proofs.Lists.{map-composed}
use Rattle.calculus.specs.Versions.{is_among, stated_eigen}
use Rattle.derivation_text.specs.Listed.{has_home_among}
use Rattle.derivation_text.specs.NumbersView.{the_numbered_eigen}
use Rattle.derivation_text.proofs.GrowingLaws.{map-whole}
use Rattle.derivation_text.proofs.Items.{all-item}
use Rattle.derivation_text.proofs.conversion.add_eigens.Goals as goal

pub label-requires : goal.label-requires
label-requires c = ap (λ l. is_among (length l) (get_or c.args.names.now c.loop-name.name-index (0, 0)).1) c.labels.ensures.list ∙ all-item the_numbered_eigen (has_home_among (length c.args.d.now.labels)) c.args.names.now _ c.loop-name.name-index _ (0, 0) refl c.loop-name-test.true refl c.requires.among

pub returns : goal.returns
returns c =
    let L = c.args.d.now.labels in
    c.loop-name.invariant ∙ ap (λ l. c.args.to.now ++ l) (map-whole (λ x. stated_eigen L (the_numbered_eigen x)) c.args.names.now c.loop-name.name-index c.loop-name-test.false ∙ map-composed the_numbered_eigen (stated_eigen L) c.args.names.now)
