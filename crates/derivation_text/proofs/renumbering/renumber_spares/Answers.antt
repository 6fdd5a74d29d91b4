use Rattle.std.proofs.Common.{get_or, None, [], length, ap, refl, sym, subst, ◌∙◌}
use Rattle.plain_laws.proofs.Lists.{map-composed}
use Rattle.calculus.specs.Versions.{NumberedDerivation, numbering, same_label, stated_home, stated_spare}
use Rattle.derivation_text.specs.Entering.{derivation_with}
use Rattle.derivation_text.specs.Listed.{may_have_home_among}
use Rattle.derivation_text.specs.NumbersView.{the_numbered_spare}
use Rattle.derivation_text.specs.Renumbering.{AreNew}
use Rattle.derivation_text.proofs.GrowingLaws.{spares-grown, map-whole}
use Rattle.derivation_text.proofs.Items.{all-item}
use Rattle.derivation_text.proofs.RenumberingLaws.{spare-put}
use Rattle.derivation_text.proofs.renumbering.renumber_spares.Goals as goal

pub new_home-requires-clause-among : goal.new_home-requires-clause-among
new_home-requires-clause-among c = all-item the_numbered_spare (may_have_home_among (length c.args.d.now.labels)) c.args.names.now _ c.loop-name.name-index _ (0, None) refl c.loop-name-test.true refl c.requires.among

pub loop-name-preserved : goal.loop-name-preserved
loop-name-preserved c =
    let L = c.args.d.now.labels in
    let name = get_or c.args.names.now c.loop-name.name-index (0, None) in
    let put = spare-put c.loop-name.to c.new_home.new.to c.put_spare.new.self name.0 c.in_ok-home.home (stated_home L name.1) c.in_ok-home.ensures.entered c.in_ok-home.ensures.number c.in_ok-put_spare.ensures in record {
      put = λ limit es e. spares-grown (λ x. stated_spare L (the_numbered_spare x)) c.args.names.now c.loop-name.name-index _ (0, None) limit es c.loop-name.to c.put_spare.new.self c.loop-name-test.true refl (c.loop-name.invariant.put limit es e) put;
      labels = subst (λ (d : NumberedDerivation). AreNew same_label [] L d.labels c.new_home.new.numbers) (sym c.in_ok-put_spare.ensures) c.in_ok-home.ensures.known;
      terms = ap (λ (d : NumberedDerivation). d.terms) c.in_ok-put_spare.ensures ∙ ap (λ (d : NumberedDerivation). d.terms) c.in_ok-home.ensures.entered ∙ c.loop-name.invariant.terms;
    }

pub returns-clause-put : goal.returns-clause-put
returns-clause-put c = λ limit es e.
    let L = c.args.d.now.labels in
    c.loop-name.invariant.put limit es e ∙ ap (λ l. numbering (derivation_with limit es l [])) (map-whole (λ x. stated_spare L (the_numbered_spare x)) c.args.names.now c.loop-name.name-index c.loop-name-test.false ∙ map-composed the_numbered_spare (stated_spare L) c.args.names.now)
