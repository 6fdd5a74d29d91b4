use Rattle.std.proofs.Common.{get_or, [], length, ap, refl, sym, subst, ◌∙◌}
use Rattle.plain_laws.proofs.Lists.{map-composed}
use Rattle.calculus.specs.Versions.{NumberedDerivation, numbered, numbering, same_label, stated_eigen}
use Rattle.derivation_text.specs.Entering.{derivation_with}
use Rattle.derivation_text.specs.Listed.{has_home_among}
use Rattle.derivation_text.specs.NumbersView.{the_numbered_eigen}
use Rattle.derivation_text.specs.Renumbering.{AreNew}
use Rattle.derivation_text.proofs.GrowingLaws.{eigens-grown, map-whole}
use Rattle.derivation_text.proofs.Items.{all-item}
use Rattle.derivation_text.proofs.NumberingLaws.{same_label-tells}
use Rattle.derivation_text.proofs.RenumberingLaws.{eigen-put, new-among}
use Rattle.derivation_text.proofs.renumbering.renumber_eigens.Goals as goal

pub new_label-requires-clause-among : goal.new_label-requires-clause-among
new_label-requires-clause-among c = all-item the_numbered_eigen (has_home_among (length c.args.d.now.labels)) c.args.names.now _ c.loop-name.name-index _ (0, 0) refl c.loop-name-test.true refl c.requires.among

pub put_eigen-requires : goal.put_eigen-requires
put_eigen-requires c = new-among same_label same_label-tells c.new_label.new.to.labels (numbered c.args.d.now.labels (get_or c.args.names.now c.loop-name.name-index (0, 0)).1 []) c.in_ok-home.home c.in_ok-home.ensures.number

pub loop-name-preserved : goal.loop-name-preserved
loop-name-preserved c =
    let L = c.args.d.now.labels in
    let name = get_or c.args.names.now c.loop-name.name-index (0, 0) in
    let put = eigen-put c.loop-name.to c.new_label.new.to c.put_eigen.new.self name.0 c.in_ok-home.home (numbered L name.1 []) c.in_ok-home.ensures.entered c.in_ok-home.ensures.number c.in_ok-put_eigen.ensures in record {
      put = λ limit e. eigens-grown (λ x. stated_eigen L (the_numbered_eigen x)) c.args.names.now c.loop-name.name-index _ (0, 0) limit c.loop-name.to c.put_eigen.new.self c.loop-name-test.true refl (c.loop-name.invariant.put limit e) put;
      labels = subst (λ (d : NumberedDerivation). AreNew same_label [] L d.labels c.new_label.new.numbers) (sym c.in_ok-put_eigen.ensures) c.in_ok-home.ensures.known;
      terms = ap (λ (d : NumberedDerivation). d.terms) c.in_ok-put_eigen.ensures ∙ ap (λ (d : NumberedDerivation). d.terms) c.in_ok-home.ensures.entered ∙ c.loop-name.invariant.terms;
    }

pub returns-clause-put : goal.returns-clause-put
returns-clause-put c = λ limit e.
    let L = c.args.d.now.labels in
    c.loop-name.invariant.put limit e ∙ ap (λ l. numbering (derivation_with limit l [] [])) (map-whole (λ x. stated_eigen L (the_numbered_eigen x)) c.args.names.now c.loop-name.name-index c.loop-name-test.false ∙ map-composed the_numbered_eigen (stated_eigen L) c.args.names.now)
