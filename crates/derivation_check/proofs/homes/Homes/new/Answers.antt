use Rattle.std.proofs.Common.{◌∙◌, IsTrue, ap, length, map, subst, sym}
use Rattle.std.specs.List.{list_all}
use Rattle.calculus.specs.Versions.{stated_eigen, stated_spare}
use Rattle.derivation_text.specs.Listed.{has_home_among, may_have_home_among}
use Rattle.derivation_text.specs.NumbersView.{the_numbered_eigen, the_numbered_spare}
use Rattle.derivation_check.specs.HomesView.{AreEigenHomes, AreSpareHomes}
use Rattle.derivation_check.proofs.HomesLaws.{map-twice}
use Rattle.derivation_check.proofs.homes.Homes.new.Goals as goal

pub add_eigens-requires-clause-among : goal.add_eigens-requires-clause-among
add_eigens-requires-clause-among c = subst (λ n. IsTrue (list_all (has_home_among n) (map the_numbered_eigen c.eigens.result.now))) (sym c.requires) (subst (λ xs. IsTrue (list_all (has_home_among (length c.args.d.now.labels)) xs)) (sym c.eigens.ensures.view) c.eigens.ensures.among)

pub add_spares-requires-clause-among : goal.add_spares-requires-clause-among
add_spares-requires-clause-among c = subst (λ n. IsTrue (list_all (may_have_home_among n) (map the_numbered_spare c.spares.result.now))) (sym c.requires) (subst (λ xs. IsTrue (list_all (may_have_home_among (length c.args.d.now.labels)) xs)) (sym c.spares.ensures.view) c.spares.ensures.among)

pub returns : goal.returns
returns c = λ table h.
    let x = c.args.d.now in
    record {
      eigens = subst (AreEigenHomes table c.add_eigens.new.homes) (sym (map-twice (stated_eigen x.labels) the_numbered_eigen c.eigens.result.now) ∙ ap (map (stated_eigen x.labels)) c.eigens.ensures.view) (c.in_ok-add_eigens.ensures x.labels table h);
      spares = subst (AreSpareHomes table c.add_spares.new.homes) (sym (map-twice (stated_spare x.labels) the_numbered_spare c.spares.result.now) ∙ ap (map (stated_spare x.labels)) c.spares.ensures.view) (c.in_ok-add_spares.ensures x.labels table h);
    }
