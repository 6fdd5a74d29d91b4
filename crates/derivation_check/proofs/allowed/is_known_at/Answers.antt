use Rattle.std.proofs.Common.{◌∙◌, ap, get_or, not, subst, sym}
use Rattle.derivation_check.specs.ArgumentView.{the_argument}
use Rattle.derivation_check.specs.HomesView.{is_known_at}
use Rattle.derivation_check.specs.NamesTold.{AreNamesOf, IsNamed}
use Rattle.derivation_check.proofs.NamesLaws.{unknown-of}
use Rattle.derivation_check.proofs.allowed.is_known_at.Goals as goal

pub bounds-named-place : goal.bounds-named-place
bounds-named-place c = (subst (IsNamed c.args.homes.now c.args.named.now) c.in-Term.is c.requires).0

pub returns-in-Term : goal.returns-in-Term
returns-in-Term c =
    let homes = c.args.homes.now in
    let t = c.in-Term.field-0.now in
    let x = get_or c.args.named.now c.in-Term.place c.index-named-place.result in
    let told = subst (AreNamesOf homes t) c.index-named-place.is ((subst (IsNamed homes c.args.named.now) c.in-Term.is c.requires).1 c.index-named-place.result c.index-named-place.is) in
    ap not (sym (unknown-of homes t x told)) ∙ ap (λ y. is_known_at homes (the_argument y)) (sym c.in-Term.is)
