use Rattle.std.proofs.Common.{◌||◌, ◌<◌, ◌∙◌, [], ap, get_or, length, subst, sym}
use Rattle.std.specs.List.{AllByRecursion, list_any}
use Rattle.calculus.specs.Calculus.{holds_character}
use Rattle.calculus.specs.Derivations.{new_mark}
use Rattle.derivation_branch.specs.Occurring.{holds, in_argument}
use Rattle.derivation_check.specs.ArgumentView.{the_argument}
use Rattle.derivation_check.specs.HomesView.{is_in_home_at}
use Rattle.derivation_check.specs.NamesTold.{AreNamesOf, IsNamed}
use Rattle.derivation_check.proofs.NamesLaws.{homes-of, places-within}
use Rattle.derivation_check.proofs.occurring.add_argument_homes.Goals as goal

pub bounds-named-place : goal.bounds-named-place
bounds-named-place c = (subst (IsNamed c.args.homes.now c.args.named.now) c.in-Term.is c.requires.named).0

pub add_homes-requires-clause-homes : goal.add_homes-requires-clause-homes
add_homes-requires-clause-homes c =
    let t = c.in-Term.field-0.now in
    let x = get_or c.args.named.now c.in-Term.place c.index-named-place.result in
    let told = subst (AreNamesOf c.args.homes.now t) c.index-named-place.is ((subst (IsNamed c.args.homes.now c.args.named.now) c.in-Term.is c.requires.named).1 c.index-named-place.result c.index-named-place.is) in
    subst (AllByRecursion (λ k. k < length c.args.labels.now)) (sym c.as_slice.ensures.value) (places-within c.requires.homes.0 c.args.labels.now c.args.homes.now t x c.requires.homes.1 told)

pub returns-in_ok-add_homes-in-Term-clause-held : goal.returns-in_ok-add_homes-in-Term-clause-held
returns-in_ok-add_homes-in-Term-clause-held c = λ n.
    let labels = c.args.labels.now in
    let homes = c.args.homes.now in
    let t = c.in-Term.field-0.now in
    let x = get_or c.args.named.now c.in-Term.place c.index-named-place.result in
    let told = subst (AreNamesOf homes t) c.index-named-place.is ((subst (IsNamed homes c.args.named.now) c.in-Term.is c.requires.named).1 c.index-named-place.result c.index-named-place.is) in
    c.in_ok-add_homes-in-Term.ensures.held n
    ∙ ap (λ b. holds c.args.marks.now n || b) (ap (list_any (λ k. holds_character (new_mark n) (get_or labels k []))) c.as_slice.ensures.value ∙ sym (homes-of labels homes (new_mark n) t x told) ∙ ap (λ y. in_argument (is_in_home_at labels homes (new_mark n)) (the_argument y)) (sym c.in-Term.is))
