use Rattle.std.proofs.Common.{◌∙◌, [], ap, get_or, subst, sym}
use Rattle.calculus.specs.Calculus.{term_allowed}
use Rattle.derivation_check.specs.ArgumentView.{the_argument}
use Rattle.derivation_check.specs.NamesTold.{IsNamed, any_told, forbids}
use Rattle.derivation_check.proofs.HomesLaws.{allowed-told}
use Rattle.derivation_check.proofs.NamesLaws.{forbidden-of, places-within}
use Rattle.derivation_check.proofs.allowed.term_allowed.Goals as goal

pub bounds-named-place : goal.bounds-named-place
bounds-named-place c = (subst (IsNamed c.requires.named.1 c.args.named.now) c.in-Term.is c.requires.named.3).0

pub is_allowed-requires-clause-homes : goal.is_allowed-requires-clause-homes
is_allowed-requires-clause-homes c =
    let told = (subst (IsNamed c.requires.named.1 c.args.named.now) c.in-Term.is c.requires.named.3).1 c.index-named-place.result c.index-named-place.is in
    places-within c.requires.named.0 c.args.labels.now c.requires.named.1 c.in-Term.field-0.now c.index-named-place.result c.requires.named.2 told

pub returns-in-Term : goal.returns-in-Term
returns-in-Term c = λ names homes h named.
    let P = c.args.problem.now in
    let labels = c.args.labels.now in
    let v = get_or labels c.args.at [] in
    let x = c.index-named-place.result in
    let told = (subst (IsNamed homes c.args.named.now) c.in-Term.is named).1 x c.index-named-place.is in
    c.is_allowed.ensures ∙ allowed-told P names labels homes v h c.in-Term.field-0.now (any_told (forbids P labels v) x) (sym (forbidden-of P labels homes v c.in-Term.field-0.now x told)) ∙ ap (λ y. term_allowed P names v (the_argument y)) (sym c.in-Term.is)
