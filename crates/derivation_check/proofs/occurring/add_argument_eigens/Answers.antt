use Rattle.std.proofs.Common.{◌||◌, ◌∙◌, ap, subst, sym}
use Rattle.calculus.specs.Calculus.{is_eigen}
use Rattle.derivation_branch.specs.Occurring.{holds, in_argument}
use Rattle.derivation_check.specs.ArgumentView.{the_argument}
use Rattle.derivation_check.specs.NamesTold.{AreNamesOf, IsNamed}
use Rattle.derivation_check.proofs.occurring.add_argument_eigens.Goals as goal

pub bounds-named-place : goal.bounds-named-place
bounds-named-place c = (subst (IsNamed c.requires.0 c.args.named.now) c.in-Term.is c.requires.1).0

pub returns-in_ok-add_all-in-Term-clause-held : goal.returns-in_ok-add_all-in-Term-clause-held
returns-in_ok-add_all-in-Term-clause-held c = λ n.
    let t = c.in-Term.field-0.now in
    let told = subst (AreNamesOf c.requires.0 t) c.index-named-place.is ((subst (IsNamed c.requires.0 c.args.named.now) c.in-Term.is c.requires.1).1 c.index-named-place.result c.index-named-place.is) in
    c.in_ok-add_all-in-Term.ensures.held n
    ∙ ap (λ b. holds c.args.eigens.now n || b) (ap (λ ks. holds ks n) c.as_slice.ensures.value ∙ sym (told.eigen n) ∙ ap (λ y. in_argument (is_eigen n) (the_argument y)) (sym c.in-Term.is))
