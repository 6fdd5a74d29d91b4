use Rattle.std.proofs.Common.{get_or, ap, refl, ◌-◌, ◌∙◌}
use Rattle.calculus.specs.Versions.{NumberedDerivation, number_in, numbered}
use Rattle.calculus.specs.Equality.{term_eq}
use Rattle.calculus.proofs.EqualityLaws.{term_eq-tells}
use Rattle.calculus.specs.Syntax.{spare}
use Rattle.derivation_text.specs.Entering.{entered}
use Rattle.derivation_text.specs.Renumbering.{with_terms}
use Rattle.derivation_text.proofs.RenumberingLaws.{entered-known, fresh-item, known-item, new-entered}
use Rattle.derivation_text.proofs.renumbering.new_term.Goals as goal

pub returns-then-known-gt0-clause-number : goal.returns-then-known-gt0-clause-number
returns-then-known-gt0-clause-number c = known-item term_eq (spare 0) c.args.d.now.terms c.args.to.now.terms c.args.numbers.now c.args.old (c.args.old - 1) _ c.requires.known c.requires.among refl refl c.if-known-gt0.true

pub returns-then-known-gt0-clause-entered : goal.returns-then-known-gt0-clause-entered
returns-then-known-gt0-clause-entered c =
    let x = numbered c.args.d.now.terms c.args.old (spare 0) in
    ap (λ xs. with_terms c.args.to.now xs) (entered-known term_eq c.args.to.now.terms x (get_or c.args.numbers.now (c.args.old - 1) 0) (known-item term_eq (spare 0) c.args.d.now.terms c.args.to.now.terms c.args.numbers.now c.args.old (c.args.old - 1) _ c.requires.known c.requires.among refl refl c.if-known-gt0.true))

pub returns-clause-entered : goal.returns-clause-entered
returns-clause-entered c =
    let x = c.in_ok-row.ensures ∙ c.row.ensures ∙ ap (λ l. numbered l c.args.old (spare 0)) c.terms.ensures in
    c.in_ok-number.ensures.entered ∙ ap (λ w. with_terms c.args.to.now (entered term_eq c.args.to.now.terms w)) x

pub returns-clause-number : goal.returns-clause-number
returns-clause-number c =
    let x = c.in_ok-row.ensures ∙ c.row.ensures ∙ ap (λ l. numbered l c.args.old (spare 0)) c.terms.ensures in
    let y = c.enter_term.new.self in
    new-entered term_eq term_eq-tells c.args.to.now.terms y.terms (numbered c.args.d.now.terms c.args.old (spare 0)) c.in_ok-number.number (ap (λ (d : NumberedDerivation). d.terms) (c.in_ok-number.ensures.entered ∙ ap (λ w. with_terms c.args.to.now (entered term_eq c.args.to.now.terms w)) x)) (c.in_ok-number.ensures.number ∙ ap (number_in term_eq y.terms) x)

pub returns-clause-known : goal.returns-clause-known
returns-clause-known c =
    let x = c.in_ok-row.ensures ∙ c.row.ensures ∙ ap (λ l. numbered l c.args.old (spare 0)) c.terms.ensures in
    let y = c.enter_term.new.self in
    fresh-item term_eq term_eq-tells (spare 0) c.args.d.now.terms c.args.to.now.terms y.terms c.args.numbers.now c.args.old (c.args.old - 1) c.in_ok-number.number c.requires.known c.requires.among refl (ap (λ (d : NumberedDerivation). d.terms) (c.in_ok-number.ensures.entered ∙ ap (λ w. with_terms c.args.to.now (entered term_eq c.args.to.now.terms w)) x)) (c.in_ok-number.ensures.number ∙ ap (number_in term_eq y.terms) x)
