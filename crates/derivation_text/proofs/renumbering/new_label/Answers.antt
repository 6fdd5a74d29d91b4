use Rattle.std.proofs.Common.{get_or, length, ap, refl, ◌-◌, ◌∙◌, []}
use Rattle.calculus.specs.Versions.{NumberedDerivation, is_among, number_in, numbered, same_label}
use Rattle.derivation_text.proofs.NumberingLaws.{same_label-tells}
use Rattle.derivation_text.specs.Entering.{with_label}
use Rattle.derivation_text.specs.Renumbering.{with_labels}
use Rattle.derivation_text.proofs.RenumberingLaws.{entered-known, fresh-item, known-item, new-entered}
use Rattle.derivation_text.proofs.renumbering.new_label.Goals as goal

pub returns-then-known-gt0-clause-number : goal.returns-then-known-gt0-clause-number
returns-then-known-gt0-clause-number c = known-item same_label [] c.args.d.now.labels c.args.to.now.labels c.args.numbers.now c.args.old (c.args.old - 1) _ c.requires.known c.requires.among refl refl c.if-known-gt0.true

pub returns-then-known-gt0-clause-entered : goal.returns-then-known-gt0-clause-entered
returns-then-known-gt0-clause-entered c =
    let x = numbered c.args.d.now.labels c.args.old [] in
    ap (λ xs. with_labels c.args.to.now xs) (entered-known same_label c.args.to.now.labels x (get_or c.args.numbers.now (c.args.old - 1) 0) (known-item same_label [] c.args.d.now.labels c.args.to.now.labels c.args.numbers.now c.args.old (c.args.old - 1) _ c.requires.known c.requires.among refl refl c.if-known-gt0.true))

pub returns-clause-entered : goal.returns-clause-entered
returns-clause-entered c =
    let x = c.in_ok-label.ensures ∙ ap (λ l. numbered l c.args.old []) c.labels.ensures.list in
    c.in_ok-number.ensures.entered ∙ ap (λ w. with_labels c.args.to.now (with_label c.args.to.now.labels w)) x

pub returns-clause-number : goal.returns-clause-number
returns-clause-number c =
    let x = c.in_ok-label.ensures ∙ ap (λ l. numbered l c.args.old []) c.labels.ensures.list in
    let y = c.enter_label.new.self in
    new-entered same_label same_label-tells c.args.to.now.labels y.labels (numbered c.args.d.now.labels c.args.old []) c.in_ok-number.number (ap (λ (d : NumberedDerivation). d.labels) (c.in_ok-number.ensures.entered ∙ ap (λ w. with_labels c.args.to.now (with_label c.args.to.now.labels w)) x)) (c.in_ok-number.ensures.number ∙ ap (number_in same_label y.labels) x)

pub returns-clause-known : goal.returns-clause-known
returns-clause-known c =
    let x = c.in_ok-label.ensures ∙ ap (λ l. numbered l c.args.old []) c.labels.ensures.list in
    let y = c.enter_label.new.self in
    fresh-item same_label same_label-tells [] c.args.d.now.labels c.args.to.now.labels y.labels c.args.numbers.now c.args.old (c.args.old - 1) c.in_ok-number.number c.requires.known c.requires.among refl (ap (λ (d : NumberedDerivation). d.labels) (c.in_ok-number.ensures.entered ∙ ap (λ w. with_labels c.args.to.now (with_label c.args.to.now.labels w)) x)) (c.in_ok-number.ensures.number ∙ ap (number_in same_label y.labels) x)

pub label-requires : goal.label-requires
label-requires c = ap (λ l. is_among (length l) c.args.old) c.labels.ensures.list ∙ c.requires.among
