use Rattle.std.proofs.Common.{[], sym, ◌∙◌, ap, subst, arith}
use Rattle.calculus.specs.Versions.{same_label}
use Rattle.derivation_text.specs.Entering.{with_label}
use Rattle.derivation_text.specs.Listing.{AreWithin, items_at}
use Rattle.derivation_text.proofs.EnteredLaws.{on-err}
use Rattle.derivation_text.proofs.NumberingLaws.{same_label-tells}
use Rattle.derivation_text.proofs.PlaceLaws.{entered-new, entered-old, grown-within, listed-end, items-longer}
use Rattle.derivation_text.proofs.label_list.LabelList.enter.Goals as goal

pub invariant_of-self-then-known-gt0 : goal.invariant_of-self-then-known-gt0
invariant_of-self-then-known-gt0 c = (grown-within c.self.inside.table c.add.new.self c.self.inside.places c.in_ok-place.ensures.grown c.self.invariant.0, c.in_ok-place.ensures.once)

pub returns-then-known-gt0-clause-listed : goal.returns-then-known-gt0-clause-listed
returns-then-known-gt0-clause-listed c =
    let place = c.in_ok-place.ensures.place in
    let old = entered-old same_label same_label-tells c.self.inside.table c.add.new.self [] c.in_ok-place.ensures.grown c.in_ok-place.ensures.once c.self.inside.places c.in_ok-place.place c.number-known.result c.args.label.now c.self.invariant.0 place.0 place.1 c.number-known.ensures c.if-known-gt0.true in
    old.listed ∙ ap (λ l. with_label l c.args.label.now) c.self.view_is

pub returns-then-known-gt0-clause-number : goal.returns-then-known-gt0-clause-number
returns-then-known-gt0-clause-number c =
    let place = c.in_ok-place.ensures.place in
    let old = entered-old same_label same_label-tells c.self.inside.table c.add.new.self [] c.in_ok-place.ensures.grown c.in_ok-place.ensures.once c.self.inside.places c.in_ok-place.place c.number-known.result c.args.label.now c.self.invariant.0 place.0 place.1 c.number-known.ensures c.if-known-gt0.true in
    old.number

pub invariant_of-self-in_err-number : goal.invariant_of-self-in_err-number
invariant_of-self-in_err-number c =
    (subst (AreWithin c.add.new.self) (sym c.in_err-number.ensures.err) (grown-within c.self.inside.table c.add.new.self c.self.inside.places c.in_ok-place.ensures.grown c.self.invariant.0), c.in_ok-place.ensures.once)

pub returns-in_err-number-clause-err : goal.returns-in_err-number-clause-err
returns-in_err-number-clause-err c =
    on-err c.from_residual-in_err-number.result _
    (ap (items_at c.add.new.self []) c.in_err-number.ensures.err ∙ items-longer c.self.inside.table c.add.new.self [] c.self.inside.places c.in_ok-place.ensures.grown c.self.invariant.0 ∙ c.self.view_is)

pub invariant_of-self-2 : goal.invariant_of-self-2
invariant_of-self-2 c =
    let place = c.in_ok-place.ensures.place in
    let listed = listed-end c.self.inside.table c.add.new.self [] c.self.inside.places c.list.new.self c.in_ok-place.place c.args.label.now c.in_ok-place.ensures.grown c.self.invariant.0 place.0 place.1 c.in_ok-number.ensures.listed in
    (listed.within, c.in_ok-place.ensures.once)

pub returns-clause-listed : goal.returns-clause-listed
returns-clause-listed c =
    let place = c.in_ok-place.ensures.place in
    let end = c.if-known-gt0.false in
    let new = entered-new same_label same_label-tells c.self.inside.table c.add.new.self [] c.in_ok-place.ensures.grown c.in_ok-place.ensures.once c.self.inside.places c.list.new.self c.in_ok-place.place c.number-known.result c.in_ok-number.number c.args.label.now c.self.invariant.0 place.0 place.1 c.number-known.ensures (omega (arith, end)) c.in_ok-number.ensures.listed c.in_ok-number.ensures.number in
    new.listed ∙ ap (λ l. with_label l c.args.label.now) c.self.view_is

pub returns-clause-number : goal.returns-clause-number
returns-clause-number c =
    let place = c.in_ok-place.ensures.place in
    let end = c.if-known-gt0.false in
    let new = entered-new same_label same_label-tells c.self.inside.table c.add.new.self [] c.in_ok-place.ensures.grown c.in_ok-place.ensures.once c.self.inside.places c.list.new.self c.in_ok-place.place c.number-known.result c.in_ok-number.number c.args.label.now c.self.invariant.0 place.0 place.1 c.number-known.ensures (omega (arith, end)) c.in_ok-number.ensures.listed c.in_ok-number.ensures.number in
    new.number
