use Rattle.std.proofs.Common.{sym, ◌∙◌, ap, subst, arith}
use Rattle.calculus.proofs.EqualityLaws.{term_eq-tells}
use Rattle.calculus.specs.Equality.{term_eq}
use Rattle.derivation_text.specs.Entering.{entered}
use Rattle.calculus.specs.Syntax.{spare}
use Rattle.derivation_text.specs.Listing.{AreWithin, items_at}
use Rattle.derivation_text.proofs.EnteredLaws.{on-err}
use Rattle.derivation_text.proofs.TermKeys.{key-at, keys-apart, keys-longer}
use Rattle.derivation_text.proofs.PlaceLaws.{entered-new, entered-old, grown-within, listed-end, items-longer}
use Rattle.derivation_text.proofs.term_list.TermList.enter.Goals as goal

pub invariant_of-self-then-known-gt0 : goal.invariant_of-self-then-known-gt0
invariant_of-self-then-known-gt0 c = (grown-within c.self.inside.rows.keys c.insert_full.new.self.keys c.self.inside.places (keys-longer c.self.inside.rows.keys c.insert_full.new.self.keys c.args.row c.in_ok-place.ensures.keys) c.self.invariant.0, keys-apart c.insert_full.new.self.keys c.in_ok-place.ensures.unique)

pub returns-then-known-gt0-clause-listed : goal.returns-then-known-gt0-clause-listed
returns-then-known-gt0-clause-listed c =
    let stored = c.in_ok-place.ensures.stored in
    let at = key-at c.insert_full.new.self.keys c.args.row stored.0 c.in_ok-place.place stored.1 stored.2 in
    let old = entered-old term_eq term_eq-tells c.self.inside.rows.keys c.insert_full.new.self.keys (spare 0) (keys-longer c.self.inside.rows.keys c.insert_full.new.self.keys c.args.row c.in_ok-place.ensures.keys) (keys-apart c.insert_full.new.self.keys c.in_ok-place.ensures.unique) c.self.inside.places c.in_ok-place.place c.number-known.result c.args.row c.self.invariant.0 c.in_ok-place.ensures.within at c.number-known.ensures c.if-known-gt0.true in
    old.listed ∙ ap (λ l. entered term_eq l c.args.row) c.self.view_is

pub returns-then-known-gt0-clause-number : goal.returns-then-known-gt0-clause-number
returns-then-known-gt0-clause-number c =
    let stored = c.in_ok-place.ensures.stored in
    let at = key-at c.insert_full.new.self.keys c.args.row stored.0 c.in_ok-place.place stored.1 stored.2 in
    let old = entered-old term_eq term_eq-tells c.self.inside.rows.keys c.insert_full.new.self.keys (spare 0) (keys-longer c.self.inside.rows.keys c.insert_full.new.self.keys c.args.row c.in_ok-place.ensures.keys) (keys-apart c.insert_full.new.self.keys c.in_ok-place.ensures.unique) c.self.inside.places c.in_ok-place.place c.number-known.result c.args.row c.self.invariant.0 c.in_ok-place.ensures.within at c.number-known.ensures c.if-known-gt0.true in
    old.number

pub invariant_of-self-in_err-number : goal.invariant_of-self-in_err-number
invariant_of-self-in_err-number c =
    (subst (AreWithin c.insert_full.new.self.keys) (sym c.in_err-number.ensures.err) (grown-within c.self.inside.rows.keys c.insert_full.new.self.keys c.self.inside.places (keys-longer c.self.inside.rows.keys c.insert_full.new.self.keys c.args.row c.in_ok-place.ensures.keys) c.self.invariant.0), keys-apart c.insert_full.new.self.keys c.in_ok-place.ensures.unique)

pub returns-in_err-number-clause-err : goal.returns-in_err-number-clause-err
returns-in_err-number-clause-err c =
    on-err c.from_residual-in_err-number.result _
    (ap (items_at c.insert_full.new.self.keys (spare 0)) c.in_err-number.ensures.err ∙ items-longer c.self.inside.rows.keys c.insert_full.new.self.keys (spare 0) c.self.inside.places (keys-longer c.self.inside.rows.keys c.insert_full.new.self.keys c.args.row c.in_ok-place.ensures.keys) c.self.invariant.0 ∙ c.self.view_is)

pub invariant_of-self-2 : goal.invariant_of-self-2
invariant_of-self-2 c =
    let stored = c.in_ok-place.ensures.stored in
    let at = key-at c.insert_full.new.self.keys c.args.row stored.0 c.in_ok-place.place stored.1 stored.2 in
    let listed = listed-end c.self.inside.rows.keys c.insert_full.new.self.keys (spare 0) c.self.inside.places c.list.new.self c.in_ok-place.place c.args.row (keys-longer c.self.inside.rows.keys c.insert_full.new.self.keys c.args.row c.in_ok-place.ensures.keys) c.self.invariant.0 c.in_ok-place.ensures.within at c.in_ok-number.ensures.listed in
    (listed.within, keys-apart c.insert_full.new.self.keys c.in_ok-place.ensures.unique)

pub returns-clause-listed : goal.returns-clause-listed
returns-clause-listed c =
    let stored = c.in_ok-place.ensures.stored in
    let at = key-at c.insert_full.new.self.keys c.args.row stored.0 c.in_ok-place.place stored.1 stored.2 in
    let end = c.if-known-gt0.false in
    let new = entered-new term_eq term_eq-tells c.self.inside.rows.keys c.insert_full.new.self.keys (spare 0) (keys-longer c.self.inside.rows.keys c.insert_full.new.self.keys c.args.row c.in_ok-place.ensures.keys) (keys-apart c.insert_full.new.self.keys c.in_ok-place.ensures.unique) c.self.inside.places c.list.new.self c.in_ok-place.place c.number-known.result c.in_ok-number.number c.args.row c.self.invariant.0 c.in_ok-place.ensures.within at c.number-known.ensures (omega (arith, end)) c.in_ok-number.ensures.listed c.in_ok-number.ensures.number in
    new.listed ∙ ap (λ l. entered term_eq l c.args.row) c.self.view_is

pub returns-clause-number : goal.returns-clause-number
returns-clause-number c =
    let stored = c.in_ok-place.ensures.stored in
    let at = key-at c.insert_full.new.self.keys c.args.row stored.0 c.in_ok-place.place stored.1 stored.2 in
    let end = c.if-known-gt0.false in
    let new = entered-new term_eq term_eq-tells c.self.inside.rows.keys c.insert_full.new.self.keys (spare 0) (keys-longer c.self.inside.rows.keys c.insert_full.new.self.keys c.args.row c.in_ok-place.ensures.keys) (keys-apart c.insert_full.new.self.keys c.in_ok-place.ensures.unique) c.self.inside.places c.list.new.self c.in_ok-place.place c.number-known.result c.in_ok-number.number c.args.row c.self.invariant.0 c.in_ok-place.ensures.within at c.number-known.ensures (omega (arith, end)) c.in_ok-number.ensures.listed c.in_ok-number.ensures.number in
    new.number
