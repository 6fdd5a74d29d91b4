use Rattle.std.proofs.Common.{[], ◌∷◌, ◌++◌, sym, ◌∙◌, ap, subst}
use Rattle.calculus.specs.Syntax.{spare}
use Rattle.derivation_text.specs.Listing.{AreWithin, items_at}
use Rattle.derivation_text.proofs.EnteredLaws.{on-err}
use Rattle.derivation_text.proofs.TermKeys.{key-at, keys-apart, keys-longer}
use Rattle.derivation_text.proofs.PlaceLaws.{grown-within, listed-end, items-longer}
use Rattle.derivation_text.proofs.term_list.TermList.push.Goals as goal

pub invariant_of-self-in_err-list : goal.invariant_of-self-in_err-list
invariant_of-self-in_err-list c =
    let grown = keys-longer c.self.inside.rows.keys c.insert_full.new.self.keys c.args.row c.in_ok-place.ensures.keys in
    (subst (AreWithin c.insert_full.new.self.keys) (sym c.in_err-list.ensures.err) (grown-within c.self.inside.rows.keys c.insert_full.new.self.keys c.self.inside.places grown c.self.invariant.0), keys-apart c.insert_full.new.self.keys c.in_ok-place.ensures.unique)

pub returns-in_err-list-clause-err : goal.returns-in_err-list-clause-err
returns-in_err-list-clause-err c =
    on-err c.from_residual-in_err-list.result _
    (ap (items_at c.insert_full.new.self.keys (spare 0)) c.in_err-list.ensures.err ∙ items-longer c.self.inside.rows.keys c.insert_full.new.self.keys (spare 0) c.self.inside.places (keys-longer c.self.inside.rows.keys c.insert_full.new.self.keys c.args.row c.in_ok-place.ensures.keys) c.self.invariant.0 ∙ c.self.view_is)

pub invariant_of-self-2 : goal.invariant_of-self-2
invariant_of-self-2 c =
    let stored = c.in_ok-place.ensures.stored in
    let at = key-at c.insert_full.new.self.keys c.args.row stored.0 c.in_ok-place.place stored.1 stored.2 in
    let listed = listed-end c.self.inside.rows.keys c.insert_full.new.self.keys (spare 0) c.self.inside.places c.list.new.self c.in_ok-place.place c.args.row (keys-longer c.self.inside.rows.keys c.insert_full.new.self.keys c.args.row c.in_ok-place.ensures.keys) c.self.invariant.0 c.in_ok-place.ensures.within at c.in_ok-list.ensures.listed in
    (listed.within, keys-apart c.insert_full.new.self.keys c.in_ok-place.ensures.unique)

pub returns-clause-ok : goal.returns-clause-ok
returns-clause-ok c =
    let stored = c.in_ok-place.ensures.stored in
    let at = key-at c.insert_full.new.self.keys c.args.row stored.0 c.in_ok-place.place stored.1 stored.2 in
    let listed = listed-end c.self.inside.rows.keys c.insert_full.new.self.keys (spare 0) c.self.inside.places c.list.new.self c.in_ok-place.place c.args.row (keys-longer c.self.inside.rows.keys c.insert_full.new.self.keys c.args.row c.in_ok-place.ensures.keys) c.self.invariant.0 c.in_ok-place.ensures.within at c.in_ok-list.ensures.listed in
    listed.items ∙ ap (λ l. l ++ c.args.row ∷ []) c.self.view_is
