use Rattle.std.proofs.Common.{[], ◌∷◌, ◌++◌, sym, ◌∙◌, ap, subst}
use Rattle.derivation_text.specs.Listing.{AreWithin, items_at}
use Rattle.derivation_text.proofs.EnteredLaws.{on-err}
use Rattle.derivation_text.proofs.PlaceLaws.{grown-within, listed-end, items-longer}
use Rattle.derivation_text.proofs.label_list.LabelList.push.Goals as goal

pub invariant_of-self-in_err-list : goal.invariant_of-self-in_err-list
invariant_of-self-in_err-list c =
    let grown = c.in_ok-place.ensures.grown in
    (subst (AreWithin c.add.new.self) (sym c.in_err-list.ensures.err) (grown-within c.self.inside.table c.add.new.self c.self.inside.places grown c.self.invariant.0), c.in_ok-place.ensures.once)

pub returns-in_err-list-clause-err : goal.returns-in_err-list-clause-err
returns-in_err-list-clause-err c =
    on-err c.from_residual-in_err-list.result _
    (ap (items_at c.add.new.self []) c.in_err-list.ensures.err ∙ items-longer c.self.inside.table c.add.new.self [] c.self.inside.places c.in_ok-place.ensures.grown c.self.invariant.0 ∙ c.self.view_is)

pub invariant_of-self-2 : goal.invariant_of-self-2
invariant_of-self-2 c =
    let place = c.in_ok-place.ensures.place in
    let listed = listed-end c.self.inside.table c.add.new.self [] c.self.inside.places c.list.new.self c.in_ok-place.place c.args.label.now c.in_ok-place.ensures.grown c.self.invariant.0 place.0 place.1 c.in_ok-list.ensures.listed in
    (listed.within, c.in_ok-place.ensures.once)

pub returns-clause-ok : goal.returns-clause-ok
returns-clause-ok c =
    let place = c.in_ok-place.ensures.place in
    let listed = listed-end c.self.inside.table c.add.new.self [] c.self.inside.places c.list.new.self c.in_ok-place.place c.args.label.now c.in_ok-place.ensures.grown c.self.invariant.0 place.0 place.1 c.in_ok-list.ensures.listed in
    listed.items ∙ ap (λ l. l ++ c.args.label.now ∷ []) c.self.view_is
