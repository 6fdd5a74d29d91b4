use Rattle.std.proofs.Common.{◌≡◌, ◌<◌, ◌∷◌, [], get_or, length, refl, ap, ◌∙◌, subst, sym}
use Rattle.label_table.proofs.TableLaws.{longer-self}
use Rattle.formula_core.specs.ComponentsView.{the_signed}
use Rattle.godel_transfer.specs.BranchView.{branches_of, entry_by, put_one, the_branch, waiting_in}
use Rattle.godel_transfer.specs.declared.branches.Branches.{Branches}
use Rattle.godel_transfer.proofs.BranchUpdates.{added-shown, passed-kept}
use Rattle.godel_transfer.proofs.using.add_component.Goals as goal

pub returns-clause-added : goal.returns-clause-added
returns-clause-added c =
    let old = c.args.branches.now in
    let new : Branches = record { is_open = old.is_open; entries = c.push.new.self; count = c.in_ok-place.place; characters = old.characters; eigens = old.eigens; forks = old.forks; labels = old.labels } in
    let part = the_signed c.args.part in
    let at = c.component.ensures.label in
    let entry = c.component.ensures.entry old.labels ∙ ap (λ k. entry_by (get_or old.labels k []) part) (sym at) in
    let r = added-shown old new c.component.result part c.requires.is_open refl refl c.in_ok-push.ensures.items c.in_ok-place.ensures refl refl refl entry (c.component.ensures.place ∙ c.in_ok-place.ensures) c.requires.kept in
    subst (λ k. branches_of new ≡ put_one (the_branch old) (get_or old.labels k []) part ∷ waiting_in old) at r

pub returns-clause-kept : goal.returns-clause-kept
returns-clause-kept c =
    let old = c.args.branches.now in
    let new : Branches = record { is_open = old.is_open; entries = c.push.new.self; count = c.in_ok-place.place; characters = old.characters; eigens = old.eigens; forks = old.forks; labels = old.labels } in
    passed-kept old new c.component.result refl c.in_ok-push.ensures.items refl refl (longer-self old.labels) (subst (λ k. k < length old.labels) (sym c.component.ensures.label) c.requires.within) c.requires.kept.characters c.requires.kept.eigens c.requires.kept
