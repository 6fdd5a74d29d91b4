use Rattle.std.proofs.Common.{◌≡◌, ◌++◌, [], get_or, IfOk, sym, ◌∙◌, ap, subst, append-nil}
use Rattle.calculus.specs.Derivations as derivation
use Rattle.label_table.specs.LabelTable.{IsLabelAt}
use Rattle.godel_transfer.specs.BranchView.{the_characters}
use Rattle.godel_transfer.specs.ImagesView.{images_of}
use Rattle.godel_transfer.specs.Transfer.{mark_image}
use Rattle.logic_rules.specs.MarkView.{the_character}
use Rattle.godel_transfer.proofs.ImagesLaws.{mark-some, mark-none, mark-spare}
use Rattle.godel_transfer.proofs.using.add_mark_image.Goals as goal

pub returns-in-Some-clause-place : goal.returns-in-Some-clause-place
returns-in-Some-clause-place c =
    let e = (λ i. mark_image (the_characters c.args.characters.now) (the_character (c.in-New.is i))) ∙ mark-some (images_of c.args.characters.now) c.in-New.number c.in-Some.image (sym c.find.ensures ∙ c.in-Some.is) in
    subst (λ (l : derivation.Label). IfOk c.extend.result (λ k. IsLabelAt c.extend.new.self k (get_or c.args.labels.now c.args.front [] ++ l))) (sym e) c.extend.ensures.place

pub returns-in-None-clause-place : goal.returns-in-None-clause-place
returns-in-None-clause-place c =
    let e = (λ i. mark_image (the_characters c.args.characters.now) (the_character (c.in-New.is i))) ∙ mark-none (images_of c.args.characters.now) c.in-New.number (sym c.find.ensures ∙ c.in-None.is) in
    (c.requires.within, sym (ap (λ (l : derivation.Label). get_or c.args.labels.now c.args.front [] ++ l) e ∙ append-nil (get_or c.args.labels.now c.args.front [])))

pub returns-in-Spare-clause-place : goal.returns-in-Spare-clause-place
returns-in-Spare-clause-place c =
    let e = (λ i. mark_image (the_characters c.args.characters.now) (the_character (c.in-Spare.is i))) ∙ mark-spare (images_of c.args.characters.now) c.in-Spare.field-0 in
    (c.requires.within, sym (ap (λ (l : derivation.Label). get_or c.args.labels.now c.args.front [] ++ l) e ∙ append-nil (get_or c.args.labels.now c.args.front [])))
