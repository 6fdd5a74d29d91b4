use Rattle.std.proofs.Common.{◌≡◌, ◌++◌, OnOk, sym, ◌∙◌, ap, subst, append-nil}
use Rattle.calculus.specs.Derivations as derivation
use Rattle.godel_transfer.specs.BranchView.{the_characters}
use Rattle.godel_transfer.specs.ImagesView.{images_of}
use Rattle.godel_transfer.specs.Transfer.{mark_image}
use Rattle.logic_rules.specs.MarkView.{the_character}
use Rattle.godel_transfer.proofs.ImagesLaws.{mark-some, mark-none, mark-spare}
use Rattle.godel_transfer.proofs.label_image.push_image.Goals as goal

pub returns-in-Some : goal.returns-in-Some
returns-in-Some c =
    let xs = images_of c.args.characters.now in
    let e = (λ i. mark_image (the_characters c.args.characters.now) (the_character (c.in-New.is i))) ∙ mark-some xs c.in-New.number c.in-Some.image (sym c.find.ensures ∙ c.in-Some.is) in
    subst (λ (l : derivation.Label). OnOk c.push.result (c.push.new.self ≡ c.args.label.now ++ l)) (sym e) c.push.ensures.ok

pub returns-in-None : goal.returns-in-None
returns-in-None c =
    let xs = images_of c.args.characters.now in
    let e = (λ i. mark_image (the_characters c.args.characters.now) (the_character (c.in-New.is i))) ∙ mark-none xs c.in-New.number (sym c.find.ensures ∙ c.in-None.is) in
    sym (ap (λ (l : derivation.Label). c.args.label.now ++ l) e ∙ append-nil c.args.label.now)

pub returns-in-Spare : goal.returns-in-Spare
returns-in-Spare c =
    let xs = images_of c.args.characters.now in
    let e = (λ i. mark_image (the_characters c.args.characters.now) (the_character (c.in-Spare.is i))) ∙ mark-spare xs c.in-Spare.field-0 in
    sym (ap (λ (l : derivation.Label). c.args.label.now ++ l) e ∙ append-nil c.args.label.now)
