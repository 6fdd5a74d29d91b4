use Rattle.std.proofs.Common.{◌∙◌, subst, sym}
use Rattle.derivation_check.specs.ToldView.{AreTold}
use Rattle.derivation_check.proofs.ToldLaws.{held-there, there-held, told-counted, told-found, told-more, told-put}
use Rattle.derivation_check.proofs.occurring.add_label.Goals as goal

pub returns-then-has-clause-held : goal.returns-then-has-clause-held
returns-then-has-clause-held c = there-held c.args.labels.now c.args.marks.now c.args.place (told-found c.args.labels.now c.args.marks.now c.args.place c.args.told.now c.requires.told (sym c.has.ensures ∙ c.if-has.true))

pub add-requires-clause-counted : goal.add-requires-clause-counted
add-requires-clause-counted c =
    let marks = c.add_marks.new.marks in
    told-counted c.args.labels.now marks c.in_ok-count.count c.args.told.now (told-more c.args.labels.now c.args.marks.now marks c.args.told.now c.in_ok-add_marks.ensures.kept c.requires.told) c.in_ok-count.ensures

pub returns-clause-told : goal.returns-clause-told
returns-clause-told c =
    let labels = c.args.labels.now in
    let marks = c.add_marks.new.marks in
    let told = told-more labels c.args.marks.now marks c.args.told.now c.in_ok-add_marks.ensures.kept c.requires.told in
    subst (AreTold labels marks) (sym c.in_ok-add.ensures) (told-put labels marks c.args.place c.in_ok-count.count c.args.told.now told c.requires.within c.in_ok-count.ensures (held-there labels c.args.marks.now marks c.args.place c.in_ok-add_marks.ensures.held))
