use Rattle.derivation_check.proofs.ToldLaws.{told-more}
use Rattle.derivation_check.proofs.occurring.add_modal.Goals as goal

pub returns-in_ok-add-in-New-clause-told : goal.returns-in_ok-add-in-New-clause-told
returns-in_ok-add-in-New-clause-told c = told-more c.args.labels.now c.args.marks.now c.add.new.self c.args.told.now c.in_ok-add-in-New.ensures.kept c.requires.told
