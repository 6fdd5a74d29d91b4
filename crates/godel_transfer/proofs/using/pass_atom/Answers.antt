use Rattle.std.proofs.Common.{refl}
use Rattle.godel_transfer.specs.declared.branches.Entry.{Entry}
use Rattle.godel_transfer.specs.declared.branches.Branches.{Branches}
use Rattle.sequent_calc.specs.StepView.{the_modal}
use Rattle.godel_transfer.proofs.BranchUpdates.{passed-kept, passed-shown}
use Rattle.godel_transfer.proofs.using.pass_atom.Goals as goal

pub returns-clause-passed : goal.returns-clause-passed
returns-clause-passed c =
    let old = c.args.branches.now in
    let new : Branches = record { is_open = old.is_open; entries = c.push.new.self; count = old.count; characters = old.characters; eigens = old.eigens; forks = old.forks; labels = c.label_after_atom.new.labels } in
    let x : Entry = record { sign = c.args.used.sign; formula = c.args.used.formula; label = c.in_ok-label.label; place = c.args.used.place } in
    passed-shown old new c.args.used x (the_modal c.args.modal.now) c.requires.is_open refl refl c.in_ok-push.ensures.items refl refl refl c.in_ok-label.ensures.grown refl refl refl c.in_ok-label.ensures.place.1 c.requires.atom c.requires.kept

pub returns-clause-kept : goal.returns-clause-kept
returns-clause-kept c =
    let old = c.args.branches.now in
    let new : Branches = record { is_open = old.is_open; entries = c.push.new.self; count = old.count; characters = old.characters; eigens = old.eigens; forks = old.forks; labels = c.label_after_atom.new.labels } in
    let x : Entry = record { sign = c.args.used.sign; formula = c.args.used.formula; label = c.in_ok-label.label; place = c.args.used.place } in
    passed-kept old new x refl c.in_ok-push.ensures.items refl refl c.in_ok-label.ensures.grown c.in_ok-label.ensures.place.0 c.requires.kept.characters c.requires.kept.eigens c.requires.kept
