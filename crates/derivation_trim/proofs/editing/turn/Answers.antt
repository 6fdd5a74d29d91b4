use Rattle.sequent_calc.specs.StepView.{the_step}
use Rattle.derivation_trim.specs.PlaceView.{the_place, the_splits}
use Rattle.derivation_trim.proofs.EditLaws.{turned-keep, turned-skip}
use Rattle.derivation_trim.proofs.editing.turn.Goals as goal

pub returns-in_ok-keep-in-Keep : goal.returns-in_ok-keep-in-Keep
returns-in_ok-keep-in-Keep c = λ xs go fits.
    let w = the_place c.args.branch.now.items c.args.parents.now.items c.args.table.now.items c.args.forks.now.items in
    let v = the_place c.keep.new.branch.items c.keep.new.parents.items c.keep.new.table.items c.keep.new.forks.items in
    turned-keep c.args.logic c.args.edit (the_step c.args.step.now) xs w v go c.args.out.now c.keep.new.out c.in-Keep.is (c.in_ok-keep-in-Keep.ensures c.args.logic xs go)

pub returns-in_ok-fits-in-Skip : goal.returns-in_ok-fits-in-Skip
returns-in_ok-fits-in-Skip c = λ xs go fits.
    let fs = the_splits c.args.forks.now.items in
    turned-skip c.args.logic c.args.edit c.in-Skip.first (the_step c.args.step.now) xs _ c.args.branch.now.items _ c.args.parents.now.items c.args.table.now.items c.skip.new.table.items fs go c.args.out.now c.in-Skip.is
    c.as_slice.ensures.value c.as_slice-in-Skip.ensures.value (c.in_ok-fits-in-Skip.ensures c.args.logic xs fs go fits)
