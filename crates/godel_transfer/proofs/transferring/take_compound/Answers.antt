use Rattle.std.proofs.Common.{◌≡◌, ◌++◌, [], OnOk, subst}
use Rattle.godel_transfer.specs.BranchView.{branches_of, the_branch, the_entry, waiting_in}
use Rattle.godel_transfer.specs.Sketch.{grown}
use Rattle.sequent_calc.specs.StepView.{the_modal, the_term_arg}
use Rattle.godel_transfer.proofs.BranchUpdates.{entry-longer}
use Rattle.godel_transfer.proofs.GrownLaws.{longer-branch, longer-kept, longer-waiting}
use Rattle.godel_transfer.proofs.transferring.take_compound.Goals as goal

pub grow-requires-clause-kept : goal.grow-requires-clause-kept
grow-requires-clause-kept c = longer-kept c.args.branches.now c.label_after.new.labels c.in_ok-label.ensures.grown c.requires.kept

pub returns-clause-branches : goal.returns-clause-branches
returns-clause-branches c =
    let old = c.args.branches.now in
    let more = c.label_after.new.labels in
    let m = the_modal c.args.modal.now in
    let t = the_term_arg c.args.term.now in
    let long = c.in_ok-label.ensures.grown in
    let branch = longer-branch old more long c.requires.kept in
    let wait = longer-waiting old more long c.requires.kept in
    let used = entry-longer old.labels more c.args.used long c.requires.within in
    subst (λ bs. OnOk c.grow.result (branches_of c.grow.new.branches ≡ bs))
    (λ i. grown (branch i) c.args.number c.args.used.place (used i) m t ++ wait i) c.grow.ensures.grown
