use Rattle.std.proofs.Common.{◌≡◌, ◌∷◌, ◌++◌, List, suc, subst, sym}
use Rattle.godel_transfer.specs.BranchView.{branches_of, the_branch, waiting_in}
use Rattle.godel_transfer.specs.Sketch.{names_sketched_from, sketched_from}
use Rattle.godel_transfer.specs.Transfer.{OpenBranch}
use Rattle.sequent_calc.specs.StepView.{the_step}
use Rattle.godel_transfer.proofs.SketchSteps.{names-on, names-shut, open-shown, shut-shown, sketched-on, sketched-shut}
use Rattle.godel_transfer.proofs.transferring.take_next.Goals as goal

pub returns-then-not-branches-clause-steps : goal.returns-then-not-branches-clause-steps
returns-then-not-branches-clause-steps c = λ rest. sketched-shut (branches_of c.args.branches.now) c.args.number (the_step c.args.step.now) c.args.out.now.steps rest (shut-shown c.args.branches.now c.if-not-branches.true)

pub returns-then-not-branches-clause-names : goal.returns-then-not-branches-clause-names
returns-then-not-branches-clause-names c = λ rest. names-shut (branches_of c.args.branches.now) c.args.number (the_step c.args.step.now) c.args.out.now.names.eigens rest (shut-shown c.args.branches.now c.if-not-branches.true)

pub returns-clause-steps : goal.returns-clause-steps
returns-clause-steps c = λ rest.
    let old = c.args.branches.now in
    let n = c.args.number in
    let x = the_step c.args.step.now in
    let now = branches_of c.take_step.new.branches in
    let out = c.args.out.now.steps in
    let more = c.take_step.new.out.steps in
    subst (λ (bs : List OpenBranch). more ++ sketched_from now (suc n) rest ≡ out ++ sketched_from bs n (x ∷ rest)) (sym (open-shown old c.if-not-branches.false))
    (sketched-on (the_branch old) (waiting_in old) now n x out more rest c.in_ok-take_step.ensures.steps c.in_ok-take_step.ensures.branches)

pub returns-clause-names : goal.returns-clause-names
returns-clause-names c = λ rest.
    let old = c.args.branches.now in
    let n = c.args.number in
    let x = the_step c.args.step.now in
    let now = branches_of c.take_step.new.branches in
    let out = c.args.out.now.names.eigens in
    let more = c.take_step.new.out.names.eigens in
    subst (λ (bs : List OpenBranch). more ++ names_sketched_from now (suc n) rest ≡ out ++ names_sketched_from bs n (x ∷ rest)) (sym (open-shown old c.if-not-branches.false))
    (names-on (the_branch old) (waiting_in old) now n x out more rest c.in_ok-take_step.ensures.names c.in_ok-take_step.ensures.branches)
