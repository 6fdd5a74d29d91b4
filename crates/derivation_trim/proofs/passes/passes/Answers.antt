use Rattle.std.proofs.Common.{◌+◌, ◌≡◌, arith, drop, length, map}
use Rattle.sequent_calc.specs.StepView.{the_step}
use Rattle.trim_theory.specs.Reading.{passes_of}
use Rattle.derivation_trim.proofs.PassLaws.{passes-end, passes-next}
use Rattle.derivation_trim.specs.BranchView.{the_branch, the_waiting}
use Rattle.derivation_trim.proofs.passes.passes.Goals as goal

pub loop-step-preserved : goal.loop-step-preserved
loop-step-preserved c = let l = c.loop-step in
    let steps = c.args.steps.now in
    let rest = map the_step (drop (l.step-index + 1) steps) in
    let long : c.in_ok-before.before ≡ length l.branch.items = omega arith in
    passes-next steps l.step-index c.step-item.result c.step-item.result l.starts_right c.in_ok-next.next.1 l.branch.items c.read.new.branch.items l.forks.items c.read.new.forks.items l.passes.items c.push-in-loop-step.new.self.items _ c.in_ok-before.before c.in_ok-next.next.0
    (omega arith) c.step-item.is long c.in_ok-push-2.ensures.items (c.in_ok-next.ensures l.starts_right (passes_of rest)) l.invariant

pub returns : goal.returns
returns c = let l = c.loop-step in
    passes-end c.args.steps.now l.step-index l.starts_right (the_branch l.branch.items) (the_waiting l.forks.items) l.passes.items _ (omega arith) l.invariant
