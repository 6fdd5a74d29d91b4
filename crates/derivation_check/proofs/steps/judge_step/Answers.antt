use Rattle.std.proofs.Common.{reverse}
use Rattle.derivation_check.specs.StateView.{the_sequents}
use Rattle.derivation_check.proofs.StepLaws.{failed, led, none-open}
use Rattle.calculus.specs.Versions.{stated_step}
use Rattle.derivation_text.specs.NumbersView.{the_numbered_step}
use Rattle.derivation_check.proofs.steps.judge_step.Goals as goal

pub returns-then-not-state-clause-judged : goal.returns-then-not-state-clause-judged
returns-then-not-state-clause-judged c = λ names h rest.
    let s = c.args.state.now in
    none-open c.args.problem.now names s.substitutions s.labels s.sequents.is_open s.sequents.branch.items (reverse s.sequents.forks.items) (stated_step c.args.d.now.labels c.args.d.now.terms (the_numbered_step c.args.step.now)) rest c.args.line c.if-not-state.true

pub returns-in-Ok-clause-kept : goal.returns-in-Ok-clause-kept
returns-in-Ok-clause-kept c = λ e. c.in-Ok.ensures.kept

pub returns-in-Ok-clause-places : goal.returns-in-Ok-clause-places
returns-in-Ok-clause-places c = λ e. c.in-Ok.ensures.places

pub returns-in-Ok-clause-named : goal.returns-in-Ok-clause-named
returns-in-Ok-clause-named c = λ e. c.in-Ok.ensures.named

pub returns-in-Ok-clause-judged : goal.returns-in-Ok-clause-judged
returns-in-Ok-clause-judged c = λ names h rest.
    let s = c.args.state.now in
    led c.args.problem.now names s.substitutions s.labels s.sequents.is_open s.sequents.branch.items (reverse s.sequents.forks.items) (stated_step c.args.d.now.labels c.args.d.now.terms (the_numbered_step c.args.step.now)) rest (the_sequents c.take_step.new.state) c.args.line c.if-not-state.false (c.in-Ok.ensures.leads names h)

pub returns-in-Err-Fault-clause-judged : goal.returns-in-Err-Fault-clause-judged
returns-in-Err-Fault-clause-judged c = λ names h rest.
    let s = c.args.state.now in
    let is = c.in-Err-Fault.is in
    let field = c.in-Err-Fault.field-0-is in
    let same = c.in-Err-Fault.fault-is in
    failed c.args.problem.now names s.substitutions s.labels s.sequents.is_open s.sequents.branch.items (reverse s.sequents.forks.items) (stated_step c.args.d.now.labels c.args.d.now.terms (the_numbered_step c.args.step.now)) rest c.args.line c.in-Err-Fault.fault c.if-not-state.false (c.take_step.ensures.fault c.in-Err-Fault.fault (cc) names h)
