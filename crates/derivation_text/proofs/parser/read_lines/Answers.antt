use Rattle.std.proofs.Common.{refl, ap, Err, arith}
use Rattle.calculus.specs.declared.version.Version.TheVariants.{One}
use Rattle.calculus.specs.Versions.{stated}
use Rattle.derivation_text.specs.BodyView.{the_body_line}
use Rattle.derivation_text.proofs.BodySteps.{few-lines}
use Rattle.derivation_text.proofs.Endings.{body-fault_at_end, body-fault_at_line}
use Rattle.derivation_text.proofs.HeadFaults.{told-in}
use Rattle.derivation_text.proofs.NumberedSteps.{entered-first, entered-step, entered-text}
use Rattle.derivation_text.proofs.parser.read_lines.Goals as goal

pub loop-text-init : goal.loop-text-init
loop-text-init c = entered-first c.args.problem.now c.args.bytes.now c.args.from c.args.d.now.limit c.args.d.now c.requires.head c.requires.empty

pub overflow_add-result : goal.overflow_add-result
overflow_add-result c = let f = few-lines c.args.problem.now c.args.bytes.now c.loop-text.place c.loop-text.stage (stated c.loop-text.d) c.loop-text.invariant.read in let g = c.loop-text.invariant.counted in omega (arith, f, g)

pub returns-in-Err-None-clause-fault : goal.returns-in-Err-None-clause-fault
returns-in-Err-None-clause-fault c = λ line why e.
    told-in One c.args.problem.now c.args.bytes.now _ line _ why e
    (body-fault_at_line c.args.problem.now c.requires.well c.args.bytes.now c.loop-text.place c.in-Some.next c.loop-text.stage (stated c.loop-text.d) c.in-Some.text.now c.loop-text.count _ c.loop-text.invariant.read c.loop-text.invariant.counted c.in-Some.ensures.some (c.in-Err-None.ensures.none (ap (λ x. Err x) c.in-Err-None.field-0-is)) c.cause_at_line.ensures)

pub overflow_add-count : goal.overflow_add-count
overflow_add-count c = let f = few-lines c.args.problem.now c.args.bytes.now c.loop-text.place c.loop-text.stage (stated c.loop-text.d) c.loop-text.invariant.read in let g = c.loop-text.invariant.counted in omega (arith, f, g)

pub loop-text-preserved : goal.loop-text-preserved
loop-text-preserved c = entered-step c.args.problem.now c.args.bytes.now c.loop-text.place c.in-Some.next c.loop-text.stage c.in-Ok.found.1 c.loop-text.d _ (the_body_line c.in-Ok.found.0) c.in-Some.text.now c.loop-text.count c.loop-text.invariant c.in-Some.ensures.some c.in-Ok.ensures.ok c.in-Ok.ensures.stage c.in_ok-enter_line.ensures

pub overflow_add-result-else-has_ended : goal.overflow_add-result-else-has_ended
overflow_add-result-else-has_ended c = let f = few-lines c.args.problem.now c.args.bytes.now c.loop-text.place c.loop-text.stage (stated c.loop-text.d) c.loop-text.invariant.read in let g = c.loop-text.invariant.counted in omega (arith, f, g)

pub returns-then-has_ended-clause-text : goal.returns-then-has_ended-clause-text
returns-then-has_ended-clause-text c =
    let y = c.has_ended.ensures.yes c.if-has_ended.true in
    entered-text c.args.problem.now c.args.bytes.now c.loop-text.place c.loop-text.stage c.loop-text.d c.loop-text.count c.loop-text.invariant y.0 y.1

pub returns-then-has_ended-clause-numbers : goal.returns-then-has_ended-clause-numbers
returns-then-has_ended-clause-numbers c = c.loop-text.invariant.numbers

pub returns-else-has_ended-clause-fault : goal.returns-else-has_ended-clause-fault
returns-else-has_ended-clause-fault c = λ line why e.
    told-in One c.args.problem.now c.args.bytes.now _ line _ why e
    (body-fault_at_end c.args.problem.now c.requires.well c.args.bytes.now c.loop-text.place c.loop-text.stage (stated c.loop-text.d) c.loop-text.count _ c.loop-text.invariant.read c.loop-text.invariant.counted (c.in_default.ensures.none refl) (c.has_ended.ensures.no c.if-has_ended.false) c.cause_at_end.ensures)
