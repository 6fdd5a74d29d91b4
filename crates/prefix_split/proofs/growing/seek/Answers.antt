use Rattle.std.proofs.Common.{arith, map}
use Rattle.std.proofs.lemmas.Bool.{false≢true}
use Rattle.std.proofs.lemmas.List.{length-map}
use Rattle.term_store.specs.RefView.{the_place}
use Rattle.term_unify.proofs.SameLaws.{place-below}
use Rattle.prefix_split.proofs.GrowingLaws.{sought-all, sought-next, sought-start}
use Rattle.prefix_split.proofs.growing.seek.Goals as goal

pub loop-i-init : goal.loop-i-init
loop-i-init c = sought-start c.args.store.now.store c.args.nodes.now

pub step_of-step-requires-clause-within : goal.step_of-step-requires-clause-within
step_of-step-requires-clause-within c = place-below _ (map the_place c.args.label.now) c.loop-i.i c.reference_at.result.0 c.requires.below c.reference_at.ensures

pub step_of-step-requires-clause-named : goal.step_of-step-requires-clause-named
step_of-step-requires-clause-named c = λ e. absurd (false≢true e)

pub find-requires-clause-step : goal.find-requires-clause-step
find-requires-clause-step c = c.step_of-step.ensures.fits

pub loop-i-preserved : goal.loop-i-preserved
loop-i-preserved c =
    let found = rw c.in-Some.is at c.in_ok-next.ensures in
    sought-next c.args.store.now.store c.args.nodes.now (map the_place c.args.label.now) c.loop-i.i c.reference_at.result.0 c.loop-i.node c.in-Some.next c.step_of-step.result c.loop-i.invariant c.reference_at.ensures found.1 c.step_of-step.ensures.marks

pub returns : goal.returns
returns c =
    let n = length-map c.args.label.now the_place in
    sought-all c.args.store.now.store c.args.nodes.now (map the_place c.args.label.now) c.loop-i.i c.loop-i.node c.loop-i.invariant (omega (arith, n))
