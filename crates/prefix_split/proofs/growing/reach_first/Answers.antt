use Rattle.std.proofs.Common.{◌≡◌, arith, map, subst, take}
use Rattle.term_store.specs.RefView.{the_place}
use Rattle.prefix_split.proofs.GrowingLaws.{reached-next, reached-start}
use Rattle.prefix_split.specs.Growing.{IsReached}
use Rattle.term_unify.proofs.SameLaws.{place-below}
use Rattle.prefix_split.proofs.growing.reach_first.Goals as goal

pub loop-i-init : goal.loop-i-init
loop-i-init c = reached-start c.args.store.now.store c.args.logic c.args.system.now.strings c.args.nodes.now.items c.requires.tree

pub step_of-step-requires-clause-within : goal.step_of-step-requires-clause-within
step_of-step-requires-clause-within c = place-below _ (map the_place c.args.label.now) c.loop-i.i c.reference_at.result.0 c.requires.below c.reference_at.ensures

pub step_of-step-requires-clause-named : goal.step_of-step-requires-clause-named
step_of-step-requires-clause-named c = λ e. c.requires.named e c.loop-i.i c.reference_at.result.0 c.reference_at.ensures

pub grow-requires-clause-tree : goal.grow-requires-clause-tree
grow-requires-clause-tree c = c.loop-i.invariant.tree

pub grow-requires-clause-parent : goal.grow-requires-clause-parent
grow-requires-clause-parent c = c.loop-i.invariant.within

pub grow-requires-clause-step : goal.grow-requires-clause-step
grow-requires-clause-step c = c.step_of-step.ensures.fits

pub loop-i-preserved : goal.loop-i-preserved
loop-i-preserved c = reached-next c.args.store.now.store c.args.logic c.args.system.now.strings c.args.nodes.now.items c.loop-i.nodes.items c.grow.new.nodes.items (map the_place c.args.label.now) c.loop-i.i c.reference_at.result.0 c.loop-i.node c.in_ok-next.next c.step_of-step.result c.loop-i.invariant c.reference_at.ensures c.in_ok-next.ensures c.step_of-step.ensures.marks c.step_of-step.ensures.extent

pub returns : goal.returns
returns c =
    let e : c.loop-i.i ≡ c.args.shown = omega arith in
    subst (λ n. IsReached c.args.store.now.store c.args.logic c.args.system.now.strings c.args.nodes.now.items c.loop-i.nodes.items (take n (map the_place c.args.label.now)) c.loop-i.node) e c.loop-i.invariant
