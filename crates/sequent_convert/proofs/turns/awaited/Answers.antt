use Rattle.std.proofs.Common.{◌∙◌, Some, Contains, ap, inl, inr, slice_index_or}
use Rattle.sequent_convert.specs.ByNumber.RunView.{the_source}
use Rattle.sequent_convert.specs.State.{IsAwaitedBy}
use Rattle.sequent_convert.proofs.AwaitedLaws.{not-there, item-in, waits-step, awaits-all}
use Rattle.sequent_convert.proofs.ComingLaws.{awaited-before}
use Rattle.sequent_convert.proofs.turns.awaited.Goals as goal

pub returns-then-not-has : goal.returns-then-not-has
returns-then-not-has c =
    let up = c.parent.ensures ∙ ap Some c.in-Some.is in
    (inl up, awaited-before (the_source c.args.source.now) c.requires.basis c.args.turn c.in-Some.parent c.requires.within (inl up), not-there c.has.result (Contains c.args.branch.now.done c.in-Some.parent) c.if-not-has.true c.has.ensures)

pub returns-then-not-has-2 : goal.returns-then-not-has-2
returns-then-not-has-2 c =
    let w = c.waits-earlier-items.result.now in
    let j = slice_index_or w c.loop-earlier.earlier-index 0 in
    let up : IsAwaitedBy (the_source c.args.source.now) c.args.turn j = inr (w, c.waits-earlier-items.ensures, item-in w c.loop-earlier.earlier-index c.loop-earlier-test.true) in
    (up, awaited-before (the_source c.args.source.now) c.requires.basis c.args.turn j c.requires.within up, not-there c.has-in-loop-earlier.result (Contains c.args.branch.now.done j) c.if-not-has-2.true c.has-in-loop-earlier.ensures)

pub loop-earlier-preserved : goal.loop-earlier-preserved
loop-earlier-preserved c = (c.loop-earlier.invariant.0, waits-step c.args.branch.now.done c.waits-earlier-items.result.now c.loop-earlier.earlier-index c.loop-earlier-test.true c.loop-earlier.invariant.1 (c.has-in-loop-earlier.ensures.0 c.if-not-has-2.false))

pub returns : goal.returns
returns c = awaits-all (the_source c.args.source.now) c.args.branch.now.done c.waits-earlier-items.result.now c.args.turn c.loop-earlier.earlier-index c.waits-earlier-items.ensures c.loop-earlier-test.false c.loop-earlier.invariant.0 c.loop-earlier.invariant.1
