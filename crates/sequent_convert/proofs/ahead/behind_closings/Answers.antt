use Rattle.std.proofs.Common.{◌+◌, ap, arith, drop, length, length-append}
use Rattle.tableau_core.specs.Numbered.ClosingView.{the_closing}
use Rattle.sequent_convert.specs.ByNumber.AheadView.{closing_sizes, sizes_among}
use Rattle.sequent_convert.proofs.ByNumber.SizeLaws.{behind-next, first-sizes}
use Rattle.sequent_convert.proofs.ahead.behind_closings.Goals as goal

pub loop-goal-preserved : goal.loop-goal-preserved
loop-goal-preserved c =
    let parts = ap length (first-sizes c.args.goals.now c.loop-goal.goal-index c.goal-item.result _ (omega arith) c.goal-item.is) in
    let both = length-append (closing_sizes (the_closing c.goal-item.result)) (sizes_among (drop (c.loop-goal.goal-index + 1) c.args.goals.now)) in
    let so_far = c.loop-goal.invariant.1 in
    let on = c.behind_closing-at.ensures in (
      (c.loop-goal.invariant.0.0, behind-next c.args.sizes.now c.args.goals.now c.loop-goal.goal-index c.loop-goal.at c.behind_closing-at.result c.goal-item.result _ c.loop-goal.invariant.0.0 c.loop-goal.invariant.0.1 (omega arith) c.goal-item.is c.behind_closing-at.ensures),
      omega (arith, parts, both, so_far, on),
    )
