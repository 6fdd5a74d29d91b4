use Rattle.std.proofs.Common.{◌≡◌, arith, length}
use Rattle.tableau_reading.proofs.HeldLaws.{first-none, nothing-first, nothing-more}
use Rattle.tableau_reading.proofs.homes.none_held.Goals as goal

pub loop-cell-init : goal.loop-cell-init
loop-cell-init c = nothing-first c.new-first.result.items c.new-first.ensures.items

pub loop-cell-preserved : goal.loop-cell-preserved
loop-cell-preserved c = nothing-more c.loop-cell._cell c.loop-cell.first.items c.push.new.self.items c.in_ok-push.ensures.items c.loop-cell.invariant.0 c.loop-cell.invariant.1

pub returns : goal.returns
returns c = λ gs.
    let p = c.size.ensures.size in
    let q = c.spare.ensures in
    let n = c.loop-cell.invariant.0 in
    first-none c.args.store.now.store gs c.loop-cell.first.items (omega (arith, n, p, q)) c.loop-cell.invariant.1
