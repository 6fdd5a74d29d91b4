use Rattle.std.proofs.Common.{◌≡◌, arith, length, refl}
use Rattle.tableau_reading.specs.declared.grounds.Grounds.{Grounds}
use Rattle.tableau_reading.proofs.MakingLaws.{new-first, new-step, none-first, none-step, reading-none}
use Rattle.tableau_reading.proofs.grounds.Grounds.new.Goals as goal

pub loop-cell-init : goal.loop-cell-init
loop-cell-init c = (none-first c.new-made.result.items c.new-made.ensures.items, new-first c.new-asked.result.items c.new-asked.ensures.items)

pub loop-cell-preserved : goal.loop-cell-preserved
loop-cell-preserved c = (
  none-step c.loop-cell._cell c.push.new.self.items c.loop-cell.made.items c.in_ok-push.ensures.items c.loop-cell.invariant.0,
  new-step c.loop-cell._cell c.push-in-loop-cell.new.self.items c.loop-cell.asked.items c.in_ok-push-2.ensures.items c.loop-cell.invariant.1,
)

pub returns : goal.returns
returns c =
    let g : Grounds = record { table = c.new.result; made = c.loop-cell.made; asked = c.loop-cell.asked } in
    let p = c.size.ensures.size in
    let q = c.spare.ensures in
    let all : c.loop-cell._cell ≡ length c.args.store.now.store.cells = omega (arith, p, q) in
    reading-none c.args.store.now.store c.args.homes.now g c.loop-cell._cell (length c.args.store.now.store.cells) c.new.ensures c.loop-cell.invariant.0 c.loop-cell.invariant.1 all refl
