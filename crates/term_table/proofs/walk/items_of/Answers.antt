use Rattle.std.proofs.Common.{rules, ◌≡◌, []}
use Rattle.term_table.proofs.WalkLaws.{walk-begins, walk-ends, walk-falls, walk-goes}
use Rattle.term_table.proofs.walk.items_of.Goals as goal

pub loop-next-init : goal.loop-next-init
loop-next-init c = walk-begins c.args.table.now c.new-items.result.items c.new-stack.result.items c.push.new.self.items c.args.term c.new-items.ensures.items c.new-stack.ensures.items c.in_ok-push.ensures.items

pub loop-next-smaller : goal.loop-next-smaller
loop-next-smaller c = walk-falls c.args.table.now c.loop-next.stack.items c.pop.new.self.items c.put_term.new.stack.items c.in-Some.next c.in-Some.ensures.items c.in_ok-put_term.ensures.less

pub loop-next-preserved : goal.loop-next-preserved
loop-next-preserved c = walk-goes c.args.table.now c.loop-next.items.items c.put_term.new.items.items _ c.loop-next.stack.items c.pop.new.self.items c.put_term.new.stack.items c.in-Some.next c.in-Some.ensures.items c.in_ok-put_term.ensures.row c.loop-next.invariant

pub returns : goal.returns
returns c =
    let empty : c.loop-next.stack.items ≡ [] = search rules in
    walk-ends c.args.table.now c.loop-next.items.items _ c.loop-next.stack.items empty c.loop-next.invariant
