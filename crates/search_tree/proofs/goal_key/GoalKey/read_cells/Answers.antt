use Rattle.std.proofs.Common.{[], ap, arith, length, map, subst}
use Rattle.plain_laws.proofs.Lists.{no-items}
use Rattle.search_tree.specs.GoalKeys.{IsReading, variables_in}
use Rattle.term_store.specs.RefView.{the_place}
use Rattle.search_tree.proofs.LookingLaws.{below-popped, waiting-popped}
use Rattle.search_tree.proofs.goal_key.GoalKey.read_cells.Goals as goal

pub returns-then-count-eq0 : goal.returns-then-count-eq0
returns-then-count-eq0 c = λ t x rest h. subst (λ ws. IsReading c.args.store.now.store x ws (variables_in c.loop-i.self) c.loop-i.self.parts.items rest) (ap (map the_place) (no-items c.loop-i.self.waiting.items (let n = c.loop-i.self.waiting.ok.0 in let m = c.len-count.ensures in let z = c.if-count-eq0.true in omega (arith, n, m, z)))) (c.loop-i.invariant x rest h)

pub read_cell-requires : goal.read_cell-requires
read_cell-requires c = let (x, rest, h) = c.requires in below-popped (length c.args.store.now.store.cells) c.loop-i.self.waiting.items c.pop.new.self.items c.in-Some.r c.in-Some.ensures.items (c.loop-i.invariant x rest h).below

pub loop-i-preserved : goal.loop-i-preserved
loop-i-preserved c = λ x rest h. c.in_ok-read-in-Some.ensures c.if-not-read.false x rest (subst (λ ws. IsReading c.args.store.now.store x ws (variables_in c.loop-i.self) c.loop-i.self.parts.items rest) (waiting-popped c.loop-i.self.waiting.items c.pop.new.self.items c.in-Some.r c.in-Some.ensures.items) (c.loop-i.invariant x rest h))
