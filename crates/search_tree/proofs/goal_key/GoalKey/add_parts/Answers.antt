use Rattle.search_tree.proofs.LookingLaws.{parts-added}
use Rattle.search_tree.proofs.goal_key.GoalKey.add_parts.Goals as goal

pub loop-i-preserved : goal.loop-i-preserved
loop-i-preserved c = record {
  waiting = parts-added c.args.self.now.waiting.items c.loop-i.self.waiting.items c.push.new.self.items c.parts_at-parts.result.now c.loop-i.i c.part_in-part.result c.in_ok-push.ensures.items c.part_in-part.ensures c.loop-i.invariant.waiting;
  variables = c.loop-i.invariant.variables;
  parts = c.loop-i.invariant.parts;
}
