use Rattle.std.proofs.Common.{◌≡◌, ◌++◌, take}
use Rattle.search_tree.specs.GoalKeys.{variables_in, waiting_in}
use Rattle.search_tree.proofs.goal_key.GoalKey.add_parts.Given as goal

abbrev pub invariant-loop-i : goal.invariant-loop-i
invariant-loop-i l = record {
  waiting : waiting_in l.self ≡ waiting_in l.fn.self ++ take l.i l.parts;
  variables : variables_in l.self ≡ variables_in l.fn.self;
  parts : l.self.parts.items ≡ l.fn.self.parts.items;
}
