use Rattle.std.proofs.Common.{◌≡◌, ◌-◌, ◌++◌}
use Rattle.search_tree.specs.Trees.{fresh_goals}
use Rattle.search_tree.proofs.tree.Tree.grow.Given as goal

abbrev pub invariant-loop-literal : goal.invariant-loop-literal
invariant-loop-literal l = record {
  goals : l.self.goals.items ++ fresh_goals l.number l.first l.above l.behind l.depth l.literal (l.count - l.literal) ≡ l.initial.self.goals.items ++ fresh_goals l.number l.first l.above l.behind l.depth 0 l.count;
  steps : l.self.steps.items ≡ l.initial.self.steps.items;
}
