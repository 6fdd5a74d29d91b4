use Rattle.std.proofs.Common.{◌≡◌, length, take}
use Rattle.search_tree.proofs.tree.Tree.cut.Given as goal

-- the choices that stay are there, and the store is the same
abbrev pub invariant-loop-self : goal.invariant-loop-self
invariant-loop-self l = record {
  kept : take l.steps l.self.steps.items ≡ take l.steps l.fn.self.steps.items;
  goals : l.self.goals.items ≡ l.fn.self.goals.items;
  same : l.store ≡ l.fn.store;
}

abbrev pub decreases-loop-self : goal.decreases-loop-self
decreases-loop-self l = length l.self.steps.items
