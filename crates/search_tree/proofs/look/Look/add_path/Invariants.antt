use Rattle.search_tree.specs.Looking.{waiting_in}
use Rattle.search_tree.proofs.LookingLaws.{GathersTo}
use Rattle.search_tree.proofs.look.Look.add_path.Given as goal

abbrev pub invariant-loop-i : goal.invariant-loop-i
invariant-loop-i l = GathersTo (waiting_in l.fn.self) (waiting_in l.self) l.tree.steps.items l.tree.goals.items l.goal l.above l._i
