use Rattle.std.proofs.Common.{arith, length}
use Rattle.search_tree.proofs.SeenLaws.{goal-wanted, new-all, new-next, repeated-at}
use Rattle.search_tree.proofs.regular.first_repeated.Goals as goal

pub is_new-requires : goal.is_new-requires
is_new-requires c = goal-wanted c.args.tree.now.steps.items c.args.tree.now.goals.items (length c.args.store.now.store.cells) c.loop-goal.goal c.requires.0 c.requires.1 c.requires.2 (omega arith)

pub returns-then-not-branch-clause-repeated : goal.returns-then-not-branch-clause-repeated
returns-then-not-branch-clause-repeated c = λ i t. repeated-at c.args.store.now.store c.args.tree.now.steps.items c.args.tree.now.goals.items c.args.first c.loop-goal.goal (omega arith) (omega arith) (c.in_ok-is_new.ensures.repeated c.if-not-branch.true)

pub loop-goal-preserved : goal.loop-goal-preserved
loop-goal-preserved c = new-next c.args.store.now.store c.args.tree.now.steps.items c.args.tree.now.goals.items c.args.first c.loop-goal.goal c.loop-goal.invariant (omega arith) (c.in_ok-is_new.ensures.new c.if-not-branch.false)

pub returns-clause-new : goal.returns-clause-new
returns-clause-new c = λ t. new-all c.args.store.now.store c.args.tree.now.steps.items c.args.tree.now.goals.items c.args.first c.loop-goal.goal c.loop-goal.invariant (omega arith)
