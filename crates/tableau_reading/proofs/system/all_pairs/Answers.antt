use Rattle.std.proofs.Common.{arith}
use Rattle.tableau_reading.proofs.GatheringLaws.{all_pairs-end, all_pairs-next, pairs-wanted}
use Rattle.tableau_reading.proofs.system.all_pairs.Goals as goal

pub add_pairs-requires : goal.add_pairs-requires
add_pairs-requires c = pairs-wanted c.args.tree.now.steps.items c.args.tree.now.goals.items c.loop-goal.goal c.requires.0 c.requires.1 (omega arith)

pub loop-goal-preserved : goal.loop-goal-preserved
loop-goal-preserved c = all_pairs-next c.args.tree.now.steps.items c.args.tree.now.goals.items c.loop-goal.pairs c.add_pairs.new.pairs c.loop-goal.goal c.loop-goal.invariant (omega arith) c.in_ok-add_pairs.ensures

pub returns : goal.returns
returns c = all_pairs-end c.args.tree.now.steps.items c.args.tree.now.goals.items c.loop-goal.pairs c.loop-goal.goal c.loop-goal.invariant (omega arith)
