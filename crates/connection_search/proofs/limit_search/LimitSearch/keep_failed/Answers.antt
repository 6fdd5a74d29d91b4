use Rattle.std.proofs.Common.{arith, reverse}
use Rattle.search_tree.proofs.FailedLaws.{spent-fails, spent-there}
use Rattle.connection_search.proofs.SpentLaws.{spent-unsolved}
use Rattle.connection_search.proofs.limit_search.LimitSearch.keep_failed.Goals as goal

pub add-requires : goal.add-requires
add-requires c =
    let (l, points, (base, later, begun, space, h)) = c.requires in
    let w = spent-there c.args.self.now.problem.now c.args.self.now.matrix.now base c.args.self.now.limit h.choices c.args.store.now.store c.args.work.now.tree.steps.items c.args.work.now.tree.goals.items c.args.spent.goal h.goal h.at in
    (h.goal, w.0, w.1)

pub returns : goal.returns
returns c = λ given.
    let (l, points, (base, later, begun, space, h)) = c.requires in
    let w = spent-there c.args.self.now.problem.now c.args.self.now.matrix.now base c.args.self.now.limit h.choices c.args.store.now.store c.args.work.now.tree.steps.items c.args.work.now.tree.goals.items c.args.spent.goal h.goal h.at in
    c.in_ok-add.ensures c.args.self.now.problem.now c.args.self.now.limit h.goal given w.0 w.1
    (spent-fails c.args.self.now.problem.now c.args.self.now.matrix.now base c.args.self.now.limit h.choices c.args.store.now.store c.args.work.now.tree.steps.items c.args.work.now.tree.goals.items c.args.spent.goal h.goal h.at (spent-unsolved c.args.self.now.problem.now c.args.self.now.matrix.now base c.args.self.now.limit c.args.store.now.store c.args.work.now.tree.steps.items c.args.work.now.tree.goals.items c.args.spent (reverse points) later begun l.used c.args.left h (omega arith) (omega arith)))
