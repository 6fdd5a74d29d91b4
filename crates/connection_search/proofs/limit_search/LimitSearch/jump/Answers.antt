use Rattle.std.proofs.Common.{arith}
use Rattle.connection_search.proofs.JumpingLaws.{handed-down}
use Rattle.connection_search.proofs.TryingLaws.{above-seen, seen-weight}
use Rattle.connection_search.proofs.limit_search.LimitSearch.jump.Goals as goal

pub returns-clause-on : goal.returns-clause-on
returns-clause-on c = λ l base later begun space e. handed-down c.args.self.now.problem.now c.args.self.now.matrix.now base c.args.self.now.limit c.drop_points.new.store.store c.drop_points.new.work.tree.steps.items c.drop_points.new.work.tree.goals.items c.in_ok-lowest.lowest c.in_ok-lowest.lowest c.drop_points.new.points.items c.lower.new.points.items later begun l.used c.args.left (omega arith) (omega arith) (c.in_ok-lowest.ensures.down l base later begun space e) c.lower.ensures

pub returns-clause-falls : goal.returns-clause-falls
returns-clause-falls c =
    let a = seen-weight c.in_ok-lowest.lowest c.drop_points.new.points.items c.lower.new.points.items c.lower.ensures in
    let b = c.drop_points.ensures.falls in
    omega (arith, a, b)

pub returns-clause-above : goal.returns-clause-above
returns-clause-above c = λ k a. above-seen k c.in_ok-lowest.lowest c.drop_points.new.points.items c.lower.new.points.items c.lower.ensures (c.drop_points.ensures.above k a)
