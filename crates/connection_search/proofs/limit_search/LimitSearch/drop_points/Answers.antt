use Rattle.std.proofs.Common.{arith, reverse, subst, sym}
use Rattle.connection_search.specs.GoingBack.{HandsDown, Origin}
use Rattle.search_tree.specs.Looking.{bound_in}
use Rattle.connection_search.proofs.GoingBackLaws.{going-down, going-start}
use Rattle.connection_search.proofs.limit_search.LimitSearch.drop_points.Goals as goal

pub go_back-lowest-requires : goal.go_back-lowest-requires
go_back-lowest-requires c = let (l, holds) = c.requires in let (base, later, begun, space, e) = holds in (record { problem = c.args.self.now.problem.now; matrix = c.args.self.now.matrix.now; base = base; limit = c.args.self.now.limit; store = c.args.store.now.store; steps = c.args.work.now.tree.steps.items; goals = c.args.work.now.tree.goals.items; later = later; begun = begun; used = l.used }, going-start c.args.self.now.problem.now c.args.self.now.matrix.now base c.args.self.now.limit c.args.store.now.store c.args.work.now.tree.steps.items c.args.work.now.tree.goals.items c.args.last c.args.points.now.items later begun l.used c.args.left (bound_in c.find.new.self) (c.may_jump.ensures.left c.if-not-may_jump.false) (c.may_jump.ensures.unsolved c.if-not-may_jump.false) (omega arith) (c.in_ok-find.ensures c.if-not-branch.false) e)

pub returns-clause-down : goal.returns-clause-down
returns-clause-down c = λ l base later begun space e.
    let o : Origin = record { problem = c.args.self.now.problem.now; matrix = c.args.self.now.matrix.now; base = base; limit = c.args.self.now.limit; store = c.args.store.now.store; steps = c.args.work.now.tree.steps.items; goals = c.args.work.now.tree.goals.items; later = later; begun = begun; used = l.used } in
    subst (λ b. HandsDown c.args.self.now.problem.now c.args.self.now.matrix.now base c.args.self.now.limit c.go_back-lowest.new.store.store c.go_back-lowest.new.tree.steps.items c.go_back-lowest.new.tree.goals.items c.go_back-lowest.result (reverse c.go_back-lowest.new.points.items) later begun l.used b) (sym (c.may_jump.ensures.left c.if-not-may_jump.false))
    (going-down o c.args.last.goal (bound_in c.find.new.self) c.go_back-lowest.result c.go_back-lowest.new.store.store c.go_back-lowest.new.tree.steps.items c.go_back-lowest.new.tree.goals.items c.go_back-lowest.new.points.items
    (c.go_back-lowest.ensures.back o (going-start c.args.self.now.problem.now c.args.self.now.matrix.now base c.args.self.now.limit c.args.store.now.store c.args.work.now.tree.steps.items c.args.work.now.tree.goals.items c.args.last c.args.points.now.items later begun l.used c.args.left (bound_in c.find.new.self) (c.may_jump.ensures.left c.if-not-may_jump.false) (c.may_jump.ensures.unsolved c.if-not-may_jump.false) (omega arith) (c.in_ok-find.ensures c.if-not-branch.false) e)))
