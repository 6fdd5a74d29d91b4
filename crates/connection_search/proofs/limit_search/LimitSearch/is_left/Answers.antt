use Rattle.std.proofs.Common.{arith}
use Rattle.store_theory.proofs.BindingLaws.{KeepsMarks-same}
use Rattle.connection_search.proofs.LeftLaws.{goal-found, known-found, short-found}
use Rattle.search_tree.proofs.MoveLaws.{goal-here, goal-within}
use Rattle.search_tree.proofs.Places.{read-there}
use Rattle.search_tree.proofs.PointLaws.{depth-of}
use Rattle.connection_search.proofs.limit_search.LimitSearch.is_left.Goals as goal

pub returns-then-known-clause-found : goal.returns-then-known-clause-found
returns-then-known-clause-found c = λ P base d p g cm h e l. known-found P d p g c.args.known c.if-known.true

pub index-requires : goal.index-requires
index-requires c = let l = goal-within c.requires.0 c.args.self.now.matrix.now c.requires.1 c.requires.2 c.requires.3 c.args.store.now.store c.args.work.now.tree.steps.items c.args.work.now.tree.goals.items c.args.goal c.requires.4 c.requires.6 in let n = c.args.work.now.tree.goals.ok.0 in omega (arith, l, n)

pub returns-then-index-self-clause-found : goal.returns-then-index-self-clause-found
returns-then-index-self-clause-found c = λ P base d p g cm h e l. let at = goal-here P c.args.self.now.matrix.now base d p c.args.store.now.store c.args.work.now.tree.steps.items c.args.work.now.tree.goals.items c.args.goal g h in short-found P d p g c.args.known c.args.self.now.limit c.index.result.now.depth c.if-known.false e c.if-index-self.true (depth-of c.args.work.now.tree.steps.items c.args.work.now.tree.goals.items c.args.goal g c.index.result.now at (read-there c.args.work.now.tree.goals.items c.args.goal c.index.result.now at.goal at.stands c.index.ensures))

pub returns-clause-found : goal.returns-clause-found
returns-clause-found c = λ P base d p g cm h e l. let n = c.in_ok-left.ensures.dead in goal-found P d p g c.args.known c.in_ok-left.left c.if-known.false (λ t. c.in_ok-left.ensures.left t P base d p g cm h e l (let at = goal-here P c.args.self.now.matrix.now base d p c.args.store.now.store c.args.work.now.tree.steps.items c.args.work.now.tree.goals.items c.args.goal g h in let k = c.if-index-self.false in let q = depth-of c.args.work.now.tree.steps.items c.args.work.now.tree.goals.items c.args.goal g c.index.result.now at (read-there c.args.work.now.tree.goals.items c.args.goal c.index.result.now at.goal at.stands c.index.ensures) in omega (arith, e, k, q))) (λ f sides place k. n f P base d p g cm h e l sides place k)

pub returns-then-known-clause-marks : goal.returns-then-known-clause-marks
returns-then-known-clause-marks c = KeepsMarks-same c.args.store.now.store

pub returns-then-index-self-clause-marks : goal.returns-then-index-self-clause-marks
returns-then-index-self-clause-marks c = KeepsMarks-same c.args.store.now.store
