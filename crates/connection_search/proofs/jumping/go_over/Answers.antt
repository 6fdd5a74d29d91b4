use Rattle.std.proofs.Common.{◌++◌, ◌-◌, ◌∙◌, ◌∷◌, [], ap, arith, subst, sym, take}
use Rattle.connection_search.specs.Exploring.{AreAbove}
use Rattle.search_tree.specs.Looking.{bound_in}
use Rattle.connection_search.proofs.GoingBackLaws.{going-good, going-over, going-stays, last-read}
use Rattle.connection_search.proofs.StackedLaws.{moment-back}
use Rattle.connection_search.proofs.jumping.go_over.Goals as goal

pub return_to-requires : goal.return_to-requires
return_to-requires c = let (o, h) = c.requires in going-good o c.args.goal (bound_in c.args.look.now) c.args.lowest c.args.store.now.store c.args.tree.now.steps.items c.args.tree.now.goals.items c.args.points.now.items (take (c.len-count.result - 1) c.args.points.now.items) c.index.result.now (last-read c.args.points.now.items c.len-count.result c.index.result.now (let n = c.len-count.ensures in let k = c.args.points.now.ok.0 in omega (arith, n, k)) (let z = c.if-count-eq0.false in omega (arith, z)) c.index.ensures) h

pub returns-then-not-are_bound-clause-back : goal.returns-then-not-are_bound-clause-back
returns-then-not-are_bound-clause-back c = λ o h. going-stays o c.args.goal (bound_in c.args.look.now) c.args.lowest c.args.store.now.store c.return_to.new.store.store c.args.tree.now.steps.items c.return_to.new.tree.steps.items c.args.tree.now.goals.items c.return_to.new.tree.goals.items c.args.points.now.items (take (c.len-count.result - 1) c.args.points.now.items) c.index.result.now (last-read c.args.points.now.items c.len-count.result c.index.result.now (let n = c.len-count.ensures in let k = c.args.points.now.ok.0 in omega (arith, n, k)) (let z = c.if-count-eq0.false in omega (arith, z)) c.index.ensures) c.return_to.ensures.store c.return_to.ensures.steps c.return_to.ensures.goals h

pub returns-then-not-are_bound-clause-moment : goal.returns-then-not-are_bound-clause-moment
returns-then-not-are_bound-clause-moment c = λ k g a. moment-back k (take (c.len-count.result - 1) c.args.points.now.items) c.index.result.now c.args.store.now.store c.return_to.new.store.store g (subst (AreAbove k) (last-read c.args.points.now.items c.len-count.result c.index.result.now (let n = c.len-count.ensures in let k = c.args.points.now.ok.0 in omega (arith, n, k)) (let z = c.if-count-eq0.false in omega (arith, z)) c.index.ensures) a) c.return_to.ensures.marks

pub returns-clause-back : goal.returns-clause-back
returns-clause-back c = λ o h. going-over o c.args.goal (bound_in c.args.look.now) c.args.lowest c.min-low.result c.args.store.now.store c.return_to.new.store.store c.args.tree.now.steps.items c.return_to.new.tree.steps.items c.args.tree.now.goals.items c.return_to.new.tree.goals.items c.args.points.now.items c.truncate.new.self.items c.index.result.now ((last-read c.args.points.now.items c.len-count.result c.index.result.now (let n = c.len-count.ensures in let k = c.args.points.now.ok.0 in omega (arith, n, k)) (let z = c.if-count-eq0.false in omega (arith, z)) c.index.ensures) ∙ ap (λ ps. ps ++ c.index.result.now ∷ []) (sym c.truncate.ensures.items)) c.return_to.ensures.store c.return_to.ensures.steps c.return_to.ensures.goals c.if-last-goal.false c.min-low.ensures c.if-low-goal.false (c.are_bound.ensures c.if-not-are_bound.false) h

pub returns-clause-moment : goal.returns-clause-moment
returns-clause-moment c = λ k g a. moment-back k (take (c.len-count.result - 1) c.args.points.now.items) c.index.result.now c.args.store.now.store c.return_to.new.store.store g (subst (AreAbove k) (last-read c.args.points.now.items c.len-count.result c.index.result.now (let n = c.len-count.ensures in let k = c.args.points.now.ok.0 in omega (arith, n, k)) (let z = c.if-count-eq0.false in omega (arith, z)) c.index.ensures) a) c.return_to.ensures.marks
