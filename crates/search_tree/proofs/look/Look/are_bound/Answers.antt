use Rattle.std.proofs.Common.{arith}
use Rattle.search_tree.proofs.LookingLaws.{bound-all}
use Rattle.search_tree.proofs.look.Look.are_bound.Goals as goal

pub returns : goal.returns
returns c = λ e. bound-all c.args.store.now.store c.args.self.now.bound.items c.loop-i.i c.loop-i.invariant (let n = c.args.self.now.bound.ok.0 in omega (arith, n))
