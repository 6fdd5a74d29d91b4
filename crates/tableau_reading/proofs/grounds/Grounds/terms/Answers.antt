use Rattle.std.proofs.Common.{arith}
use Rattle.tableau_reading.proofs.MakingLaws.{terms-end, terms-step}
use Rattle.tableau_reading.proofs.grounds.Grounds.terms.Goals as goal

pub loop-i-preserved : goal.loop-i-preserved
loop-i-preserved c = terms-step c.args.store.now.store c.args.self.now.table c.args.self.now.made.items c.args.refs.now c.loop-i.i c.push.new.self.items c.loop-i.terms.items c.term_of.result c.made_for-ground.result c.in_ok-push.ensures.items (omega arith) (c.term_of.ensures c.args.self.now.table) c.made_for-ground.ensures c.loop-i.invariant

pub returns : goal.returns
returns c = terms-end c.args.store.now.store c.args.self.now.table c.args.self.now.made.items c.args.refs.now c.loop-i.i c.loop-i.terms.items (omega arith) c.loop-i.invariant
