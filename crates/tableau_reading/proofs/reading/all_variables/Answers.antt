use Rattle.tableau_reading.proofs.ReadOffLaws.{places-end}
use Rattle.tableau_reading.proofs.reading.all_variables.Goals as goal

pub loop-k-preserved : goal.loop-k-preserved
loop-k-preserved c = places-end c.args.variables.first.0 c.loop-k.k c.push.new.self.items c.loop-k.refs.items c.at.result c.in_ok-push.ensures.items c.at.ensures c.loop-k.invariant
