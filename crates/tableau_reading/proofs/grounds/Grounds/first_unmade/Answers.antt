use Rattle.std.proofs.Common.{arith, map}
use Rattle.term_store.specs.RefView.{the_place}
use Rattle.tableau_reading.proofs.MakingLaws.{all-made, made-to, none-made_to}
use Rattle.tableau_reading.proofs.grounds.Grounds.first_unmade.Goals as goal

pub loop-i-init : goal.loop-i-init
loop-i-init c = none-made_to c.args.store.now.store c.args.self.now.made.items (map the_place c.args.refs.now)

pub loop-i-preserved : goal.loop-i-preserved
loop-i-preserved c = made-to c.args.store.now.store c.args.self.now.made.items (map the_place c.args.refs.now) c.loop-i.i c.loop-i.invariant c.in_default.ensures

pub returns : goal.returns
returns c = all-made c.args.store.now.store c.args.self.now.made.items c.args.refs.now c.loop-i.i (omega arith) c.loop-i.invariant
