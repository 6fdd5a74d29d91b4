use Rattle.std.proofs.Common.{map}
use Rattle.term_store.specs.RefView.{the_place}
use Rattle.tableau_reading.proofs.PartLaws.{parts-all, parts-none, parts-step}
use Rattle.tableau_reading.proofs.parts.parts_of.Goals as goal

pub loop-i-init : goal.loop-i-init
loop-i-init c = parts-none c.args.store.now.store c.args.end.0 c.new-refs.result.items c.new-refs.ensures.items

pub loop-i-preserved : goal.loop-i-preserved
loop-i-preserved c = parts-step c.args.store.now.store c.args.end.0 c.loop-i.i c.push.new.self.items c.loop-i.refs.items c.part.result c.in_ok-push.ensures.items c.requires c.part.ensures.part c.part.ensures.within c.loop-i.invariant

pub returns-clause-parts : goal.returns-clause-parts
returns-clause-parts c = parts-all c.args.store.now.store c.args.end.0 c.loop-i.i c.parts-i-end.result (map the_place c.loop-i.refs.items) c.requires c.parts-i-end.ensures.count c.loop-i-test.false c.loop-i.invariant.0

pub returns-clause-below : goal.returns-clause-below
returns-clause-below c = c.loop-i.invariant.1
