use Rattle.std.proofs.Common.{arith, map}
use Rattle.term_store.specs.RefView.{the_place}
use Rattle.tableau_reading.proofs.MakingLaws.{marks-end, marks-step}
use Rattle.tableau_reading.proofs.grounds.Grounds.marks.Goals as goal

pub loop-i-preserved : goal.loop-i-preserved
loop-i-preserved c = marks-step c.args.store.now.store c.args.self.now.table c.args.self.now.made.items c.args.refs.now c.loop-i.i c.add_marks_for.new.marks.items c.loop-i.marks.items (omega arith) c.in_ok-add_marks_for.ensures c.loop-i.invariant

pub returns : goal.returns
returns c = marks-end c.args.store.now.store c.args.self.now.table c.args.self.now.made.items c.args.refs.now c.loop-i.i c.loop-i.marks.items (omega arith) c.loop-i.invariant
