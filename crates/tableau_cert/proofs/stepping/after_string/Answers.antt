use Rattle.tableau_cert.proofs.SteppingLaws.{string-way}
use Rattle.tableau_cert.specs.WayView.{the_way}
use Rattle.tableau_cert.proofs.stepping.after_string.Goals as goal

pub returns : goal.returns
returns c position g = string-way c.args.table.now (the_way c.args.way.now) c.requires.way c.args.logic g c.args.string position (the_way c.begin_step.new.way) c.marks.result.now c.extend_from_slice.new.self.items c.push.new.self.items c.begin_step.ensures c.requires.string c.marks.ensures.list c.marks.ensures.normal c.in_ok-extend_from_slice.ensures.items c.in_ok-push.ensures.items
