use Rattle.std.proofs.Common.{ap, map, ◌∙◌}
use Rattle.formula_core.specs.GroundLists.{the_value}
use Rattle.tableau_cert.proofs.SteppingLaws.{mark-way}
use Rattle.tableau_cert.specs.WayView.{the_way}
use Rattle.tableau_cert.proofs.stepping.after_mark.Goals as goal

pub returns : goal.returns
returns c = mark-way c.args.table.now c.add_values.new.self c.in_ok-taken.ensures.grown (the_way c.args.way.now) c.requires c.in_ok-taken.taken (c.in_ok-taken.ensures.list ∙ ap (map (the_value c.args.table.now)) c.deref.ensures.value) c.in_ok-taken.ensures.normal c.args.logic c.args.position (the_way c.begin_step.new.way) c.push.new.self.items c.begin_step.ensures c.in_ok-push.ensures.items
