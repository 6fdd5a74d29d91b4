use Rattle.std.proofs.Common.{ap, map, ◌∙◌}
use Rattle.formula_core.specs.GroundLists.{the_value}
use Rattle.tableau_cert.proofs.SteppingLaws.{delta-way}
use Rattle.tableau_cert.specs.WayView.{the_way}
use Rattle.tableau_cert.proofs.stepping.inside_delta.Goals as goal

pub returns : goal.returns
returns c = delta-way c.args.table.now c.add_values.new.self c.in_ok-taken.ensures.grown (the_way c.args.way.now) c.requires c.in_ok-taken.taken (c.in_ok-taken.ensures.list ∙ ap (map (the_value c.args.table.now)) c.deref.ensures.value) c.in_ok-taken.ensures.normal c.args.position c.push.new.self.items c.in_ok-push.ensures.items
