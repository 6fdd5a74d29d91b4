use Rattle.std.proofs.Common.{◌-◌, ap, drop, length, map, take, ◌∙◌}
use Rattle.formula_core.specs.GroundLists.{the_mark}
use Rattle.tableau_cert.proofs.SteppingLaws.{label-entered, label-known}
use Rattle.tableau_cert.specs.WayView.{the_way}
use Rattle.tableau_cert.proofs.way.Way.label_in.Goals as goal

pub returns-in-Some : goal.returns-in-Some
returns-in-Some c = label-known c.args.table.now (the_way c.args.self.now) c.in-Some.label c.requires.most c.requires.way c.in-Some.is

pub returns-in_ok-label-in-None : goal.returns-in_ok-label-in-None
returns-in_ok-label-in-None c = let ls = c.args.table.now in let from = c.args.self.now.start in
    label-entered ls c.add_marks.new.self (the_way c.args.self.now) c.in_ok-label-in-None.label c.in_ok-label-in-None.ensures.grown c.requires.way
    (c.in_ok-label-in-None.ensures.list ∙ ap (λ xs. map (the_mark ls) (take (length xs - from) (drop from xs))) c.deref.ensures.value) c.in_ok-label-in-None.ensures.normal
