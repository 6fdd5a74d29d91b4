use Rattle.std.proofs.Common.{length, refl, ap, sym, ◌∙◌}
use Rattle.std.proofs.lemmas.List.{length-map}
use Rattle.formula_core.specs.GroundLists.{the_mark}
use Rattle.tableau_cert.proofs.EnteringLaws.{entered-nu, long, missing, string-normal}
use Rattle.tableau_cert.proofs.SteppingLaws.{grown-none}
use Rattle.tableau_cert.specs.WayView.{the_way}
use Rattle.tableau_cert.proofs.entering.enter_nu.Goals as goal

pub returns-in-None : goal.returns-in-None
returns-in-None c p = missing c.args.logic c.args.given.now c.args.table.now (the_way c.args.way.now) p c.args.supply c.requires.grown c.in-None.ensures

pub returns-then-not-is_step_length : goal.returns-then-not-is_step_length
returns-then-not-is_step_length c p = long c.args.logic c.args.given.now c.args.table.now (the_way c.args.way.now) p c.args.supply c.requires.grown c.in-Some.next.string c.in-Some.next.after.now (length c.marks-string.result.now) c.in-Some.ensures (sym (length-map c.marks-string.result.now (the_mark c.args.given.now)) ∙ ap length c.marks-string.ensures.list) (sym c.is_step_length.ensures ∙ c.if-not-is_step_length.true)

pub after_string-requires-clause-string : goal.after_string-requires-clause-string
after_string-requires-clause-string c = string-normal c.args.given.now c.args.table.now c.args.supply.values.now c.in-Some.next.after.now c.in-Some.next.string c.requires.grown c.in-Some.ensures c.requires.values

pub returns-in_ok-after_string-in-Some : goal.returns-in_ok-after_string-in-Some
returns-in_ok-after_string-in-Some c p = entered-nu c.args.logic c.args.given.now c.args.table.now (the_way c.args.way.now) p c.args.supply c.requires.grown c.args.table.now (the_way c.after_string.new.way) c.in-Some.next.string (length c.marks-string.result.now) _ c.requires.values refl c.in-Some.ensures (sym (length-map c.marks-string.result.now (the_mark c.args.given.now)) ∙ ap length c.marks-string.ensures.list) (sym c.is_step_length.ensures ∙ c.if-not-is_step_length.false) (c.in_ok-after_string-in-Some.ensures p (grown-none c.args.table.now c.requires.grown.most))
