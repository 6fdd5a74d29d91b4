use Rattle.std.proofs.Common.{subst}
use Rattle.calculus.specs.Kinds.{components, shape_of}
use Rattle.formula_core.specs.FormulaView.{the_formula}
use Rattle.formula_core.proofs.GrownLaws.{grown-both}
use Rattle.tableau_core.specs.Walks.{shaped_by}
use Rattle.tableau_cert.specs.Gathering.{IsEntered, IsOpened, part_size}
use Rattle.tableau_cert.proofs.WalkingLaws.{taken, taken-none, taken-not_opened}
use Rattle.tableau_cert.specs.WayView.{the_way}
use Rattle.tableau_cert.proofs.gathering.step_of.Goals as goal

pub returns-in-None : goal.returns-in-None
returns-in-None c = let t = c.args.placed in let v = the_way c.args.way.now in let m = the_way c.enter.new.way in
    taken-none c.args.problem.now c.args.logic c.args.given.now c.args.table.now c.enter.new.table v m t c.args.supply
    (subst (IsEntered c.args.logic c.args.given.now c.args.table.now c.enter.new.table v m t.part.sign (the_formula t.part.formula.now) t.position c.args.supply) c.in-None.is c.in_ok-enter.ensures)

pub open_part-requires-clause-way : goal.open_part-requires-clause-way
open_part-requires-clause-way c = let t = c.args.placed in let v = the_way c.args.way.now in let m = the_way c.enter.new.way in
    (subst (IsEntered c.args.logic c.args.given.now c.args.table.now c.enter.new.table v m t.part.sign (the_formula t.part.formula.now) t.position c.args.supply) c.in-Some.is c.in_ok-enter.ensures).past.way

pub open_part-requires-clause-values : goal.open_part-requires-clause-values
open_part-requires-clause-values c = let t = c.args.placed in let v = the_way c.args.way.now in let m = the_way c.enter.new.way in
    (subst (IsEntered c.args.logic c.args.given.now c.args.table.now c.enter.new.table v m t.part.sign (the_formula t.part.formula.now) t.position c.args.supply) c.in-Some.is c.in_ok-enter.ensures).past.values

pub open_part-requires-clause-grown : goal.open_part-requires-clause-grown
open_part-requires-clause-grown c = grown-both _ _ _ c.requires.grown c.in_ok-enter.ensures.grown

pub returns-in-None-opened : goal.returns-in-None-opened
returns-in-None-opened c = let t = c.args.placed in let P = c.args.problem.now in let l = c.args.logic in let given = c.args.given.now in
    let v = the_way c.args.way.now in let m = the_way c.enter.new.way in let w = the_way c.open_part.new.way in
    taken-not_opened P l given c.args.table.now c.enter.new.table c.open_part.new.table v m w t c.args.supply c.in-Some.entered
    (subst (IsEntered l given c.args.table.now c.enter.new.table v m t.part.sign (the_formula t.part.formula.now) t.position c.args.supply) c.in-Some.is c.in_ok-enter.ensures)
    (subst (IsOpened P l given c.enter.new.table c.open_part.new.table m w (shaped_by l (shape_of t.part.sign (the_formula t.part.formula.now)) (components t.part.sign (the_formula t.part.formula.now))) (part_size t) t.position c.in-Some.entered.supply) c.in-None-opened.is (c.in_ok-opened-in-Some.ensures l))

pub returns-in-Some-opened : goal.returns-in-Some-opened
returns-in-Some-opened c = let t = c.args.placed in let P = c.args.problem.now in let l = c.args.logic in let given = c.args.given.now in
    let v = the_way c.args.way.now in let m = the_way c.enter.new.way in let w = the_way c.open_part.new.way in
    taken P l given c.args.table.now c.enter.new.table c.open_part.new.table v m w t c.args.supply c.in-Some.entered c.in-Some-opened.step
    (subst (IsEntered l given c.args.table.now c.enter.new.table v m t.part.sign (the_formula t.part.formula.now) t.position c.args.supply) c.in-Some.is c.in_ok-enter.ensures)
    (subst (IsOpened P l given c.enter.new.table c.open_part.new.table m w (shaped_by l (shape_of t.part.sign (the_formula t.part.formula.now)) (components t.part.sign (the_formula t.part.formula.now))) (part_size t) t.position c.in-Some.entered.supply) c.in-Some-opened.is (c.in_ok-opened-in-Some.ensures l))
