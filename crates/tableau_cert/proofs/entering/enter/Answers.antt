use Rattle.calculus.specs.declared.kind.ModalPart.TheVariants.{Plain, Nu, Pi}
use Rattle.formula_core.specs.FormulaView.{the_formula}
use Rattle.tableau_cert.proofs.EnteringLaws.{entered-by, entered-plain}
use Rattle.tableau_cert.specs.WayView.{the_way}
use Rattle.tableau_cert.proofs.entering.enter.Goals as goal

pub returns-in-Plain : goal.returns-in-Plain
returns-in-Plain c = let v = the_way c.args.way.now in let t = c.args.placed in
    entered-by c.args.logic c.args.given.now c.args.table.now c.args.table.now v v t.position c.args.supply t.part.sign (the_formula t.part.formula.now) c.kind_of.result.modal Plain _ c.kind_of.ensures.modal c.in-Plain.is (entered-plain c.args.logic c.args.given.now c.args.table.now v t.position c.args.supply c.requires.way c.requires.values c.requires.grown)

pub returns-in_ok-entered-in-Nu : goal.returns-in_ok-entered-in-Nu
returns-in_ok-entered-in-Nu c = let t = c.args.placed in
    entered-by c.args.logic c.args.given.now c.args.table.now c.args.table.now (the_way c.args.way.now) (the_way c.enter_nu.new.way) t.position c.args.supply t.part.sign (the_formula t.part.formula.now) c.kind_of.result.modal Nu _ c.kind_of.ensures.modal c.in-Nu.is (c.in_ok-entered-in-Nu.ensures t.position)

pub returns-in_ok-entered-in-Pi : goal.returns-in_ok-entered-in-Pi
returns-in_ok-entered-in-Pi c = let t = c.args.placed in
    entered-by c.args.logic c.args.given.now c.args.table.now c.enter_pi.new.table (the_way c.args.way.now) (the_way c.enter_pi.new.way) t.position c.args.supply t.part.sign (the_formula t.part.formula.now) c.kind_of.result.modal Pi _ c.kind_of.ensures.modal c.in-Pi.is (c.in_ok-entered-in-Pi.ensures c.args.given.now c.requires.values)
