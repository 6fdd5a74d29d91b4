use Rattle.std.proofs.Common.{◌+◌, arith}
use Rattle.calculus.specs.Syntax.{neg, imp, all, ex, box, dia}
use Rattle.formula_core.specs.FormulaView.{the_formula}
use Rattle.finite_model.proofs.FormulaArms.{form-Not, form-Imp, form-All, form-Ex, form-Nec, form-Poss}
use Rattle.finite_model.proofs.ShortLaws.{short-form, short-not, short-imp, short-all, short-ex, short-box, short-dia}
use Rattle.finite_model.proofs.shortening.+short_formula.Goals as goal

pub returns-in_ok-whole-in-Not : goal.returns-in_ok-whole-in-Not
returns-in_ok-whole-in-Not t c =
    short-form c.args.structure.now c.args.depth (the_formula c.args.formula.now) (neg (the_formula c.deref.result.now)) (neg (the_formula c.in_ok-part-in-Not.part)) (the_formula c.in_ok-whole-in-Not.whole) (form-Not c.args.formula.now c.in-Not.a c.deref.result.now c.in-Not.is c.deref.ensures) c.in_ok-whole-in-Not.ensures
    (short-not c.args.structure.now c.args.depth (the_formula c.deref.result.now) (the_formula c.in_ok-part-in-Not.part) c.in_ok-part-in-Not.ensures)

pub returns-in_ok-whole-in-Imp : goal.returns-in_ok-whole-in-Imp
returns-in_ok-whole-in-Imp t c =
    short-form c.args.structure.now c.args.depth (the_formula c.args.formula.now) (imp (the_formula c.deref-in-Imp.result.now) (the_formula c.deref-in-Imp-2.result.now)) (imp (the_formula c.in_ok-left-in-Imp.left) (the_formula c.in_ok-right-in-Imp.right)) (the_formula c.in_ok-whole-in-Imp.whole) (form-Imp c.args.formula.now c.in-Imp.a c.in-Imp.b c.deref-in-Imp.result.now c.deref-in-Imp-2.result.now c.in-Imp.is c.deref-in-Imp.ensures c.deref-in-Imp-2.ensures) c.in_ok-whole-in-Imp.ensures
    (short-imp c.args.structure.now c.args.depth (the_formula c.deref-in-Imp.result.now) (the_formula c.deref-in-Imp-2.result.now) (the_formula c.in_ok-left-in-Imp.left) (the_formula c.in_ok-right-in-Imp.right) c.in_ok-left-in-Imp.ensures c.in_ok-right-in-Imp.ensures)

pub returns-in_ok-whole-in-All : goal.returns-in_ok-whole-in-All
returns-in_ok-whole-in-All t c =
    short-form c.args.structure.now c.args.depth (the_formula c.args.formula.now) (all (the_formula c.deref-in-All.result.now)) (all (the_formula c.in_ok-part-in-All.part)) (the_formula c.in_ok-whole-in-All.whole) (form-All c.args.formula.now c.in-All.a c.deref-in-All.result.now c.in-All.is c.deref-in-All.ensures) c.in_ok-whole-in-All.ensures
    (short-all c.args.structure.now c.args.depth (c.args.depth + 1) (the_formula c.deref-in-All.result.now) (the_formula c.in_ok-part-in-All.part) (omega arith) c.in_ok-part-in-All.ensures)

pub returns-in_ok-whole-in-Ex : goal.returns-in_ok-whole-in-Ex
returns-in_ok-whole-in-Ex t c =
    short-form c.args.structure.now c.args.depth (the_formula c.args.formula.now) (ex (the_formula c.deref-in-Ex.result.now)) (ex (the_formula c.in_ok-part-in-Ex.part)) (the_formula c.in_ok-whole-in-Ex.whole) (form-Ex c.args.formula.now c.in-Ex.a c.deref-in-Ex.result.now c.in-Ex.is c.deref-in-Ex.ensures) c.in_ok-whole-in-Ex.ensures
    (short-ex c.args.structure.now c.args.depth (c.args.depth + 1) (the_formula c.deref-in-Ex.result.now) (the_formula c.in_ok-part-in-Ex.part) (omega arith) c.in_ok-part-in-Ex.ensures)

pub returns-in_ok-whole-in-Nec : goal.returns-in_ok-whole-in-Nec
returns-in_ok-whole-in-Nec t c =
    short-form c.args.structure.now c.args.depth (the_formula c.args.formula.now) (box (the_formula c.deref-in-Nec.result.now)) (box (the_formula c.in_ok-part-in-Nec.part)) (the_formula c.in_ok-whole-in-Nec.whole) (form-Nec c.args.formula.now c.in-Nec.a c.deref-in-Nec.result.now c.in-Nec.is c.deref-in-Nec.ensures) c.in_ok-whole-in-Nec.ensures
    (short-box c.args.structure.now c.args.depth (the_formula c.deref-in-Nec.result.now) (the_formula c.in_ok-part-in-Nec.part) c.in_ok-part-in-Nec.ensures)

pub returns-in_ok-whole-in-Poss : goal.returns-in_ok-whole-in-Poss
returns-in_ok-whole-in-Poss t c =
    short-form c.args.structure.now c.args.depth (the_formula c.args.formula.now) (dia (the_formula c.deref-in-Poss.result.now)) (dia (the_formula c.in_ok-part-in-Poss.part)) (the_formula c.in_ok-whole-in-Poss.whole) (form-Poss c.args.formula.now c.in-Poss.a c.deref-in-Poss.result.now c.in-Poss.is c.deref-in-Poss.ensures) c.in_ok-whole-in-Poss.ensures
    (short-dia c.args.structure.now c.args.depth (the_formula c.deref-in-Poss.result.now) (the_formula c.in_ok-part-in-Poss.part) c.in_ok-part-in-Poss.ensures)
