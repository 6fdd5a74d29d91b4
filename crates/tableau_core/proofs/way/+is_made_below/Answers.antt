use Rattle.std.proofs.Common.{arith, map, refl}
use Rattle.calculus.specs.Skolem.{is_empty}
use Rattle.formula_core.specs.FormulaView.{the_formula}
use Rattle.formula_core.specs.GroundLists.{the_value}
use Rattle.tableau_core.specs.InsideView.{the_inside}
use Rattle.tableau_core.proofs.WayLaws.{made-here, made-last, made-not, made-inside, past-kind}
use Rattle.tableau_core.proofs.way.+is_made_below.Goals as goal

pub returns-then-is_maker : goal.returns-then-is_maker
returns-then-is_maker t c q = let rest = map (the_value c.args.table.now) c.in-Some.rest.now in
    made-here c.args.maker c.args.logic q c.args.part.sign (the_formula c.args.part.formula.now) c.args.place (map (the_value c.args.table.now) c.args.values.now) rest c.kind_of-kind.result.modal c.kind_of-kind.result.shape c.is_empty.result c.if-place-eq0.true c.kind_of-kind.ensures.modal c.kind_of-kind.ensures.shape c.in-Some.ensures (made-last (the_value c.args.table.now) c.in-Some.rest.now c.is_maker.result _ c.is_empty.result c.if-is_maker.true c.is_maker.ensures c.is_empty.ensures)

pub returns-else-is_maker : goal.returns-else-is_maker
returns-else-is_maker t c q = let rest = map (the_value c.args.table.now) c.in-Some.rest.now in
    made-here c.args.maker c.args.logic q c.args.part.sign (the_formula c.args.part.formula.now) c.args.place (map (the_value c.args.table.now) c.args.values.now) rest c.kind_of-kind.result.modal c.kind_of-kind.result.shape c.is_maker.result c.if-place-eq0.true c.kind_of-kind.ensures.modal c.kind_of-kind.ensures.shape c.in-Some.ensures (made-not c.is_maker.result _ c.is_maker.result (is_empty rest) c.if-is_maker.false c.is_maker.ensures refl)

pub is_made_below-requires : goal.is_made_below-requires
is_made_below-requires t c = (omega arith, (omega arith, c.towards-next.ensures.leads.inside))

pub returns : goal.returns
returns t c = made-inside c.args.maker c.args.logic c.args.part.sign (the_formula c.args.part.formula.now) c.args.place (map (the_value c.args.table.now) c.args.values.now) (map (the_value c.args.table.now) c.in-Some.rest.now) (the_inside c.towards-next.result) c.is_made_below.result c.requires.inside (omega arith) c.towards-next.ensures.leads (past-kind c.args.logic c.kind_of-kind.result.modal _ c.kind_of-kind.result.shape _ _ _ c.kind_of-kind.ensures.modal c.kind_of-kind.ensures.shape c.in-Some.ensures) c.is_made_below.ensures
