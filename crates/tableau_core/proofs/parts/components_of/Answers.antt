use Rattle.std.proofs.Common.{◌∷◌, []}
use Rattle.calculus.specs.declared.kind.Shape.TheVariants as shape
use Rattle.formula_core.specs.ComponentsView.{the_signed}
use Rattle.formula_core.specs.FormulaView.{the_formula}
use Rattle.tableau_core.proofs.SizeLaws.{parts-of}
use Rattle.tableau_core.proofs.parts.components_of.Goals as goal

pub first-requires-in-Alpha : goal.first-requires-in-Alpha
first-requires-in-Alpha c = let here = c.in-Alpha in
    (parts-of c.args.a.sizes.now c.args.a.sign (the_formula c.args.a.formula.now) shape.Alpha (the_signed here.b ∷ the_signed here.c ∷ []) here.ensures.shape here.ensures.components c.args.a.sized).first

pub second-requires-clause-first : goal.second-requires-clause-first
second-requires-clause-first c = let here = c.in-Alpha in
    (parts-of c.args.a.sizes.now c.args.a.sign (the_formula c.args.a.formula.now) shape.Alpha (the_signed here.b ∷ the_signed here.c ∷ []) here.ensures.shape here.ensures.components c.args.a.sized).first

pub second-requires-clause-second : goal.second-requires-clause-second
second-requires-clause-second c = let here = c.in-Alpha in
    (parts-of c.args.a.sizes.now c.args.a.sign (the_formula c.args.a.formula.now) shape.Alpha (the_signed here.b ∷ the_signed here.c ∷ []) here.ensures.shape here.ensures.components c.args.a.sized).second

pub first-requires-in-Beta : goal.first-requires-in-Beta
first-requires-in-Beta c = let here = c.in-Beta in
    (parts-of c.args.a.sizes.now c.args.a.sign (the_formula c.args.a.formula.now) shape.Beta (the_signed here.b ∷ the_signed here.c ∷ []) here.ensures.shape here.ensures.components c.args.a.sized).first

pub second-requires-in-Beta-clause-first : goal.second-requires-in-Beta-clause-first
second-requires-in-Beta-clause-first c = let here = c.in-Beta in
    (parts-of c.args.a.sizes.now c.args.a.sign (the_formula c.args.a.formula.now) shape.Beta (the_signed here.b ∷ the_signed here.c ∷ []) here.ensures.shape here.ensures.components c.args.a.sized).first

pub second-requires-in-Beta-clause-second : goal.second-requires-in-Beta-clause-second
second-requires-in-Beta-clause-second c = let here = c.in-Beta in
    (parts-of c.args.a.sizes.now c.args.a.sign (the_formula c.args.a.formula.now) shape.Beta (the_signed here.b ∷ the_signed here.c ∷ []) here.ensures.shape here.ensures.components c.args.a.sized).second
