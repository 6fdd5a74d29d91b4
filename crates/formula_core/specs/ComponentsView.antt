-- The signed formulas and the components that those of the program stand for.
use Rattle.std.specs.Prelude.{ℕ, suc, ◌+◌, List, [], ◌∷◌, Option, Some, None}
use Rattle.calculus.specs.declared.sign.Sign.{Sign}
use Rattle.calculus.specs.declared.kind.Shape.{Shape}
use Rattle.calculus.specs.declared.kind.Shape.TheVariants as shape
use Rattle.calculus.specs.Kinds as kinds
use Rattle.calculus.specs.Lists.{terms_tree}
use Rattle.calculus.specs.Positions.{size}
use Rattle.calculus.specs.Syntax as tree
use Rattle.formula_core.specs.FormulaView.{the_formula}
use Rattle.formula_core.specs.declared.components.Signed.{Signed}
use Rattle.formula_core.specs.declared.components.Components.{Components}
use Rattle.formula_core.specs.declared.components.Components.TheVariants.{Literal, One, Alpha, Beta, Gamma, Delta}

abbrev pub the_signed : Signed → kinds.Signed
the_signed a = kinds.signed a.sign (the_formula a.formula.now)

-- the components of a formula with the sign; a literal is its own
abbrev pub the_components : Sign → Components → List kinds.Signed
the_components s (Literal p ts) = kinds.signed s (tree.atom p.0 (terms_tree ts.now)) ∷ []
the_components s (One a) = the_signed a ∷ []
the_components s (Alpha a b) = the_signed a ∷ the_signed b ∷ []
the_components s (Beta a b) = the_signed a ∷ the_signed b ∷ []
the_components s (Gamma a) = the_signed a ∷ []
the_components s (Delta a) = the_signed a ∷ []

-- the shape of the formula that has them
abbrev pub the_shape : Components → Shape
the_shape (Literal p ts) = shape.Literal
the_shape (One a) = shape.Alpha
the_shape (Alpha a b) = shape.Alpha
the_shape (Beta a b) = shape.Beta
the_shape (Gamma a) = shape.Gamma
the_shape (Delta a) = shape.Delta

-- the atom of a literal
abbrev pub atom_in : Components → Option tree.Formula
atom_in (Literal p ts) = Some (tree.atom p.0 (terms_tree ts.now))
atom_in _ = None

-- the size of the formula that has them, by theirs
abbrev pub size_by : Components → ℕ
size_by (Literal p ts) = 1
size_by (One a) = suc (size (the_formula a.formula.now))
size_by (Alpha a b) = suc (size (the_formula a.formula.now) + size (the_formula b.formula.now))
size_by (Beta a b) = suc (size (the_formula a.formula.now) + size (the_formula b.formula.now))
size_by (Gamma a) = suc (size (the_formula a.formula.now))
size_by (Delta a) = suc (size (the_formula a.formula.now))
