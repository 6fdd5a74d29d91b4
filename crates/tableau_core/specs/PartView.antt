-- The signed formulas and the components that parts of the problem's formula stand for.
use Rattle.std.specs.Prelude.{ℕ, suc, ◌+◌, List, [], ◌∷◌}
use Rattle.calculus.specs.declared.sign.Sign.{Sign}
use Rattle.calculus.specs.declared.kind.Shape.{Shape}
use Rattle.calculus.specs.declared.kind.Shape.TheVariants as shape
use Rattle.calculus.specs.Kinds.{Signed, signed}
use Rattle.calculus.specs.Lists.{terms_tree}
use Rattle.calculus.specs.Positions.{size}
use Rattle.calculus.specs.Syntax.{atom}
use Rattle.formula_core.specs.FormulaView.{the_formula}
use Rattle.tableau_core.specs.declared.part.Part.{Part}
use Rattle.tableau_core.specs.declared.parts.Parts.{Parts}
use Rattle.tableau_core.specs.declared.parts.Parts.TheVariants.{Literal, One, Alpha, Beta, Gamma, Delta}

abbrev pub the_part : Part → Signed
the_part a = signed a.sign (the_formula a.formula.now)

-- the components of a formula with the sign; a literal is its own
abbrev pub the_parts : Sign → Parts → List Signed
the_parts s (Literal p ts) = signed s (atom p.0 (terms_tree ts.now)) ∷ []
the_parts s (One a) = the_part a ∷ []
the_parts s (Alpha a b) = the_part a ∷ the_part b ∷ []
the_parts s (Beta a b) = the_part a ∷ the_part b ∷ []
the_parts s (Gamma a) = the_part a ∷ []
the_parts s (Delta a) = the_part a ∷ []

-- the shape of the formula that has them
abbrev pub the_shape : Parts → Shape
the_shape (Literal p ts) = shape.Literal
the_shape (One a) = shape.Alpha
the_shape (Alpha a b) = shape.Alpha
the_shape (Beta a b) = shape.Beta
the_shape (Gamma a) = shape.Gamma
the_shape (Delta a) = shape.Delta

-- the size of the formula that has them, by theirs
abbrev pub size_by : Parts → ℕ
size_by (Literal p ts) = 1
size_by (One a) = suc (size (the_formula a.formula.now))
size_by (Alpha a b) = suc (size (the_formula a.formula.now) + size (the_formula b.formula.now))
size_by (Beta a b) = suc (size (the_formula a.formula.now) + size (the_formula b.formula.now))
size_by (Gamma a) = suc (size (the_formula a.formula.now))
size_by (Delta a) = suc (size (the_formula a.formula.now))
