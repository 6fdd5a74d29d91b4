-- The component on the way to a place below a formula.
use Rattle.std.specs.Prelude.{◌≡◌, ℕ, suc, ◌+◌, ◌-◌, ◌<◌, List, [], ◌∷◌, nat_lt, if◌then◌else◌}
use Rattle.calculus.specs.declared.sign.Sign.{Sign}
use Rattle.calculus.specs.Kinds.{Signed}
use Rattle.calculus.specs.Positions.{size, Node, way_from}
use Rattle.calculus.specs.Syntax.{Formula}
use Rattle.formula_core.specs.FormulaView.{the_formula}
use Rattle.tableau_core.specs.declared.way.Inside.{Inside as Below}

-- a signed formula so many positions further, and a place counted from there
pub record Inside : Type 0 where
  pub sign : Sign
  pub formula : Formula
  pub further : ℕ
  pub place : ℕ

abbrev pub the_inside : Below → Inside
the_inside i = record { sign = i.part.sign; formula = the_formula i.part.formula.now; further = i.further; place = i.place }

-- the way from the components of a formula that stands at q to the place p below them, p being counted from the first one
abbrev pub way_inside : ℕ → ℕ → List Signed → List Node
way_inside q p [] = []
way_inside q p (a ∷ []) = way_from (suc q) a.sign a.formula p
way_inside q p (a ∷ b ∷ cs) = if nat_lt p (size a.formula) then way_from (suc q) a.sign a.formula p else way_from (suc (q + size a.formula)) b.sign b.formula (p - size a.formula)

-- it goes to a place below the formula of these components
pub record LeadsOn (place : ℕ) (cs : List Signed) (i : Inside) : Type 0 where
  pub way : (q : ℕ) → way_inside q (place - 1) cs ≡ way_from (q + i.further) i.sign i.formula i.place
  pub inside : i.place < size i.formula
  pub position : i.further + i.place ≡ place
