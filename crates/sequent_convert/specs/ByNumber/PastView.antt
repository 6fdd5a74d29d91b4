-- What the program has past a modal part stands for. A turn is done with all its values, so what is made has their number.
use Rattle.std.specs.Prelude.{ℕ, List, [], ◌∷◌, ◌++◌, take, map}
use Rattle.calculus.specs.declared.kind.ModalPart.{ModalPart}
use Rattle.calculus.specs.declared.kind.Shape.{Shape}
use Rattle.calculus.specs.declared.kind.Shape.TheVariants.{Gamma, Alpha, Beta, Delta, Literal}
use Rattle.calculus.specs.declared.sign.Sign.{Sign}
use Rattle.calculus.specs.Derivations.{by_term}
use Rattle.calculus.specs.Ground.{Value, term}
use Rattle.calculus.specs.Instances.{spot_inside}
use Rattle.calculus.specs.Kinds.{Signed, components}
use Rattle.calculus.specs.Syntax.{Formula}
use Rattle.conversion_theory.specs.Branches as tree
use Rattle.conversion_theory.specs.Numbering.{numbered_term}
use Rattle.conversion_theory.specs.Turns.{Name}
use Rattle.formula_core.specs.GroundLists.{GroundList, the_value}
use Rattle.sequent_calc.specs.StepView.{the_modal}
use Rattle.sequent_convert.specs.declared.past.Past as program
use Rattle.sequent_convert.specs.ByNumber.SpotView.{taken_is, the_spot}

abbrev pub the_past : List GroundList → program.Past → tree.Past
the_past ls p = record { spot = the_spot ls p.spot; arg = the_modal p.arg; rest = map (the_value ls) p.rest.now }

-- the same once these values are taken
abbrev pub taking : List Value → tree.Past → tree.Past
taking vs q = record { spot = taken_is vs q.spot; arg = q.arg; rest = q.rest }

-- the values that are taken once the position is passed: a gamma position takes one more
abbrev pub taken_after : Shape → tree.Past → List Value
taken_after Gamma q = q.spot.taken ++ take 1 q.rest
taken_after h q = q.spot.taken

-- what is made where all values of the turn are taken already
abbrev pub gamma_taken : (Name → ℕ) → tree.Past → List Value → List Signed → tree.Made
gamma_taken num q (term t ∷ vs) (a ∷ []) = tree.grows q.arg (by_term (numbered_term num t)) (tree.item (spot_inside t q.spot.taken q.spot) a.sign a.formula ∷ [])
gamma_taken num q vs xs = tree.rests

abbrev pub made_taken : (Name → ℕ) → Shape → ModalPart → tree.Past → Sign → Formula → tree.Made
made_taken num Gamma m q s f = gamma_taken num q q.rest (components s f)
made_taken num Literal m q s f = tree.made_literal m q s f
made_taken num Alpha m q s f = tree.made_alpha q (components s f)
made_taken num Beta m q s f = tree.made_beta q (components s f)
made_taken num Delta m q s f = tree.made_delta num q (components s f)
