-- What a walk over a signed formula adds to a clause.
use Rattle.std.specs.Prelude.{◌≡◌, ◌≤◌, ℕ, ◌+◌, List, [], ◌∷◌, ◌++◌, length, Some, None}
use Rattle.calculus.specs.declared.kind.Shape.{Shape}
use Rattle.calculus.specs.declared.kind.Shape.TheVariants.{Alpha, Literal}
use Rattle.calculus.specs.declared.setting.Logic.{Logic}
use Rattle.calculus.specs.declared.sign.Side.{Side}
use Rattle.calculus.specs.declared.sign.Sign.{Sign}
use Rattle.calculus.specs.declared.sort.Sort.{Sort}
use Rattle.calculus.specs.declared.sign.Sign.TheVariants.{F}
use Rattle.calculus.specs.Kinds.{Signed}
use Rattle.store_theory.specs.Patterns.{PatternAtom, PatternGamma, Template}
use Rattle.calculus.specs.Positions.{size}
use Rattle.calculus.specs.Syntax.{Formula, atom}
use Rattle.search_theory.specs.TemplateOf.{PatternBody, PatternPart, PatternSpot, pattern_atom, pattern_one, pattern_part, pattern_quantifier, pattern_two, root_pattern_spot, template_by}

-- a clause as far as it is built, with the sides that are still to be used
pub record BuiltPart : Type 0 where
  pub literals : List PatternAtom
  pub gammas : List PatternGamma
  pub pis : ℕ
  pub sorts : List Sort
  pub sides : List Side

abbrev pub with_part : BuiltPart → PatternPart → BuiltPart
with_part b y = record { literals = b.literals ++ y.literals; gammas = b.gammas ++ y.gammas; pis = b.pis + y.pis; sorts = b.sorts ++ y.sorts; sides = y.sides }

-- how many of its literals, pi steps and variables there are: these have numbers of 32 bits
abbrev pub numbered : BuiltPart → ℕ
numbered b = length b.literals + b.pis + length b.sorts

-- before a position: each of those before it adds at most two, one by its modal part and one by its shape
abbrev pub IsFewBefore : ℕ → BuiltPart → Type 0
IsFewBefore q b = numbered b ≤ q + q

-- behind the modal part of a position
abbrev pub IsFewAt : ℕ → BuiltPart → Type 0
IsFewAt q b = numbered b ≤ q + q + 1

abbrev pub with_sort : Sort → BuiltPart → BuiltPart
with_sort s b = record b { sorts = b.sorts ++ s ∷ [] }

abbrev pub with_pi : BuiltPart → BuiltPart
with_pi b = record b { pis = b.pis + 1 }

abbrev pub with_gamma : PatternGamma → BuiltPart → BuiltPart
with_gamma g b = record b { gammas = b.gammas ++ g ∷ [] }

abbrev pub with_literal : PatternAtom → BuiltPart → BuiltPart
with_literal a b = record b { literals = b.literals ++ a ∷ [] }

abbrev pub with_side : Side → BuiltPart → BuiltPart
with_side s b = record b { sides = s ∷ b.sides }

-- what the body gives at this spot was added
abbrev pub Adds : PatternBody → PatternSpot → BuiltPart → BuiltPart → Type 0
Adds body c before after = (y : PatternPart) → body c before.sides (length before.sorts) ≡ Some y → after ≡ with_part before y

-- ---- a signed formula without its modal part, by its shape and components

abbrev pub nothing : PatternBody
nothing c ss n = None

abbrev pub literal_by : Sign → Formula → PatternBody
literal_by s (atom p ts) = pattern_atom s p ts
literal_by s _ = nothing

abbrev pub signed_part : Logic → Signed → PatternBody
signed_part l x = pattern_part l x.formula x.sign

abbrev pub body_by : Logic → Shape → List Signed → PatternBody
body_by l h [] = nothing
body_by l Literal (x ∷ []) = literal_by x.sign x.formula
body_by l Alpha (x ∷ []) = pattern_one (signed_part l x)
body_by l h (x ∷ []) = pattern_quantifier h (signed_part l x)
body_by l h (x ∷ y ∷ zs) = pattern_two h (size x.formula) (signed_part l x) (signed_part l y)

-- ---- the whole clause

abbrev pub nothing_built : List Side → BuiltPart
nothing_built sides = record { literals = []; gammas = []; pis = 0; sorts = []; sides = sides }

-- where the sides are those of a clause of the formula, the template is this clause's
abbrev pub IsTemplateIfAny : Logic → Formula → List Side → Template → Type 0
IsTemplateIfAny l f sides t = (y : PatternPart) → pattern_part l f F root_pattern_spot sides 0 ≡ Some y → t ≡ template_by y
