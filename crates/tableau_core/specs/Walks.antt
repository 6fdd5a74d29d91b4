-- What a walk through an instance leaves.
use Rattle.std.specs.Prelude.{◌&&◌, Bool, true, false, ℕ, ◌+◌, min, List, [], ◌∷◌, Option, Some, None, option_map, if◌then◌else◌}
use Rattle.std.specs.List.{list_all}
use Rattle.calculus.specs.declared.sign.Sign.{Sign}
use Rattle.calculus.specs.declared.setting.Logic.{Logic}
use Rattle.calculus.specs.declared.kind.Shape.{Shape}
use Rattle.calculus.specs.declared.kind.Shape.TheVariants.{Alpha, Literal}
use Rattle.calculus.specs.ComputedInstances.{is_allowed_instance, modal_steps, Supply, Part, part_of, at_literal, at_one, at_two, at_quantifier}
use Rattle.calculus.specs.Equality.{literal_eq}
use Rattle.calculus.specs.Ground.{GroundLiteral, Value, term, steps}
use Rattle.calculus.specs.Instances as tree
use Rattle.calculus.specs.Kinds.{Signed}
use Rattle.calculus.specs.Positions.{size}
use Rattle.calculus.specs.Skolem.{is_empty}
use Rattle.calculus.specs.Syntax.{Formula, Terms, atom, Problem}

-- what is still to be used of an instance, and the number of its nu and pi steps so far
pub record Left : Type 0 where
  pub supply : Supply
  pub literals : List GroundLiteral
  pub steps : ℕ

-- a number that stops at the end of 64 bits
abbrev pub capped : ℕ → ℕ
capped n = min n 18446744073709551615

-- the second list after the first, which it begins with
abbrev pub after_literals : List GroundLiteral → List GroundLiteral → Option (List GroundLiteral)
after_literals [] ys = Some ys
after_literals (x ∷ xs) [] = None
after_literals (x ∷ xs) (y ∷ ys) = if literal_eq x y then after_literals xs ys else None

abbrev pub left_by : List GroundLiteral → ℕ → Part → Option Left
left_by ls n x = option_map (λ (rest : List GroundLiteral). record { supply = x.left_over; literals = rest; steps = capped (n + (x.nus + x.pis)) }) (after_literals x.literals ls)

-- what a part leaves, where its gamma terms are allowed and its literals are those that come next
unfoldable pub left_after : Problem → List GroundLiteral → ℕ → Option Part → Option Left
left_after P ls n None = None
left_after P ls n (Some x) = if list_all (tree.gamma_is_allowed P) x.gammas then left_by ls n x else None

unfoldable pub left : Problem → (tree.Spot → Supply → Option Part) → tree.Spot → Left → Option Left
left P go c r = left_after P r.literals r.steps (go c r.supply)

abbrev pub one_more_step : Left → Left
one_more_step r = record r { steps = capped (r.steps + 1) }

abbrev pub starts_with_string : List Value → Bool
starts_with_string (steps s ∷ vs) = true
starts_with_string _ = false

abbrev pub starts_with_term : List Value → Bool
starts_with_term (term t ∷ vs) = true
starts_with_term _ = false

-- the literal of an atom at a spot
abbrev pub literal_at : Sign → ℕ → Terms → tree.Spot → GroundLiteral
literal_at s p ts c = record { sign = s; symbol = p; args = tree.grounds_of c.env ts; label = c.label }

abbrev pub at_atom : Sign → Formula → tree.Spot → Supply → Option Part
at_atom s (atom p ts) = at_literal s p ts
at_atom s _ = λ c u. None

-- the part after the modal one, by the shape and the components
abbrev pub shaped_by : Logic → Shape → List Signed → tree.Spot → Supply → Option Part
shaped_by l k [] = λ c u. None
shaped_by l Literal (a ∷ []) = at_atom a.sign a.formula
shaped_by l Alpha (a ∷ []) = at_one (part_of l a.formula a.sign)
shaped_by l k (a ∷ []) = at_quantifier k (part_of l a.formula a.sign)
shaped_by l k (a ∷ b ∷ cs) = at_two k (size a.formula) (part_of l a.formula a.sign) (part_of l b.formula b.sign)

-- nothing is left of an instance
abbrev pub is_used_up : Left → Bool
is_used_up r = is_empty r.supply.sides && is_empty r.supply.values && is_empty r.literals

abbrev pub finished : Option Left → Option ℕ
finished None = None
finished (Some r) = if is_used_up r then Some r.steps else None

-- the number of steps of an allowed instance
abbrev pub steps_if_allowed : Problem → tree.ClauseInstance → Option ℕ
steps_if_allowed P i = if is_allowed_instance P i then Some (capped (modal_steps P i)) else None
