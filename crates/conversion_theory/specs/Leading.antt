-- A conversion that is led by its tableau: each open branch has a task, a part of one instance that is to be followed there to its literals,
-- and what closes the branch at each of them. No contract cites this yet.
use Rattle.std.specs.Prelude.{ℕ, zero, suc, ◌+◌, List, [], ◌∷◌, length, Bool, true, false, ◌&&◌, ◌==◌, nat_lt, if◌then◌else◌}
use Rattle.std.specs.Option.{option_map_or}
use Rattle.calculus.specs.declared.kind.Shape.{Shape}
use Rattle.calculus.specs.declared.kind.Shape.TheVariants.{Literal}
use Rattle.calculus.specs.Equality.{list_eq, value_eq}
use Rattle.calculus.specs.Kinds.{shape_of}
use Rattle.calculus.specs.Positions.{Node}
use Rattle.calculus.specs.Skolem.{last_node, way_to}
use Rattle.calculus.specs.declared.sign.Sign.{Sign}
use Rattle.calculus.specs.declared.sign.Sign.TheVariants.{F}
use Rattle.calculus.specs.Syntax.{Formula, Problem}
use Rattle.calculus.specs.Ground.{GroundLiteral}
use Rattle.calculus.specs.Instances.{Spot, root_spot, Turn, Share}
use Rattle.calculus.specs.Tableaux.{Closing, Closings, reduce, extend, no_closings, more_closings}
use Rattle.conversion_theory.specs.Turns.{closing_count, turns_of_instance}

-- what closes a branch that has come to a literal of an instance: a literal of the path, or a closing
pub data End : Type 0 where
  meets_path : End
  by_closing : Closing → End

-- an axiom closes the branch there
abbrev pub closes_at_once : End → Bool
closes_at_once meets_path = true
closes_at_once (by_closing (reduce up)) = true
closes_at_once (by_closing (extend i place below)) = false

-- the literals of the start, each with its closing
abbrev pub ends_of : Closings → List End
ends_of no_closings = []
ends_of (more_closings c cs) = by_closing c ∷ ends_of cs

-- those of an extension: the one at the place meets the goal, the others have their closings in order
abbrev pub ends_at : ℕ → Closings → List End
ends_at zero cs = meets_path ∷ ends_of cs
ends_at (suc k) no_closings = []
ends_at (suc k) (more_closings c cs) = by_closing c ∷ ends_at k cs

-- the axioms that an end may cost
abbrev pub end_cost : End → ℕ
end_cost meets_path = 1
end_cost (by_closing c) = closing_count c

abbrev pub ends_cost : List End → ℕ
ends_cost [] = 0
ends_cost (e ∷ es) = end_cost e + ends_cost es

-- the turns and ends that lie below a closing
abbrev mutual
  pub closing_weight : Problem → Closing → ℕ
  closing_weight P (reduce up) = 1
  closing_weight P (extend i place below) = suc (length (turns_of_instance P i) + suc (closings_weight P below))

  pub closings_weight : Problem → Closings → ℕ
  closings_weight P no_closings = 0
  closings_weight P (more_closings c cs) = closing_weight P c + closings_weight P cs

abbrev pub end_weight : Problem → End → ℕ
end_weight P meets_path = 1
end_weight P (by_closing c) = closing_weight P c

abbrev pub ends_weight : Problem → List End → ℕ
ends_weight P [] = 0
ends_weight P (e ∷ es) = end_weight P e + ends_weight P es

-- the turns that work on atoms: an instance has one for each of its literals, in the same order
abbrev pub is_literal_shape : Shape → Bool
is_literal_shape Literal = true
is_literal_shape _ = false

abbrev pub is_literal_position : Problem → ℕ → Bool
is_literal_position P p = option_map_or (λ (n : Node). is_literal_shape (shape_of n.sign n.formula)) (last_node (way_to P p)) false

abbrev pub literals_among : Problem → List Turn → ℕ
literals_among P [] = 0
literals_among P (x ∷ xs) = (if is_literal_position P x.position then 1 else 0) + literals_among P xs

-- the turns at the front whose positions have smaller numbers than p
abbrev pub turns_before : ℕ → List Turn → ℕ
turns_before p [] = 0
turns_before p (x ∷ xs) = if nat_lt x.position p then suc (turns_before p xs) else 0

abbrev pub turn_eq : Turn → Turn → Bool
turn_eq x y = x.position == y.position && list_eq value_eq x.values y.values

abbrev pub is_done : List Turn → Turn → Bool
is_done [] y = false
is_done (x ∷ xs) y = if turn_eq x y then true else is_done xs y

-- the number of turns of the agenda that are not done
abbrev pub undone : List Turn → List Turn → ℕ
undone [] done = 0
undone (x ∷ xs) done = (if is_done done x then 0 else 1) + undone xs done

-- a signed formula of the branch is to be followed to the literals that it gives, each of which has its end, below a path of literals
pub record Task : Type 0 where
  pub spot : Spot
  pub sign : Sign
  pub formula : Formula
  pub share : Share
  pub ends : List End
  pub path : List GroundLiteral

-- an instance from its root
abbrev pub whole_task : Problem → Share → List End → List GroundLiteral → Task
whole_task P x es path = record { spot = root_spot; sign = F; formula = P.formula; share = x; ends = es; path = path }

abbrev pub task_cost : Task → ℕ
task_cost k = ends_cost k.ends

-- the turns on the way and what lies below the ends: each action of a conversion lowers it
abbrev pub task_weight : Problem → Task → ℕ
task_weight P k = length k.share.turns + ends_weight P k.ends
