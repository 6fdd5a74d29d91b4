-- The turns of an instance as its sides and values give them, without labels and without terms.
use Rattle.std.specs.Prelude.{ℕ, suc, ◌+◌, List, [], ◌∷◌, ◌++◌, take, drop, Bool, true, false, if◌then◌else◌}
use Rattle.calculus.specs.declared.sign.Sign.{Sign}
use Rattle.calculus.specs.declared.sign.Sign.TheVariants.{F}
use Rattle.calculus.specs.declared.sign.Side.{Side}
use Rattle.calculus.specs.declared.sign.Side.TheVariants.{Right}
use Rattle.calculus.specs.declared.setting.Logic.{Logic}
use Rattle.calculus.specs.declared.kind.Shape.{Shape}
use Rattle.calculus.specs.declared.kind.Shape.TheVariants.{Beta, Gamma}
use Rattle.calculus.specs.declared.kind.ModalPart.{ModalPart}
use Rattle.calculus.specs.declared.kind.ModalPart.TheVariants.{Nu}
use Rattle.calculus.specs.Syntax.{Formula, atom, neg, conj, disj, imp, all, ex, box, dia, Problem}
use Rattle.calculus.specs.Ground.{Value}
use Rattle.calculus.specs.Kinds.{other, shape_of, modal_of}
use Rattle.calculus.specs.Positions.{size}
use Rattle.calculus.specs.Instances.{Turn, ClauseInstance}

-- turns, and the sides and values that are left behind them
pub record Walked : Type 0 where
  pub turns : List Turn
  pub sides : List Side
  pub values : List Value

abbrev pub walked : List Turn → List Side → List Value → Walked
walked ts ss vs = record { turns = ts; sides = ss; values = vs }

-- what a part of the formula gives at a position, by the values taken before and by the sides and values to come
abbrev pub Walk : Type 0
Walk = ℕ → List Value → List Side → List Value → Walked

-- how many values a position takes: a string, a term, or both
abbrev pub strings_at : ModalPart → ℕ
strings_at Nu = 1
strings_at _ = 0

abbrev pub terms_at : Shape → ℕ
terms_at Gamma = 1
terms_at _ = 0

abbrev pub values_at : ModalPart → Shape → ℕ
values_at m s = strings_at m + terms_at s

abbrev pub with_turn : ℕ → List Value → Walked → Walked
with_turn p vs w = walked (record { position = p; values = vs } ∷ w.turns) w.sides w.values

-- a position that takes n values, and what is below it
abbrev pub walk_node : ℕ → Walk → Walk
walk_node n below p taken ss vs = with_turn p (taken ++ take n vs) (below p (taken ++ take n vs) ss (drop n vs))

abbrev pub walk_none : Walk
walk_none p taken ss vs = walked [] ss vs

abbrev pub walk_one : Walk → Walk
walk_one body p taken ss vs = body (p + 1) taken ss vs

abbrev pub is_right : List Side → Bool
is_right (Right ∷ ss) = true
is_right _ = false

-- two components, of which the first one has n positions
abbrev pub walk_alpha : ℕ → Walk → Walk → Walk
walk_alpha n first second p taken ss vs = if is_right ss then second (p + suc n) taken (drop 1 ss) vs else first (p + 1) taken (drop 1 ss) vs

abbrev pub behind : Walked → Walked → Walked
behind x y = walked (x.turns ++ y.turns) y.sides y.values

abbrev pub walk_beta : ℕ → Walk → Walk → Walk
walk_beta n first second p taken ss vs = let x = first (p + 1) taken ss vs in behind x (second (p + suc n) taken x.sides x.values)

abbrev pub walk_two : Shape → ℕ → Walk → Walk → Walk
walk_two Beta n first second = walk_beta n first second
walk_two _ n first second = walk_alpha n first second

abbrev pub walk : Logic → Formula → Sign → Walk
walk l (atom p ts) s = walk_node (values_at (modal_of l s (atom p ts)) (shape_of s (atom p ts))) walk_none
walk l (neg a) s = walk_node (values_at (modal_of l s (neg a)) (shape_of s (neg a))) (walk_one (walk l a (other s)))
walk l (conj a b) s = walk_node (values_at (modal_of l s (conj a b)) (shape_of s (conj a b))) (walk_two (shape_of s (conj a b)) (size a) (walk l a s) (walk l b s))
walk l (disj a b) s = walk_node (values_at (modal_of l s (disj a b)) (shape_of s (disj a b))) (walk_two (shape_of s (disj a b)) (size a) (walk l a s) (walk l b s))
walk l (imp a b) s = walk_node (values_at (modal_of l s (imp a b)) (shape_of s (imp a b))) (walk_two (shape_of s (imp a b)) (size a) (walk l a (other s)) (walk l b s))
walk l (all a) s = walk_node (values_at (modal_of l s (all a)) (shape_of s (all a))) (walk_one (walk l a s))
walk l (ex a) s = walk_node (values_at (modal_of l s (ex a)) (shape_of s (ex a))) (walk_one (walk l a s))
walk l (box a) s = walk_node (values_at (modal_of l s (box a)) (shape_of s (box a))) (walk_one (walk l a s))
walk l (dia a) s = walk_node (values_at (modal_of l s (dia a)) (shape_of s (dia a))) (walk_one (walk l a s))

-- the turns of an instance
abbrev pub turns_by : Problem → ClauseInstance → List Turn
turns_by P i = (walk P.setting.logic P.formula F 0 [] i.selection i.values).turns
