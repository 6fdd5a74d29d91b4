-- The walk of a signed formula, by its kind and its components.
use Rattle.std.proofs.Common.{◌≡◌, List, [], ◌∷◌, refl}
use Rattle.calculus.specs.declared.sign.Sign.{Sign}
use Rattle.calculus.specs.declared.sign.Sign.TheVariants.{T, F}
use Rattle.calculus.specs.declared.setting.Logic.{Logic}
use Rattle.calculus.specs.declared.kind.Shape.{Shape}
use Rattle.calculus.specs.declared.kind.Shape.TheVariants.{Literal, Beta}
use Rattle.calculus.specs.Kinds.{Signed, components, modal_of, shape_of}
use Rattle.calculus.specs.Positions.{size}
use Rattle.calculus.specs.Syntax.{Formula, atom, neg, conj, disj, imp, all, ex, box, dia}
use Rattle.name_order.specs.Walks.{Walk, values_at, walk_node, walk_none, walk_one, walk_alpha, walk_beta, walk}

abbrev pub walk_below : Logic → Shape → List Signed → Walk
walk_below l Literal cs = walk_none
walk_below l k [] = walk_none
walk_below l k (a ∷ []) = walk_one (walk l a.formula a.sign)
walk_below l Beta (a ∷ b ∷ cs) = walk_beta (size a.formula) (walk l a.formula a.sign) (walk l b.formula b.sign)
walk_below l k (a ∷ b ∷ cs) = walk_alpha (size a.formula) (walk l a.formula a.sign) (walk l b.formula b.sign)

pub walk-by : (l : Logic) (s : Sign) (f : Formula) → walk l f s ≡ walk_node (values_at (modal_of l s f) (shape_of s f)) (walk_below l (shape_of s f) (components s f))
walk-by l s (atom p ts) = refl
walk-by l s (neg a) = refl
walk-by l T (conj a b) = refl
walk-by l F (conj a b) = refl
walk-by l T (disj a b) = refl
walk-by l F (disj a b) = refl
walk-by l T (imp a b) = refl
walk-by l F (imp a b) = refl
walk-by l T (all a) = refl
walk-by l F (all a) = refl
walk-by l T (ex a) = refl
walk-by l F (ex a) = refl
walk-by l s (box a) = refl
walk-by l s (dia a) = refl

pub ruleset walk_by_components = (walk-by)
