-- The positions of a formula in preorder, each with the position of which it is a component and with its kind.
use Rattle.std.specs.Prelude.{ℕ, suc, ◌+◌, List, [], ◌∷◌, ◌++◌, Option, Some, None, Bool, false, slice_get}
use Rattle.std.specs.Option.{option_map_or}
use Rattle.calculus.specs.Skolem.{is_delta, is_pi}
use Rattle.calculus.specs.declared.sign.Sign.{Sign}
use Rattle.calculus.specs.declared.sign.Sign.TheVariants.{F}
use Rattle.calculus.specs.declared.setting.Logic.{Logic}
use Rattle.calculus.specs.declared.kind.Shape.{Shape}
use Rattle.calculus.specs.declared.kind.ModalPart.{ModalPart}
use Rattle.calculus.specs.Syntax.{Formula, atom, neg, conj, disj, imp, all, ex, box, dia, Problem}
use Rattle.calculus.specs.Kinds.{other, shape_of, modal_of}
use Rattle.calculus.specs.Positions.{size}

pub record Place : Type 0 where
  pub above : Option ℕ
  pub modal : ModalPart
  pub shape : Shape

abbrev pub place : Logic → Option ℕ → Sign → Formula → Place
place l up s f = record { above = up; modal = modal_of l s f; shape = shape_of s f }

-- the positions from a signed formula on, which stands at q below `up`
abbrev pub places : Logic → Option ℕ → ℕ → Sign → Formula → List Place
places l up q s (atom p ts) = place l up s (atom p ts) ∷ []
places l up q s (neg a) = place l up s (neg a) ∷ places l (Some q) (suc q) (other s) a
places l up q s (conj a b) = place l up s (conj a b) ∷ (places l (Some q) (suc q) s a ++ places l (Some q) (suc (q + size a)) s b)
places l up q s (disj a b) = place l up s (disj a b) ∷ (places l (Some q) (suc q) s a ++ places l (Some q) (suc (q + size a)) s b)
places l up q s (imp a b) = place l up s (imp a b) ∷ (places l (Some q) (suc q) (other s) a ++ places l (Some q) (suc (q + size a)) s b)
places l up q s (all a) = place l up s (all a) ∷ places l (Some q) (suc q) s a
places l up q s (ex a) = place l up s (ex a) ∷ places l (Some q) (suc q) s a
places l up q s (box a) = place l up s (box a) ∷ places l (Some q) (suc q) s a
places l up q s (dia a) = place l up s (dia a) ∷ places l (Some q) (suc q) s a

-- those of the problem's formula
abbrev pub places_of : Problem → List Place
places_of P = places P.setting.logic None 0 F P.formula

-- whether a position introduces an eigenvariable, and whether it introduces a character
abbrev pub is_delta_in : List Place → ℕ → Bool
is_delta_in ps p = option_map_or (λ (x : Place). is_delta x.shape) (slice_get ps p) false

abbrev pub is_pi_in : List Place → ℕ → Bool
is_pi_in ps p = option_map_or (λ (x : Place). is_pi x.modal) (slice_get ps p) false
