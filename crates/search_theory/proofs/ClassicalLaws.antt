-- In the classical logic whether terms fit a way depends on their number alone.
use Rattle.std.proofs.Common.{◌≡◌, ℕ, List, [], ◌∷◌, ◌++◌, length, map, Bool, false, ◌&&◌, refl, option_and_then, arith, ◌-◌}
use Rattle.std.specs.Option.{option_map_or}
use Rattle.calculus.specs.declared.setting.Logic.{Logic}
use Rattle.calculus.specs.declared.kind.Shape.{Shape}
use Rattle.calculus.specs.declared.kind.Shape.TheVariants.{Alpha, Beta, Gamma, Delta, Literal}
use Rattle.calculus.specs.declared.kind.ModalPart.{ModalPart}
use Rattle.calculus.specs.declared.kind.ModalPart.TheVariants.{Plain, Nu, Pi}
use Rattle.calculus.specs.Syntax.{Problem}
use Rattle.calculus.specs.Ground.{GroundTerm, GroundMark, Value, g_new_mark, term, values_tree}
use Rattle.calculus.specs.Kinds.{shape_of, modal_of}
use Rattle.calculus.specs.Positions.{Node}
use Rattle.calculus.specs.Labels.{pi_label}
use Rattle.calculus.specs.Skolem.{Reached, after_modal, after_shape, way_to, is_step, fits_along, fits_way}

-- ---- eigenvariables: whether terms fit a way depends on their number alone

abbrev at_place : List GroundMark → List Value → List Value → Reached
at_place w us vs = record { label = w; taken = us; rest = vs }

-- past one position, by its modal part and its shape
abbrev fits_past : Logic → ℕ → List Node → ModalPart → Shape → Reached → Bool
fits_past l p ns m h r = option_map_or (λ (next : Reached). is_step l m r next && fits_along l ns next) (option_and_then (after_shape h) (after_modal l p m r)) false

abbrev FitsAlike : Logic → List Node → Type 0
FitsAlike l ns = (ts us : List GroundTerm) (w v : List GroundMark) (xs ys : List Value) → length ts ≡ length us → fits_along l ns (at_place w xs (map term ts)) ≡ fits_along l ns (at_place v ys (map term us))

past-alike : (l : Logic) (p : ℕ) (ns : List Node) → FitsAlike l ns → (m : ModalPart) (h : Shape) (ts us : List GroundTerm) (w v : List GroundMark) (xs ys : List Value) → length ts ≡ length us → fits_past l p ns m h (at_place w xs (map term ts)) ≡ fits_past l p ns m h (at_place v ys (map term us))
past-alike l p ns ih Plain Gamma [] [] w v xs ys e = refl
past-alike l p ns ih Plain Gamma [] (u ∷ us) w v xs ys e = absurd (omega (arith, e))
past-alike l p ns ih Plain Gamma (t ∷ ts) [] w v xs ys e = absurd (omega (arith, e))
past-alike l p ns ih Plain Gamma (t ∷ ts) (u ∷ us) w v xs ys e = ih ts us w v (xs ++ term t ∷ []) (ys ++ term u ∷ []) (omega (arith, e))
past-alike l p ns ih Plain Alpha ts us w v xs ys e = ih ts us w v xs ys e
past-alike l p ns ih Plain Beta ts us w v xs ys e = ih ts us w v xs ys e
past-alike l p ns ih Plain Delta ts us w v xs ys e = ih ts us w v xs ys e
past-alike l p ns ih Plain Literal ts us w v xs ys e = ih ts us w v xs ys e
past-alike l p ns ih Nu h [] [] w v xs ys e = refl
past-alike l p ns ih Nu h [] (u ∷ us) w v xs ys e = refl
past-alike l p ns ih Nu h (t ∷ ts) [] w v xs ys e = refl
past-alike l p ns ih Nu h (t ∷ ts) (u ∷ us) w v xs ys e = refl
past-alike l p ns ih Pi Gamma [] [] w v xs ys e = refl
past-alike l p ns ih Pi Gamma [] (u ∷ us) w v xs ys e = absurd (omega (arith, e))
past-alike l p ns ih Pi Gamma (t ∷ ts) [] w v xs ys e = absurd (omega (arith, e))
past-alike l p ns ih Pi Gamma (t ∷ ts) (u ∷ us) w v xs ys e = ih ts us (pi_label l w (g_new_mark p (values_tree xs))) (pi_label l v (g_new_mark p (values_tree ys))) (xs ++ term t ∷ []) (ys ++ term u ∷ []) (omega (arith, e))
past-alike l p ns ih Pi Alpha ts us w v xs ys e = ih ts us (pi_label l w (g_new_mark p (values_tree xs))) (pi_label l v (g_new_mark p (values_tree ys))) xs ys e
past-alike l p ns ih Pi Beta ts us w v xs ys e = ih ts us (pi_label l w (g_new_mark p (values_tree xs))) (pi_label l v (g_new_mark p (values_tree ys))) xs ys e
past-alike l p ns ih Pi Delta ts us w v xs ys e = ih ts us (pi_label l w (g_new_mark p (values_tree xs))) (pi_label l v (g_new_mark p (values_tree ys))) xs ys e
past-alike l p ns ih Pi Literal ts us w v xs ys e = ih ts us (pi_label l w (g_new_mark p (values_tree xs))) (pi_label l v (g_new_mark p (values_tree ys))) xs ys e

fits-alike : (l : Logic) (ns : List Node) → FitsAlike l ns
fits-alike l [] [] [] w v xs ys e = refl
fits-alike l [] [] (u ∷ us) w v xs ys e = absurd (omega (arith, e))
fits-alike l [] (t ∷ ts) [] w v xs ys e = absurd (omega (arith, e))
fits-alike l [] (t ∷ ts) (u ∷ us) w v xs ys e = refl
fits-alike l (n ∷ ns) ts us w v xs ys e = past-alike l n.position ns (fits-alike l ns) (modal_of l n.sign n.formula) (shape_of n.sign n.formula) ts us w v xs ys e

pub way-alike : (P : Problem) (p : ℕ) (ts us : List GroundTerm) → length ts ≡ length us → fits_way P p (map term ts) ≡ fits_way P p (map term us)
way-alike P p ts us e = fits-alike P.setting.logic (way_to P p) ts us [] [] [] [] e
