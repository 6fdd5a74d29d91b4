-- What a turn makes of a signed formula once all its values are taken.
use Rattle.std.proofs.Common.{◌≡◌, ℕ, List, [], ◌∷◌, ◌++◌, refl, sym, ◌∙◌, ap, subst}
use Rattle.std.specs.Prelude.{take}
use Rattle.calculus.specs.declared.kind.ModalPart.{ModalPart}
use Rattle.calculus.specs.declared.kind.Shape.{Shape}
use Rattle.calculus.specs.declared.kind.Shape.TheVariants.{Alpha, Beta, Gamma, Delta, Literal}
use Rattle.calculus.specs.declared.sign.Sign.{Sign}
use Rattle.calculus.specs.Ground.{Value, term, steps}
use Rattle.calculus.specs.Kinds.{Signed, shape_of, components}
use Rattle.calculus.specs.Syntax.{Formula}
use Rattle.conversion_theory.specs.Branches.{Past, made_alpha, made_beta, made_gamma, made_delta, made_literal, made_shape}
use Rattle.conversion_theory.specs.Turns.{Name}
use Rattle.sequent_convert.specs.ByNumber.PastView.{gamma_taken, made_taken, taken_after, taking}

module _ (num : Name → ℕ) (m : ModalPart) (q : Past) (s : Sign) (f : Formula) where
  pub taken-literal : Literal ≡ shape_of s f → made_literal m q s f ≡ made_taken num (shape_of s f) m q s f
  taken-literal e = ap (λ h. made_taken num h m q s f) e

  pub taken-alpha : (cs : List Signed) → Alpha ≡ shape_of s f → cs ≡ components s f → made_alpha q cs ≡ made_taken num (shape_of s f) m q s f
  taken-alpha cs e g = ap (made_alpha q) g ∙ ap (λ h. made_taken num h m q s f) e

  pub taken-beta : (cs : List Signed) → Beta ≡ shape_of s f → cs ≡ components s f → made_beta q cs ≡ made_taken num (shape_of s f) m q s f
  taken-beta cs e g = ap (made_beta q) g ∙ ap (λ h. made_taken num h m q s f) e

  pub taken-gamma : (cs : List Signed) → Gamma ≡ shape_of s f → cs ≡ components s f → gamma_taken num q q.rest cs ≡ made_taken num (shape_of s f) m q s f
  taken-gamma cs e g = ap (gamma_taken num q q.rest) g ∙ ap (λ h. made_taken num h m q s f) e

  pub taken-delta : (cs : List Signed) → Delta ≡ shape_of s f → cs ≡ components s f → made_delta num q cs ≡ made_taken num (shape_of s f) m q s f
  taken-delta cs e g = ap (made_delta num q) g ∙ ap (λ h. made_taken num h m q s f) e

pub ruleset parts = (taken-literal, taken-alpha, taken-beta, taken-gamma, taken-delta)

-- a gamma position whose term is taken
gamma-same : (num : Name → ℕ) (q : Past) (vs rest : List Value) (cs : List Signed) → q.spot.taken ++ take 1 rest ≡ vs → gamma_taken num (taking vs q) rest cs ≡ made_gamma num q rest cs
gamma-same num q vs (term t ∷ us) (a ∷ []) e = rw (← e) refl
gamma-same num q vs (term t ∷ us) [] e = refl
gamma-same num q vs (term t ∷ us) (a ∷ b ∷ cs) e = refl
gamma-same num q vs (steps w ∷ us) cs e = refl
gamma-same num q vs [] cs e = refl

-- the same is made where the values that are taken are those of the turn
pub made-same : (num : Name → ℕ) (h : Shape) (m : ModalPart) (q : Past) (vs : List Value) (s : Sign) (f : Formula) → taken_after h q ≡ vs → made_taken num h m (taking vs q) s f ≡ made_shape num h m q s f
made-same num Gamma m q vs s f e = gamma-same num q vs q.rest (components s f) e
made-same num Literal m q vs s f e = rw (← e) refl
made-same num Alpha m q vs s f e = rw (← e) refl
made-same num Beta m q vs s f e = rw (← e) refl
made-same num Delta m q vs s f e = rw (← e) refl
