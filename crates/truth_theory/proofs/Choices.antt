-- For each signed formula with elements for its variables, at each world: the world to which its pi part leads, and the element for the
-- variable of a delta formula. Where the formula has the truth value of its sign, so have its components there.
use Rattle.std.proofs.Common.{◌≡◌, ◌⊎◌, List, length, Bool, true, false, refl, sym, ◌∙◌, inl, inr}
use Rattle.std.proofs.lemmas.Bool.{false≢true, true≢false, cases_Bool}
use Rattle.calculus.specs.declared.sign.Sign.{Sign}
use Rattle.calculus.specs.declared.kind.Shape.{Shape}
use Rattle.calculus.specs.declared.kind.Shape.TheVariants.{Alpha, Beta, Gamma, Delta, Literal}
use Rattle.calculus.specs.declared.kind.ModalPart.{ModalPart}
use Rattle.calculus.specs.declared.kind.ModalPart.TheVariants.{Plain, Nu, Pi}
use Rattle.calculus.specs.Syntax.{Term, Formula, Problem}
use Rattle.calculus.specs.Kinds.{Signed, signed, shape_of, modal_of}
use Rattle.calculus.specs.Problems.{formula_fits}
use Rattle.calculus.specs.Models.{Model, IsWorld, Reaches, IsIn, IsModel}
use Rattle.calculus.proofs.SignedTruth.{sign_value, OnModal}
use Rattle.calculus.proofs.Interpretations.{Chosen}
use Rattle.truth_theory.proofs.NodeTruth.{Claims, PastClaims, ShapeClaims, node-truth}

-- where no pi part leads, the goal is the world itself
pub record Choice (W E : Type 0) : Type 0 where
  pub goal : W
  pub element : E

abbrev pub GoalFits : {W E : Type 0} → Model W E → ModalPart → W → W → Type 0
GoalFits S Pi w v = Reaches S w v
GoalFits S _ w v = v ≡ w

-- past the modal part: at each successor for a nu part, else at the goal
abbrev pub PastModal : {W E : Type 0} → Model W E → ModalPart → W → Choice W E → (W → Type 0) → (W → E → Type 0) → Type 0
PastModal {W} S Nu w x Shaped Past = (v : W) → Reaches S w v → Shaped v
PastModal S _ w x Shaped Past = Past x.goal x.element

pub record IsChosen {W E : Type 0} (P : Problem) (S : Model W E) (names : Term → E) (s : Sign) (f : Formula) (env : List E) (w : W) (x : Choice W E) : Type 0 where
  pub goal : GoalFits S (modal_of P.setting.logic s f) w x.goal
  pub inside : IsIn S x.goal x.element
  pub past : Claims P S names w env (signed s f) → PastModal S (modal_of P.setting.logic s f) w x (ShapeClaims P S names (shape_of s f) s f env) (PastClaims P S names (shape_of s f) s f env)

same_or_not : (a b : Bool) → (a ≡ b) ⊎ (a ≡ b → ⊥)
same_or_not true true = inl refl
same_or_not false false = inl refl
same_or_not true false = inr true≢false
same_or_not false true = inr false≢true

module _ {W E : Type 0} (P : Problem) (S : Model W E) (c : IsModel P S) (ch : Chosen S) (names : Term → E) where
  claims_or_not : (x : Signed) (env : List E) (w : W) → Claims P S names w env x ⊎ (Claims P S names w env x → ⊥)
  claims_or_not x env w = elim (same_or_not (S.truth names x.formula env w) (sign_value x.sign)) [
    | inl e ↦ elim (same_or_not (formula_fits P.setting.logic P.symbols (length env) x.formula) true) [ inl fits ↦ inl (e, fits) | inr n ↦ inr (λ h. n h.1) ]
    | inr n ↦ inr (λ h. n h.0)
  ]

  -- some world and element, whatever the formula says
  any : (q : ModalPart) (w : W) → IsWorld S w → (x : Choice W E) × GoalFits S q w x.goal × IsIn S x.goal x.element
  any Pi w world = let next = c.successors w (ch.next w) world (ch.reached w world) in (record { goal = ch.next w; element = ch.element (ch.next w) }, ch.reached w world, ch.inside (ch.next w) next)
  any Plain w world = (record { goal = w; element = ch.element w }, refl, ch.inside w world)
  any Nu w world = (record { goal = w; element = ch.element w }, refl, ch.inside w world)

  an_element : (h : Shape) (s : Sign) (f : Formula) (env : List E) (v : W) → IsWorld S v → ShapeClaims P S names h s f env v → (e : E) × IsIn S v e × PastClaims P S names h s f env v e
  an_element Delta s f env v world k = k
  an_element Literal s f env v world k = (ch.element v, ch.inside v world, k)
  an_element Alpha s f env v world k = (ch.element v, ch.inside v world, k)
  an_element Beta s f env v world k = (ch.element v, ch.inside v world, k)
  an_element Gamma s f env v world k = (ch.element v, ch.inside v world, k)

  by_claims : (h : Shape) (s : Sign) (f : Formula) (env : List E) (q : ModalPart) (w : W) → IsWorld S w → OnModal S q w (ShapeClaims P S names h s f env) → (x : Choice W E) × GoalFits S q w x.goal × IsIn S x.goal x.element × PastModal S q w x (ShapeClaims P S names h s f env) (PastClaims P S names h s f env)
  by_claims h s f env Plain w world k = let e = an_element h s f env w world k in (record { goal = w; element = e.0 }, refl, e.1, e.2)
  by_claims h s f env Pi w world k = let e = an_element h s f env k.0 (c.successors w k.0 world k.1) k.2 in (record { goal = k.0; element = e.0 }, k.1, e.1, e.2)
  by_claims h s f env Nu w world k = (record { goal = w; element = ch.element w }, refl, ch.inside w world, k)

  -- at what is no world the choice says nothing
  pub chosen_at : (s : Sign) (f : Formula) (env : List E) (w : W) → (x : Choice W E) × (IsWorld S w → IsChosen P S names s f env w x)
  chosen_at s f env w = elim (cases_Bool (S.is_world w)) [
    | inr e ↦ (record { goal = w; element = S.element }, λ world. absurd (false≢true (sym e ∙ world)))
    | inl world ↦ elim (claims_or_not (signed s f) env w) [
      | inl h ↦
          let r = by_claims (shape_of s f) s f env (modal_of P.setting.logic s f) w world (node-truth P S c names s f env w world h) in
          (r.0, λ again. record { goal = r.1; inside = r.2; past = λ h. r.3 })
      | inr n ↦
          let r = any (modal_of P.setting.logic s f) w world in
          (r.0, λ again. record { goal = r.1; inside = r.2; past = λ h. absurd (n h) })
    ]
  ]
