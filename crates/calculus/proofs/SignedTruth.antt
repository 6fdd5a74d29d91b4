-- What a signed formula that holds at a world says of its components, by its modal part and its shape.
use Rattle.std.proofs.Common.{◌≡◌, ◌⊎◌, ℕ, List, [], ◌∷◌, Bool, true, false, not, ◌&&◌, ◌||◌, sym, ◌∙◌, subst, inl, inr}
use Rattle.std.proofs.lemmas.Bool.{false≢true, cases_Bool, and_parts, and_from, and_cases, or_cases, or_parts, not-true, not-false}
use Rattle.calculus.specs.declared.sign.Sign.{Sign}
use Rattle.calculus.specs.declared.sign.Sign.TheVariants.{T, F}
use Rattle.calculus.specs.declared.setting.Logic.{Logic}
use Rattle.calculus.specs.declared.setting.Logic.TheVariants.{Intuitionistic}
use Rattle.calculus.specs.declared.kind.Shape.{Shape}
use Rattle.calculus.specs.declared.kind.Shape.TheVariants.{Beta, Gamma, Delta}
use Rattle.calculus.specs.declared.kind.ModalPart.{ModalPart}
use Rattle.calculus.specs.declared.kind.ModalPart.TheVariants.{Plain, Nu, Pi}
use Rattle.calculus.specs.Syntax.{Term, Terms, Formula, atom, neg, conj, disj, imp, all, ex, box, dia}
use Rattle.calculus.specs.Kinds.{Signed, shape_of, nu_if_given, nu_if_shown, modal_of, components}
use Rattle.calculus.specs.Models.{Model, IsWorld, Reaches, IsIn, values_by, ForAll, ForSome, HasTruth, IsReflexive, IsTransitive, RelationFits}

-- the truth value that a sign claims
abbrev pub sign_value : Sign → Bool
sign_value T = true
sign_value F = false

-- ---- modal parts

-- what a step by a modal part may use of something that is claimed at w: at w, at each successor, or at some successor
abbrev pub OnModal : {W E : Type 0} → Model W E → ModalPart → W → (W → Type 0) → Type 0
OnModal S Plain w Claim = Claim w
OnModal {W} S Nu w Claim = (v : W) → Reaches S w v → Claim v
OnModal {W} S Pi w Claim = (v : W) × Reaches S w v × Claim v

-- the formula has this truth value behind its modal part. An atom is its own component
abbrev pub Behind : {W E : Type 0} → Model W E → (Term → E) → Formula → W → Bool → Type 0
Behind S names (neg a) v b = not (S.truth names a [] v) ≡ b
Behind S names (imp a c) v b = (not (S.truth names a [] v) || S.truth names c [] v) ≡ b
Behind S names (all a) v b = ForAll (S.is_in v) (λ x. S.truth names a (x ∷ []) v) b
Behind S names (box a) v b = S.truth names a [] v ≡ b
Behind S names (dia a) v b = S.truth names a [] v ≡ b
Behind S names (atom p ts) v b = S.truth names (atom p ts) [] v ≡ b
Behind S names (conj a c) v b = S.truth names (conj a c) [] v ≡ b
Behind S names (disj a c) v b = S.truth names (disj a c) [] v ≡ b
Behind S names (ex a) v b = S.truth names (ex a) [] v ≡ b

at-all : {W E : Type 0} (S : Model W E) (p : W → Bool) (s : Sign) (w : W) → ForAll (S.reaches w) p (sign_value s) → OnModal S (nu_if_given s) w (λ v. p v ≡ sign_value s)
at-all S p T w h = h
at-all S p F w h = h

at-some : {W E : Type 0} (S : Model W E) (p : W → Bool) (s : Sign) (w : W) → ForSome (S.reaches w) p (sign_value s) → OnModal S (nu_if_shown s) w (λ v. p v ≡ sign_value s)
at-some S p T w h = h
at-some S p F w h = h

-- what holds at all successors, or here, and has this truth value
from-here : {W E : Type 0} (S : Model W E) (p : W → Bool) (s : Sign) (w : W) (b : Bool) → ForAll (S.reaches w) p b → b ≡ sign_value s → OnModal S (nu_if_given s) w (λ v. p v ≡ sign_value s)
from-here S p s w b says h = at-all S p s w (subst (ForAll (S.reaches w) p) h says)

-- in intuitionistic logic an atom that is true at a world is true at each successor, and one that is false is false at some successor
atom-at-all : {W E : Type 0} (S : Model W E) → IsReflexive S → IsTransitive S → ((w v : W) → IsWorld S w → Reaches S w v → IsWorld S v) → (p t : W → Bool) → ((v : W) → ForAll (S.reaches v) p (t v)) → (s : Sign) (w : W) → IsWorld S w → t w ≡ sign_value s → OnModal S (nu_if_given s) w (λ v. t v ≡ sign_value s)
atom-at-all S reflexive transitive onward p t says T w world h = λ v reached. elim (cases_Bool (t v)) [
  | inl e ↦ e
  | inr e ↦
      let found = subst (ForAll (S.reaches v) p) e (says v) in
      let everywhere = subst (ForAll (S.reaches w) p) h (says w) in
      absurd (false≢true (sym found.2 ∙ everywhere found.0 (transitive w v found.0 world reached found.1)))
]
atom-at-all S reflexive transitive onward p t says F w world h =
    let found = subst (ForAll (S.reaches w) p) h (says w) in (
      found.0,
      found.1,
      elim (cases_Bool (t found.0)) [
        | inl e ↦ absurd (false≢true (sym found.2 ∙ subst (ForAll (S.reaches found.0) p) e (says found.0) found.0 (reflexive found.0 (onward w found.0 world found.1))))
        | inr e ↦ e
      ],
    )

elements-at-all : {W E : Type 0} (S : Model W E) (p : W → E → Bool) (s : Sign) (w : W) → ForAll {A = W × E} (λ x. S.reaches w x.0 && S.is_in x.0 x.1) (λ x. p x.0 x.1) (sign_value s) → OnModal S (nu_if_given s) w (λ v. ForAll (S.is_in v) (p v) (sign_value s))
elements-at-all S p T w h = λ v reached x inside. h (v, x) (and_from (S.reaches w v) (S.is_in v x) reached inside)
elements-at-all S p F w h =
    let parts = and_parts (S.reaches w h.0.0) (S.is_in h.0.0 h.0.1) h.1 in
    (h.0.0, parts.0, (h.0.1, parts.1, h.2))

abbrev ModalTruth : {W E : Type 0} → Logic → Model W E → (Term → E) → Sign → Formula → W → Type 0
ModalTruth l S names s a w = OnModal S (modal_of l s a) w (λ v. Behind S names a v (sign_value s))

modal-atom : {W E : Type 0} (l : Logic) (S : Model W E) → HasTruth l S → RelationFits l S → ((w v : W) → IsWorld S w → Reaches S w v → IsWorld S v) → (names : Term → E) (s : Sign) (p : ℕ) (ts : Terms) (w : W) → IsWorld S w → S.truth names (atom p ts) [] w ≡ sign_value s → ModalTruth l S names s (atom p ts) w
modal-atom Intuitionistic S tells relation onward names s p ts w world h = atom-at-all S relation.0 relation.1 onward (λ v. S.holds p v (values_by S names [] ts)) (λ v. S.truth names (atom p ts) [] v) (λ v. tells names (atom p ts) [] v) s w world h
modal-atom _ S tells relation onward names s p ts w world h = h

modal-neg : {W E : Type 0} (l : Logic) (S : Model W E) → HasTruth l S → (names : Term → E) (s : Sign) (a : Formula) (w : W) → S.truth names (neg a) [] w ≡ sign_value s → ModalTruth l S names s (neg a) w
modal-neg Intuitionistic S tells names s a w h = from-here S (λ v. not (S.truth names a [] v)) s w _ (tells names (neg a) [] w) h
modal-neg _ S tells names s a w h = sym (tells names (neg a) [] w) ∙ h

modal-imp : {W E : Type 0} (l : Logic) (S : Model W E) → HasTruth l S → (names : Term → E) (s : Sign) (a b : Formula) (w : W) → S.truth names (imp a b) [] w ≡ sign_value s → ModalTruth l S names s (imp a b) w
modal-imp Intuitionistic S tells names s a b w h = from-here S (λ v. not (S.truth names a [] v) || S.truth names b [] v) s w _ (tells names (imp a b) [] w) h
modal-imp _ S tells names s a b w h = sym (tells names (imp a b) [] w) ∙ h

modal-all : {W E : Type 0} (l : Logic) (S : Model W E) → HasTruth l S → (names : Term → E) (s : Sign) (a : Formula) (w : W) → S.truth names (all a) [] w ≡ sign_value s → ModalTruth l S names s (all a) w
modal-all {W} {E} Intuitionistic S tells names s a w h = elements-at-all S (λ v x. S.truth names a (x ∷ []) v) s w (subst (ForAll {A = W × E} (λ x. S.reaches w x.0 && S.is_in x.0 x.1) (λ x. S.truth names a (x.1 ∷ []) x.0)) h (tells names (all a) [] w))
modal-all _ S tells names s a w h = subst (ForAll (S.is_in w) (λ x. S.truth names a (x ∷ []) w)) h (tells names (all a) [] w)

pub modal-truth : {W E : Type 0} (l : Logic) (S : Model W E) → HasTruth l S → RelationFits l S → ((w v : W) → IsWorld S w → Reaches S w v → IsWorld S v) → (names : Term → E) (s : Sign) (a : Formula) (w : W) → IsWorld S w → S.truth names a [] w ≡ sign_value s → OnModal S (modal_of l s a) w (λ v. Behind S names a v (sign_value s))
modal-truth l S tells relation onward names s (atom p ts) w world h = modal-atom l S tells relation onward names s p ts w world h
modal-truth l S tells relation onward names s (neg a) w world h = modal-neg l S tells names s a w h
modal-truth l S tells relation onward names s (conj a b) w world h = h
modal-truth l S tells relation onward names s (disj a b) w world h = h
modal-truth l S tells relation onward names s (imp a b) w world h = modal-imp l S tells names s a b w h
modal-truth l S tells relation onward names s (all a) w world h = modal-all l S tells names s a w h
modal-truth l S tells relation onward names s (ex a) w world h = h
modal-truth l S tells relation onward names s (box a) w world h = at-all S (λ v. S.truth names a [] v) s w (subst (ForAll (S.reaches w) (λ v. S.truth names a [] v)) h (tells names (box a) [] w))
modal-truth l S tells relation onward names s (dia a) w world h = at-some S (λ v. S.truth names a [] v) s w (subst (ForSome (S.reaches w) (λ v. S.truth names a [] v)) h (tells names (dia a) [] w))

-- ---- shapes

abbrev pub EachSigned : (Signed → Type 0) → List Signed → Type 0
EachSigned Holds [] = Unit {0}
EachSigned Holds (x ∷ xs) = Holds x × EachSigned Holds xs

-- one of two
abbrev pub EitherSigned : (Signed → Type 0) → List Signed → Type 0
EitherSigned Holds (x ∷ y ∷ []) = Holds x ⊎ Holds y
EitherSigned Holds xs = EachSigned Holds xs

-- the component holds at v, with these elements for its variables
abbrev pub SignedHolds : {W E : Type 0} → Model W E → (Term → E) → W → List E → Signed → Type 0
SignedHolds S names v env x = S.truth names x.formula env v ≡ sign_value x.sign

-- what a step by a shape may use: each component, one of two, each element, or some element
abbrev pub OnShape : {W E : Type 0} → Model W E → Shape → W → (List E → Signed → Type 0) → List Signed → Type 0
OnShape S Beta v Holds xs = EitherSigned (Holds []) xs
OnShape {W} {E} S Gamma v Holds xs = (e : E) → IsIn S v e → EachSigned (Holds (e ∷ [])) xs
OnShape {W} {E} S Delta v Holds xs = (e : E) × IsIn S v e × EachSigned (Holds (e ∷ [])) xs
OnShape S _ v Holds xs = EachSigned (Holds []) xs

abbrev ShapeTruth : {W E : Type 0} → Model W E → (Term → E) → Sign → Formula → W → Type 0
ShapeTruth S names s a v = OnShape S (shape_of s a) v (SignedHolds S names v) (components s a)

shape-neg : {W E : Type 0} (S : Model W E) (names : Term → E) (s : Sign) (a : Formula) (v : W) → not (S.truth names a [] v) ≡ sign_value s → ShapeTruth S names s (neg a) v
shape-neg S names T a v h = (not-true (S.truth names a [] v) h, tt)
shape-neg S names F a v h = (not-false (S.truth names a [] v) h, tt)

shape-conj : {W E : Type 0} (S : Model W E) (names : Term → E) (s : Sign) (a b : Formula) (v : W) → (S.truth names a [] v && S.truth names b [] v) ≡ sign_value s → ShapeTruth S names s (conj a b) v
shape-conj S names T a b v h = let parts = and_parts (S.truth names a [] v) (S.truth names b [] v) h in (parts.0, (parts.1, tt))
shape-conj S names F a b v h = and_cases (S.truth names a [] v) (S.truth names b [] v) h

shape-disj : {W E : Type 0} (S : Model W E) (names : Term → E) (s : Sign) (a b : Formula) (v : W) → (S.truth names a [] v || S.truth names b [] v) ≡ sign_value s → ShapeTruth S names s (disj a b) v
shape-disj S names T a b v h = or_cases (S.truth names a [] v) (S.truth names b [] v) h
shape-disj S names F a b v h = let parts = or_parts (S.truth names a [] v) (S.truth names b [] v) h in (parts.0, (parts.1, tt))

shape-imp : {W E : Type 0} (S : Model W E) (names : Term → E) (s : Sign) (a b : Formula) (v : W) → (not (S.truth names a [] v) || S.truth names b [] v) ≡ sign_value s → ShapeTruth S names s (imp a b) v
shape-imp S names T a b v h = elim (or_cases (not (S.truth names a [] v)) (S.truth names b [] v) h) [
  | inl e ↦ inl (not-true (S.truth names a [] v) e)
  | inr e ↦ inr e
]
shape-imp S names F a b v h =
    let parts = or_parts (not (S.truth names a [] v)) (S.truth names b [] v) h in
    (not-false (S.truth names a [] v) parts.0, (parts.1, tt))

shape-all : {W E : Type 0} (S : Model W E) (names : Term → E) (s : Sign) (a : Formula) (v : W) → ForAll (S.is_in v) (λ x. S.truth names a (x ∷ []) v) (sign_value s) → ShapeTruth S names s (all a) v
shape-all S names T a v h = λ e inside. (h e inside, tt)
shape-all S names F a v h = (h.0, h.1, (h.2, tt))

shape-ex : {W E : Type 0} (S : Model W E) (names : Term → E) (s : Sign) (a : Formula) (v : W) → ForSome (S.is_in v) (λ x. S.truth names a (x ∷ []) v) (sign_value s) → ShapeTruth S names s (ex a) v
shape-ex S names T a v h = (h.0, h.1, (h.2, tt))
shape-ex S names F a v h = λ e inside. (h e inside, tt)

pub shape-truth : {W E : Type 0} (l : Logic) (S : Model W E) → HasTruth l S → (names : Term → E) (s : Sign) (a : Formula) (v : W) → Behind S names a v (sign_value s) → OnShape S (shape_of s a) v (SignedHolds S names v) (components s a)
shape-truth l S tells names s (atom p ts) v h = (h, tt)
shape-truth l S tells names s (neg a) v h = shape-neg S names s a v h
shape-truth l S tells names s (conj a b) v h = shape-conj S names s a b v (sym (tells names (conj a b) [] v) ∙ h)
shape-truth l S tells names s (disj a b) v h = shape-disj S names s a b v (sym (tells names (disj a b) [] v) ∙ h)
shape-truth l S tells names s (imp a b) v h = shape-imp S names s a b v h
shape-truth l S tells names s (all a) v h = shape-all S names s a v h
shape-truth l S tells names s (ex a) v h = shape-ex S names s a v (subst (ForSome (S.is_in v) (λ x. S.truth names a (x ∷ []) v)) h (tells names (ex a) [] v))
shape-truth l S tells names s (box a) v h = (h, tt)
shape-truth l S tells names s (dia a) v h = (h, tt)
