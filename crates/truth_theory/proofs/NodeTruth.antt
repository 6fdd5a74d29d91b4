-- What a signed formula that is true at a world says of its components, by its modal part and its shape, and the world and the element
-- that a pi part and a delta formula lead to, chosen for each signed formula with elements for its variables, at each world.
use Rattle.std.proofs.Common.{◌≡◌, ◌⊎◌, ℕ, List, ◌∷◌, length, Bool, true, false, not, ◌||◌, IsTrue, sym, subst, inl, inr}
use Rattle.std.proofs.lemmas.Bool.{and_parts, and_from, and_cases, or_cases, or_parts, not-true, not-false}
use Rattle.calculus.specs.declared.sign.Sign.{Sign}
use Rattle.calculus.specs.declared.sign.Sign.TheVariants.{T, F}
use Rattle.calculus.specs.declared.setting.Logic.{Logic}
use Rattle.calculus.specs.declared.setting.Logic.TheVariants.{Intuitionistic}
use Rattle.calculus.specs.declared.kind.Shape.{Shape}
use Rattle.calculus.specs.declared.kind.Shape.TheVariants.{Alpha, Beta, Gamma, Delta, Literal}
use Rattle.calculus.specs.Syntax.{Term, Terms, Formula, atom, neg, conj, disj, imp, all, ex, box, dia, Problem}
use Rattle.calculus.specs.Kinds.{Signed, signed, shape_of, modal_of, components}
use Rattle.calculus.specs.Problems.{terms_fit_in, formula_fits}
use Rattle.calculus.specs.Models.{Model, IsWorld, IsIn, values_by, FromHere, EachElement, TruthAt, RelationFits, IsModel}
use Rattle.calculus.proofs.SignedTruth.{sign_value, OnModal, EachSigned, EitherSigned}

-- ---- what is claimed

-- the formula has the truth value of its sign at v, with elements for all its variables
abbrev pub Claims : {W E : Type 0} → Problem → Model W E → (Term → E) → W → List E → Signed → Type 0
Claims P S names v env x = (S.truth names x.formula env v ≡ sign_value x.sign) × IsTrue (formula_fits P.setting.logic P.symbols (length env) x.formula)

-- the same of an atom, by what holds at v, or in intuitionistic logic at all successors
abbrev pub AtomClaims : {W E : Type 0} → Logic → Model W E → W → Sign → ℕ → List E → Type 0
AtomClaims l S v s p xs = FromHere l S v (λ u. S.holds p u xs) (sign_value s)

abbrev pub LiteralClaims : {W E : Type 0} → Problem → Model W E → (Term → E) → W → List E → Sign → Formula → Type 0
LiteralClaims P S names v env s (atom p ts) = AtomClaims P.setting.logic S v s p (values_by S names env ts) × IsTrue (terms_fit_in P.symbols (length env) ts)
LiteralClaims P S names v env s f = Unit {0}

-- past the modal part of a signed formula, with this element for the variable of a delta formula
abbrev pub PastClaims : {W E : Type 0} → Problem → Model W E → (Term → E) → Shape → Sign → Formula → List E → W → E → Type 0
PastClaims P S names Literal s f env v x = LiteralClaims P S names v env s f
PastClaims P S names Alpha s f env v x = EachSigned (Claims P S names v env) (components s f)
PastClaims P S names Beta s f env v x = EitherSigned (Claims P S names v env) (components s f)
PastClaims {E = E} P S names Gamma s f env v x = (e : E) → IsIn S v e → EachSigned (Claims P S names v (e ∷ env)) (components s f)
PastClaims P S names Delta s f env v x = EachSigned (Claims P S names v (x ∷ env)) (components s f)

-- with some element for it
abbrev pub ShapeClaims : {W E : Type 0} → Problem → Model W E → (Term → E) → Shape → Sign → Formula → List E → W → Type 0
ShapeClaims {E = E} P S names Delta s f env v = (e : E) × IsIn S v e × PastClaims P S names Delta s f env v e
ShapeClaims P S names h s f env v = PastClaims P S names h s f env v S.element

-- ---- a signed formula and its components

disjunct : (a b : Bool) → (not a || b) ≡ true → (a ≡ false) ⊎ (b ≡ true)
disjunct a b h = elim (or_cases (not a) b h) [ inl e ↦ inl (not-true a e) | inr e ↦ inr e ]

neither : (a b : Bool) → (not a || b) ≡ false → (a ≡ true) × (b ≡ false)
neither a b h = let p = or_parts (not a) b h in (not-false a p.0, p.1)

both : {A B C D : Type 0} → A ⊎ B → C → D → (A × C) ⊎ (B × D)
both (inl a) c d = inl (a, c)
both (inr b) c d = inr (b, d)

module _ {W E : Type 0} (P : Problem) (S : Model W E) (c : IsModel P S) (names : Term → E) where
  -- an atom of intuitionistic logic holds at all successors or fails at one
  node-atom : (l : Logic) → RelationFits l S → (Q : Type 0) → Q → (s : Sign) (p : ℕ) (ts : Terms) (xs : List E) (w : W) → IsWorld S w → AtomClaims l S w s p xs → OnModal S (modal_of l s (atom p ts)) w (λ v. AtomClaims l S v s p xs × Q)
  node-atom Intuitionistic r Q q T p ts xs w world h = λ v reached. (λ u more. h u (r.1 w v u world reached more), q)
  node-atom Intuitionistic r Q q F p ts xs w world h = (h.0, h.1, ((h.0, r.0 h.0 (c.successors w h.0 world h.1), h.2), q))
  node-atom _ r Q q s p ts xs w world h = (h, q)

  node-neg : (l : Logic) (s : Sign) (a : Formula) (env : List E) (w : W) → IsTrue (formula_fits P.setting.logic P.symbols (length env) a) → FromHere l S w (λ v. not (S.truth names a env v)) (sign_value s) → OnModal S (modal_of l s (neg a)) w (λ v. ShapeClaims P S names Alpha s (neg a) env v)
  node-neg Intuitionistic T a env w fits h = λ v reached. ((not-true (S.truth names a env v) (h v reached), fits), tt)
  node-neg Intuitionistic F a env w fits h = (h.0, h.1, ((not-false (S.truth names a env h.0) h.2, fits), tt))
  node-neg _ T a env w fits h = ((not-true (S.truth names a env w) (sym h), fits), tt)
  node-neg _ F a env w fits h = ((not-false (S.truth names a env w) (sym h), fits), tt)

  node-imp : (l : Logic) (s : Sign) (a b : Formula) (env : List E) (w : W) → IsTrue (formula_fits P.setting.logic P.symbols (length env) a) → IsTrue (formula_fits P.setting.logic P.symbols (length env) b) → FromHere l S w (λ v. not (S.truth names a env v) || S.truth names b env v) (sign_value s) → OnModal S (modal_of l s (imp a b)) w (λ v. ShapeClaims P S names (shape_of s (imp a b)) s (imp a b) env v)
  node-imp Intuitionistic T a b env w fa fb h = λ v reached. both (disjunct (S.truth names a env v) (S.truth names b env v) (h v reached)) fa fb
  node-imp Intuitionistic F a b env w fa fb h = let p = neither (S.truth names a env h.0) (S.truth names b env h.0) h.2 in (h.0, h.1, ((p.0, fa), ((p.1, fb), tt)))
  node-imp _ T a b env w fa fb h = both (disjunct (S.truth names a env w) (S.truth names b env w) (sym h)) fa fb
  node-imp _ F a b env w fa fb h = let p = neither (S.truth names a env w) (S.truth names b env w) (sym h) in ((p.0, fa), ((p.1, fb), tt))

  node-all : (l : Logic) (s : Sign) (a : Formula) (env : List E) (w : W) → IsTrue (formula_fits P.setting.logic P.symbols (length (S.element ∷ env)) a) → EachElement l S w (λ v x. S.truth names a (x ∷ env) v) (sign_value s) → OnModal S (modal_of l s (all a)) w (λ v. ShapeClaims P S names (shape_of s (all a)) s (all a) env v)
  node-all Intuitionistic T a env w fits h = λ v reached e inside. ((h (v, e) (and_from (S.reaches w v) (S.is_in v e) reached inside), fits), tt)
  node-all Intuitionistic F a env w fits h = let p = and_parts (S.reaches w h.0.0) (S.is_in h.0.0 h.0.1) h.1 in (h.0.0, p.0, (h.0.1, p.1, ((h.2, fits), tt)))
  node-all _ T a env w fits h = λ e inside. ((h e inside, fits), tt)
  node-all _ F a env w fits h = (h.0, h.1, ((h.2, fits), tt))

  told : (s : Sign) (f : Formula) (env : List E) (w : W) → Claims P S names w env (signed s f) → TruthAt P.setting.logic S names f env w (sign_value s)
  told s f env w h = subst (TruthAt P.setting.logic S names f env w) h.0 (c.truth names f env w)

  pub node-truth : (s : Sign) (f : Formula) (env : List E) (w : W) → IsWorld S w → Claims P S names w env (signed s f) → OnModal S (modal_of P.setting.logic s f) w (ShapeClaims P S names (shape_of s f) s f env)
  node-truth s (atom p ts) env w world h = node-atom P.setting.logic c.relation (IsTrue (terms_fit_in P.symbols (length env) ts)) (and_parts _ _ h.1).1 s p ts (values_by S names env ts) w world (told s (atom p ts) env w h)
  node-truth s (neg a) env w world h = node-neg P.setting.logic s a env w h.1 (told s (neg a) env w h)
  node-truth T (conj a b) env w world h = let p = and_parts (S.truth names a env w) (S.truth names b env w) (sym (told T (conj a b) env w h)) in let f = and_parts _ _ h.1 in ((p.0, f.0), ((p.1, f.1), tt))
  node-truth F (conj a b) env w world h = let f = and_parts _ _ h.1 in both (and_cases (S.truth names a env w) (S.truth names b env w) (sym (told F (conj a b) env w h))) f.0 f.1
  node-truth T (disj a b) env w world h = let f = and_parts _ _ h.1 in both (or_cases (S.truth names a env w) (S.truth names b env w) (sym (told T (disj a b) env w h))) f.0 f.1
  node-truth F (disj a b) env w world h = let p = or_parts (S.truth names a env w) (S.truth names b env w) (sym (told F (disj a b) env w h)) in let f = and_parts _ _ h.1 in ((p.0, f.0), ((p.1, f.1), tt))
  node-truth s (imp a b) env w world h = let f = and_parts _ _ h.1 in node-imp P.setting.logic s a b env w f.0 f.1 (told s (imp a b) env w h)
  node-truth s (all a) env w world h = node-all P.setting.logic s a env w h.1 (told s (all a) env w h)
  node-truth T (ex a) env w world h = let k = told T (ex a) env w h in (k.0, k.1, ((k.2, h.1), tt))
  node-truth F (ex a) env w world h = let k = told F (ex a) env w h in λ e inside. ((k e inside, h.1), tt)
  node-truth T (box a) env w world h = let k = told T (box a) env w h in λ v reached. ((k v reached, (and_parts _ _ h.1).1), tt)
  node-truth F (box a) env w world h = let k = told F (box a) env w h in (k.0, k.1, ((k.2, (and_parts _ _ h.1).1), tt))
  node-truth T (dia a) env w world h = let k = told T (dia a) env w h in (k.0, k.1, ((k.2, (and_parts _ _ h.1).1), tt))
  node-truth F (dia a) env w world h = let k = told F (dia a) env w h in λ v reached. ((k v reached, (and_parts _ _ h.1).1), tt)
