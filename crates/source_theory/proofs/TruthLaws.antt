-- A truth value is true exactly where what it says is.
use Rattle.std.proofs.Common.{◌≡◌, ◌⊎◌, List, Bool, true, false, not, ◌&&◌, ◌||◌, IsTrue, refl, sym, ◌∙◌, inl, inr}
use Rattle.std.proofs.lemmas.Bool.{false≢true, and_parts, and_from}
use Rattle.calculus.specs.declared.setting.Logic.{Logic}
use Rattle.calculus.specs.declared.setting.Logic.TheVariants.{Intuitionistic}
use Rattle.calculus.specs.Models.{Model, IsWorld, Reaches, IsIn, ForAll, ForSome as SomeIs, FromHere, EachElement, RelationFits}
use Rattle.calculus.specs.Syntax.{Symbol}
use Rattle.tptp_reader.specs.Sources.{Source}
use Rattle.problem_build.specs.Expansion.{free_variables}
use Rattle.source_theory.specs.SourceTruth.{Lasts, LastsForEach, AreAlike, ForEach, IsTrueAt}

-- ---- connectives

pub alike : {A B C : Type 0} → AreAlike A B → AreAlike B C → AreAlike A C
alike p q = (λ x. q.0 (p.0 x), λ z. p.1 (q.1 z))

pub not-says : {A : Type 0} (a : Bool) → AreAlike (IsTrue a) A → AreAlike (IsTrue (not a)) (¬ A)
not-says true p = (λ h. absurd (false≢true h), λ k. absurd (k (p.0 refl)))
not-says false p = (λ h x. absurd (false≢true (p.1 x)), λ k. refl)

pub implies-says : {A B : Type 0} (a b : Bool) → AreAlike (IsTrue a) A → AreAlike (IsTrue b) B → AreAlike (IsTrue (not a || b)) (A → B)
implies-says true b p q = (λ h x. q.0 h, λ k. q.1 (k (p.0 refl)))
implies-says false b p q = (λ h x. absurd (false≢true (p.1 x)), λ k. refl)

pub and-says : {A B : Type 0} (a b : Bool) → AreAlike (IsTrue a) A → AreAlike (IsTrue b) B → AreAlike (IsTrue (a && b)) (A × B)
and-says true b p q = (λ h. (p.0 refl, q.0 h), λ k. q.1 k.1)
and-says false b p q = (λ h. absurd (false≢true h), λ k. absurd (false≢true (p.1 k.0)))

pub or-says : {A B : Type 0} (a b : Bool) → AreAlike (IsTrue a) A → AreAlike (IsTrue b) B → AreAlike (IsTrue (a || b)) (A ⊎ B)
or-says true b p q = (λ h. inl (p.0 refl), λ k. refl)
or-says false b p q = (λ h. inr (q.0 h), λ k. elim k [ inl x ↦ absurd (false≢true (p.1 x)) | inr y ↦ q.1 y ])

pub not-alike : {A B : Type 0} → AreAlike A B → AreAlike (¬ A) (¬ B)
not-alike p = (λ h y. h (p.1 y), λ h x. h (p.0 x))

-- ---- worlds and elements

pub each-says : {A : Type 0} (kind test : A → Bool) (P : A → Type 0) → ((x : A) → IsTrue (kind x) → AreAlike (IsTrue (test x)) (P x))
    → (b : Bool) → ForAll kind test b → AreAlike (IsTrue b) ((x : A) → IsTrue (kind x) → P x)
each-says kind test P each true h = (λ e x k. (each x k).0 (h x k), λ all. refl)
each-says kind test P each false h =
    (λ e. absurd (false≢true e), λ all. absurd (false≢true (sym h.2 ∙ (each h.0 h.1).1 (all h.0 h.1))))

pub some-says : {A : Type 0} (kind test : A → Bool) (P : A → Type 0) → ((x : A) → IsTrue (kind x) → AreAlike (IsTrue (test x)) (P x))
    → (b : Bool) → SomeIs kind test b → AreAlike (IsTrue b) ((x : A) × IsTrue (kind x) × P x)
some-says kind test P each true h = (λ e. (h.0, h.1, (each h.0 h.1).0 h.2), λ some. refl)
some-says kind test P each false h =
    (λ e. absurd (false≢true e), λ some. absurd (false≢true (sym (h some.0 some.1) ∙ (each some.0 some.1).1 some.2)))

-- the successors of a world are worlds
abbrev pub IsClosed : {W E : Type 0} → Model W E → Type 0
IsClosed {W} M = (w v : W) → IsWorld M w → Reaches M w v → IsWorld M v

pub lasts-says : {W E : Type 0} (l : Logic) (M : Model W E) → IsClosed M → (test : W → Bool) (A : W → Type 0)
    → ((w : W) → IsWorld M w → AreAlike (IsTrue (test w)) (A w))
    → (w : W) → IsWorld M w → (b : Bool) → FromHere l M w test b → AreAlike (IsTrue b) (Lasts l M A w)
lasts-says Intuitionistic M closed test A each w at b h = each-says (M.reaches w) test A (λ v on. each v (closed w v at on)) b h
lasts-says _ M closed test A each w at b h = (λ e. (each w at).0 (sym h ∙ e), λ a. h ∙ (each w at).1 a)

pub lasts_for_each-says : {W E : Type 0} (l : Logic) (M : Model W E) → IsClosed M → (test : W → E → Bool) (A : E → W → Type 0)
    → ((w : W) (x : E) → IsWorld M w → IsIn M w x → AreAlike (IsTrue (test w x)) (A x w))
    → (w : W) → IsWorld M w → (b : Bool) → EachElement l M w test b → AreAlike (IsTrue b) (LastsForEach l M A w)
lasts_for_each-says {W} {E} Intuitionistic M closed test A each w at b h =
    let says : AreAlike (IsTrue b) ((p : W × E) → IsTrue (M.reaches w p.0 && M.is_in p.0 p.1) → A p.1 p.0) =
    each-says {A = W × E} (λ p. M.reaches w p.0 && M.is_in p.0 p.1) (λ p. test p.0 p.1) (λ p. A p.1 p.0)
    (λ p k. let both = and_parts (M.reaches w p.0) (M.is_in p.0 p.1) k in each p.0 p.1 (closed w p.0 at both.0) both.1) b h in (
      λ e v on x there. says.0 e (v, x) (and_from (M.reaches w v) (M.is_in v x) on there),
      λ all. says.1 (λ p k. let both = and_parts (M.reaches w p.0) (M.is_in p.0 p.1) k in all p.0 both.0 p.1 both.1),
    )
lasts_for_each-says _ M closed test A each w at b h = each-says (M.is_in w) (test w) (λ x. A x w) (λ x there. each w x at there) b h

-- two things last where each does
pub lasts-both : {W E : Type 0} (l : Logic) (M : Model W E) (A B : W → Type 0) (w : W) → AreAlike (Lasts l M A w × Lasts l M B w) (Lasts l M (λ v. A v × B v) w)
lasts-both Intuitionistic M A B w = (λ h v on. (h.0 v on, h.1 v on), λ h. (λ v on. (h v on).0, λ v on. (h v on).1))
lasts-both _ M A B w = (λ h. h, λ h. h)

-- what lasts is there now
pub lasts-now : {W E : Type 0} (l : Logic) (M : Model W E) → RelationFits l M → (A : W → Type 0) (w : W) → IsWorld M w → Lasts l M A w → A w
lasts-now Intuitionistic M fits A w at h = h w (fits.0 w at)
lasts-now _ M fits A w at h = h

-- what does not depend on the world lasts where it is so
pub lasts-always : {W E : Type 0} (l : Logic) (M : Model W E) → RelationFits l M → (A : Type 0) (w : W) → IsWorld M w → AreAlike (Lasts l M (λ v. A) w) A
lasts-always l M fits A w at = (lasts-now l M fits (λ v. A) w at, back l)
  where
    back : (m : Logic) → A → Lasts m M (λ v. A) w
    back Intuitionistic a = λ v on. a
    back _ a = a

-- what is so at each world lasts
pub lasts-there : {W E : Type 0} (l : Logic) (M : Model W E) → IsClosed M → (A : W → Type 0) → ((w : W) → IsWorld M w → A w) → (w : W) → IsWorld M w → Lasts l M A w
lasts-there Intuitionistic M closed A each w at = λ v on. each v (closed w v at on)
lasts-there _ M closed A each w at = each w at

pub lasts_for_each-there : {W E : Type 0} (l : Logic) (M : Model W E) → IsClosed M → (A : E → W → Type 0) → ((x : E) (w : W) → IsWorld M w → A x w) → (w : W) → IsWorld M w → LastsForEach l M A w
lasts_for_each-there Intuitionistic M closed A each w at = λ v on x there. each x v (closed w v at on)
lasts_for_each-there _ M closed A each w at = λ x there. each x w at

-- ---- equal things

pub same-says : {A : Type 0} (b c : Bool) → b ≡ c → AreAlike (IsTrue c) A → AreAlike (IsTrue b) A
same-says b c e p = (λ h. p.0 (sym e ∙ h), λ x. e ∙ p.1 x)

pub equal-says : (b c : Bool) → b ≡ c → AreAlike (IsTrue b) (IsTrue c)
equal-says b c e = (λ h. sym e ∙ h, λ h. e ∙ h)

pub same-equation : {E : Type 0} (a b c d : E) → a ≡ c → b ≡ d → AreAlike (c ≡ d) (a ≡ b)
same-equation a b c d p q = (λ e. p ∙ e ∙ sym q, λ e. sym p ∙ e ∙ q)

-- ---- items

-- Free variables are universally quantified, round the formula, in the order of their first places, as the formula of an item has them.
-- What stands for other names does not matter
abbrev pub IsTrueClosed : {W E : Type 0} → Logic → Model W E → List Symbol → Source → W → Type 0
IsTrueClosed l M symbols a w = ForEach l M (free_variables a) (IsTrueAt l M symbols a) (λ x. M.element) w
