-- An interpretation is extended by a new character or a new eigenvariable: it still fits, and what holds of the sequent still holds.
use Rattle.std.proofs.Common.{◌≡◌, ℕ, [], ◌∷◌, false, ◌||◌, ◌==◌, refl, sym, ◌∙◌, ap, subst, inl, inr, eqb-true, eq-eqb, Option, Some, if◌then◌else◌}
use Rattle.std.specs.Option.{option_map_or}
use Rattle.std.proofs.lemmas.Bool.{cases_Bool, or_parts}
use Rattle.calculus.specs.declared.setting.Logic.{Logic}
use Rattle.calculus.specs.Syntax.{eigen, spare, Problem}
use Rattle.calculus.specs.Substitution.{any_leaf_in}
use Rattle.calculus.specs.Derivations.{Mark, Sequent, Home, anywhere, home_at, EigenName, SpareName, Names}
use Rattle.calculus.specs.Calculus.{eigen_named, spare_named, holds_character, home_holds, is_in_home, is_eigen, character_occurs, eigen_occurs}
use Rattle.calculus.specs.Models.{Model, IsIn, HasTruth, IsModel}
use Rattle.calculus.proofs.WorldLaws.{world_of, AreSteps, with_step, with_step-steps, with_step-same}
use Rattle.calculus.proofs.NamedTruth.{truth-same, AgreeBut}
use Rattle.calculus.proofs.Interpretations.{Interpretation, Chosen, InHome, Fits, EachHolds, name_element, eigen-element-in, spare-element-in}

-- ---- a new character. Names whose home it stands in get other elements

abbrev pub with_character : {W E : Type 0} (S : Model W E) → Chosen S → Names → E → Mark → W → Interpretation W E → Interpretation W E
with_character S ch listed common c goal I = record {
  step = with_step S I.step c goal;
  names = λ t. if is_in_home listed c t then name_element S ch.element listed common (with_step S I.step c goal) t else I.names t;
}

pub with_character-agrees : {W E : Type 0} (S : Model W E) (ch : Chosen S) (listed : Names) (common : E) (c : Mark) (goal : W) (I : Interpretation W E) → AgreeBut (is_in_home listed c) (with_character S ch listed common c goal I).names I.names
with_character-agrees S ch listed common c goal I t named h = rw h refl

home-same : {W E : Type 0} (S : Model W E) (step : Mark → W → W) (common : E) (c : Mark) (goal : W) (h : Home) (e : E) → home_holds c h ≡ false → InHome S step common h e → InHome S (with_step S step c goal) common h e
home-same S step common c goal anywhere e new inside = inside
home-same S step common c goal (home_at w) e new inside = rw (with_step-same S step c goal S.root w new) inside

pub with_character-fits : {W E : Type 0} (P : Problem) (S : Model W E) → IsModel P S → (ch : Chosen S) (listed : Names) (common : E) (c : Mark) (goal : W) (I : Interpretation W E) → Fits S listed common I → Fits S listed common (with_character S ch listed common c goal I)
with_character-fits P S conditions ch listed common c goal I fits = record { steps = steps; names = record { eigens = eigens; spares = spares } }
  where
    steps : AreSteps S (with_step S I.step c goal)
    steps = with_step-steps S I.step c goal fits.steps

    eigens : (n : ℕ) (x : EigenName) → eigen_named listed n ≡ Some x → IsIn S (world_of S (with_step S I.step c goal) x.home) ((with_character S ch listed common c goal I).names (eigen n))
    eigens n x e = elim (cases_Bool (is_in_home listed c (eigen n))) [
      | inl h ↦ rw h (eigen-element-in P S conditions ch listed common (with_step S I.step c goal) steps n x e)
      | inr h ↦
          let new : holds_character c x.home ≡ false = subst (λ (o : Option EigenName). option_map_or (λ (y : EigenName). holds_character c y.home) o false ≡ false) e h in
          rw (h, with_step-same S I.step c goal S.root x.home new) (fits.names.eigens n x e)
    ]

    spares : (n : ℕ) (x : SpareName) → spare_named listed n ≡ Some x → InHome S (with_step S I.step c goal) common x.home ((with_character S ch listed common c goal I).names (spare n))
    spares n x e = elim (cases_Bool (is_in_home listed c (spare n))) [
      | inl h ↦ rw h (spare-element-in P S conditions ch listed common (with_step S I.step c goal) steps n x e)
      | inr h ↦
          let new : home_holds c x.home ≡ false = subst (λ (o : Option SpareName). option_map_or (λ (y : SpareName). home_holds c y.home) o false ≡ false) e h in
          rw h (home-same S I.step common c goal x.home (I.names (spare n)) new (fits.names.spares n x e))
    ]

pub with_character-holds : {W E : Type 0} (l : Logic) (S : Model W E) → HasTruth l S → (ch : Chosen S) (listed : Names) (common : E) (c : Mark) (goal : W) (I : Interpretation W E) (s : Sequent) → character_occurs listed c s ≡ false → EachHolds S I s → EachHolds S (with_character S ch listed common c goal I) s
with_character-holds l S tells ch listed common c goal I [] new h = tt
with_character-holds l S tells ch listed common c goal I (e ∷ s) new h =
    let parts = or_parts (holds_character c e.label || any_leaf_in (is_in_home listed c) e.formula) (character_occurs listed c s) new in
    let apart = or_parts (holds_character c e.label) (any_leaf_in (is_in_home listed c) e.formula) parts.0 in
    let J = with_character S ch listed common c goal I in
    let same_world = with_step-same S I.step c goal S.root e.label apart.0 in
    let same_truth = truth-same l S tells (is_in_home listed c) J.names I.names (with_character-agrees S ch listed common c goal I) e.formula apart.1 [] (world_of S J.step e.label) in
    (same_truth ∙ ap (S.truth I.names e.formula []) same_world ∙ h.0, with_character-holds l S tells ch listed common c goal I s parts.1 h.1)

-- ---- a new eigenvariable

abbrev pub with_eigen : {W E : Type 0} → ℕ → E → Interpretation W E → Interpretation W E
with_eigen n e I = record { step = I.step; names = λ t. if is_eigen n t then e else I.names t }

pub with_eigen-agrees : {W E : Type 0} (n : ℕ) (e : E) (I : Interpretation W E) → AgreeBut (is_eigen n) (with_eigen n e I).names I.names
with_eigen-agrees n e I t named h = rw h refl

pub with_eigen-value : {W E : Type 0} (n : ℕ) (e : E) (I : Interpretation W E) → (with_eigen n e I).names (eigen n) ≡ e
with_eigen-value n e I = rw (eq-eqb n n refl) refl

pub with_eigen-fits : {W E : Type 0} (S : Model W E) (listed : Names) (common : E) (n : ℕ) (e : E) (I : Interpretation W E) → ((x : EigenName) → eigen_named listed n ≡ Some x → IsIn S (world_of S I.step x.home) e) → Fits S listed common I → Fits S listed common (with_eigen n e I)
with_eigen-fits S listed common n e I inside fits = record { steps = fits.steps; names = record { eigens = eigens; spares = fits.names.spares } }
  where
    eigens : (m : ℕ) (x : EigenName) → eigen_named listed m ≡ Some x → IsIn S (world_of S I.step x.home) ((with_eigen n e I).names (eigen m))
    eigens m x h = elim (cases_Bool (n == m)) [
      | inl same ↦ rw same (inside x (subst (λ k. eigen_named listed k ≡ Some x) (sym (eqb-true n m same)) h))
      | inr apart ↦ rw apart (fits.names.eigens m x h)
    ]

pub with_eigen-holds : {W E : Type 0} (l : Logic) (S : Model W E) → HasTruth l S → (n : ℕ) (e : E) (I : Interpretation W E) (s : Sequent) → eigen_occurs n s ≡ false → EachHolds S I s → EachHolds S (with_eigen n e I) s
with_eigen-holds l S tells n e I [] new h = tt
with_eigen-holds l S tells n e I (x ∷ s) new h =
    let parts = or_parts (any_leaf_in (is_eigen n) x.formula) (eigen_occurs n s) new in
    (truth-same l S tells (is_eigen n) (with_eigen n e I).names I.names (with_eigen-agrees n e I) x.formula parts.0 [] (world_of S I.step x.label) ∙ h.0, with_eigen-holds l S tells n e I s parts.1 h.1)
