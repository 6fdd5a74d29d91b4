-- Interpretations of a derivation's characters and names in a structure: which fit the list of names, and how one is extended by
-- a new character or a new eigenvariable without changing what holds of a sequent.
use Rattle.std.proofs.Common.{◌≡◌, ℕ, zero, suc, [], ◌∷◌, ◌++◌, Bool, true, false, not, refl, sym, subst, Option, Some, None, slice_get, inl, inr, ◌∙◌}
use Rattle.std.specs.List.{list_any}
use Rattle.std.specs.Option.{option_map_or}
use Rattle.std.proofs.lemmas.Bool.{false≢true, cases_Bool, or_parts, not-false}
use Rattle.calculus.specs.declared.setting.Logic.{Logic}
use Rattle.calculus.specs.declared.setting.Logic.TheVariants.{Classical, Intuitionistic, D, T as LogicT, S4, S5}
use Rattle.calculus.specs.declared.setting.Domains.{Domains}
use Rattle.calculus.specs.declared.setting.Domains.TheVariants.{Constant, Cumulative, Varying}
use Rattle.calculus.specs.Syntax.{Term, eigen, spare, Problem}
use Rattle.calculus.specs.Skolem.{has_constant, common_spares}
use Rattle.calculus.specs.Labels.{home_allows}
use Rattle.calculus.specs.Derivations.{Mark, Label, character_eq, Entry, Sequent, Home, anywhere, home_at, EigenName, SpareName, Names}
use Rattle.calculus.specs.Calculus.{eigen_named, spare_named, spare_allowed, is_forbidden}
use Rattle.calculus.specs.Models.{Model, IsWorld, Reaches, IsIn, RelationFits, IsModel}
use Rattle.calculus.proofs.StructureLaws.{constant-place}
use Rattle.calculus.proofs.WorldLaws.{range_of, world_of, AreSteps, along-world, allowed-in}
use Rattle.calculus.proofs.NamedTruth.{NamesIn}
use Rattle.calculus.proofs.SignedTruth.{sign_value}

-- `step c w` is the world to which the character c leads from w, `names t` the element of the name t
pub record Interpretation (W E : Type 0) : Type 0 where
  pub step : Mark → W → W
  pub names : Term → E

-- an element that lies in every domain, where common spares exist
abbrev pub IsCommon : {W E : Type 0} → Problem → Model W E → E → Type 0
IsCommon {W} P S common = common_spares P ≡ true → (step : Mark → W → W) → AreSteps S step → (w : Label) → IsIn S (world_of S step w) common

abbrev pub InHome : {W E : Type 0} → Model W E → (Mark → W → W) → E → Home → E → Type 0
InHome S step common anywhere e = e ≡ common
InHome S step common (home_at w) e = IsIn S (world_of S step w) e

-- each listed name has an element of its home's domain
pub record NamesFit {W E : Type 0} (S : Model W E) (listed : Names) (common : E) (step : Mark → W → W) (names : Term → E) : Type 0 where
  pub eigens : (n : ℕ) (x : EigenName) → eigen_named listed n ≡ Some x → IsIn S (world_of S step x.home) (names (eigen n))
  pub spares : (n : ℕ) (x : SpareName) → spare_named listed n ≡ Some x → InHome S step common x.home (names (spare n))

pub record Fits {W E : Type 0} (S : Model W E) (listed : Names) (common : E) (I : Interpretation W E) : Type 0 where
  pub steps : AreSteps S I.step
  pub names : NamesFit S listed common I.step I.names

abbrev pub HoldsAt : {W E : Type 0} → Model W E → Interpretation W E → Entry → Type 0
HoldsAt S I e = S.truth I.names e.formula [] (world_of S I.step e.label) ≡ sign_value e.sign

-- each entry of the sequent holds
abbrev pub EachHolds : {W E : Type 0} → Model W E → Interpretation W E → Sequent → Type 0
EachHolds S I [] = Unit {0}
EachHolds S I (e ∷ s) = HoldsAt S I e × EachHolds S I s

pub each-append : {W E : Type 0} (S : Model W E) (I : Interpretation W E) (s t : Sequent) → EachHolds S I s → EachHolds S I t → EachHolds S I (s ++ t)
each-append S I [] t h g = g
each-append S I (e ∷ s) t h g = (h.0, each-append S I s t h.1 g)

abbrev OfEntry : (Entry → Type 0) → Option Entry → Type 0
OfEntry Claim None = Unit {0}
OfEntry Claim (Some e) = Claim e

pub entry-holds : {W E : Type 0} (S : Model W E) (I : Interpretation W E) (s : Sequent) (k : ℕ) (e : Entry) → slice_get s k ≡ Some e → EachHolds S I s → HoldsAt S I e
entry-holds S I [] k e g h = cc
entry-holds S I (x ∷ s) zero e g h = subst (OfEntry (HoldsAt S I)) g h.0
entry-holds S I (x ∷ s) (suc k) e g h = entry-holds S I s k e g h.1

pub entry-without : (test : Entry → Bool) (s : Sequent) (k : ℕ) (e : Entry) → slice_get s k ≡ Some e → list_any test s ≡ false → test e ≡ false
entry-without test [] k e g h = cc
entry-without test (x ∷ s) zero e g h = subst (λ (o : Option Entry). option_map_or test o false ≡ false) g (or_parts (test x) (list_any test s) h).0
entry-without test (x ∷ s) (suc k) e g h = entry-without test s k e g (or_parts (test x) (list_any test s) h).1

-- ---- elements for names by their homes

-- an element of each domain, and a successor of each world; at what is no world they say nothing
pub record Chosen {W E : Type 0} (S : Model W E) : Type 0 where
  pub element : W → E
  pub inside : (w : W) → IsWorld S w → IsIn S w (element w)
  pub next : W → W
  pub reached : (w : W) → IsWorld S w → Reaches S w (next w)

abbrev pub home_element : {W E : Type 0} (S : Model W E) → (W → E) → (Mark → W → W) → E → Home → E
home_element S pick step common anywhere = common
home_element S pick step common (home_at w) = pick (world_of S step w)

abbrev pub name_element : {W E : Type 0} → Model W E → (W → E) → Names → E → (Mark → W → W) → Term → E
name_element S pick listed common step (eigen n) = option_map_or (λ (x : EigenName). pick (world_of S step x.home)) (eigen_named listed n) S.element
name_element S pick listed common step (spare n) = option_map_or (λ (x : SpareName). home_element S pick step common x.home) (spare_named listed n) S.element
name_element S pick listed common step _ = S.element

first-in : {W E : Type 0} (P : Problem) (S : Model W E) → IsModel P S → (ch : Chosen S) (step : Mark → W → W) → AreSteps S step → (w : Label) → IsIn S (world_of S step w) (ch.element (world_of S step w))
first-in P S c ch step h w = let r = range_of P S c in ch.inside (world_of S step w) (along-world S r step h S.root w r.root)

home-element-in : {W E : Type 0} (P : Problem) (S : Model W E) → IsModel P S → (ch : Chosen S) (common : E) (step : Mark → W → W) → AreSteps S step → (h : Home) → InHome S step common h (home_element S ch.element step common h)
home-element-in P S c ch common step h anywhere = refl
home-element-in P S c ch common step h (home_at w) = first-in P S c ch step h w

pub eigen-element-in : {W E : Type 0} (P : Problem) (S : Model W E) → IsModel P S → (ch : Chosen S) (listed : Names) (common : E) (step : Mark → W → W) → AreSteps S step → (n : ℕ) (x : EigenName) → eigen_named listed n ≡ Some x → IsIn S (world_of S step x.home) (name_element S ch.element listed common step (eigen n))
eigen-element-in P S c ch listed common step h n x e = rw e (first-in P S c ch step h x.home)

pub spare-element-in : {W E : Type 0} (P : Problem) (S : Model W E) → IsModel P S → (ch : Chosen S) (listed : Names) (common : E) (step : Mark → W → W) → AreSteps S step → (n : ℕ) (x : SpareName) → spare_named listed n ≡ Some x → InHome S step common x.home (name_element S ch.element listed common step (spare n))
spare-element-in P S c ch listed common step h n x e = rw e (home-element-in P S c ch common step h x.home)

-- ---- at first each character leads to the next world, and each name has an element of its home's domain

-- a successor of each world: in D the given one, else the world itself
next-world : {W E : Type 0} (l : Logic) (S : Model W E) → RelationFits l S → (w : W) → IsWorld S w → (v : W) × Reaches S w v
next-world Classical S h w world = (w, h.0 w world)
next-world Intuitionistic S h w world = (w, h.0 w world)
next-world D S h w world = h w world
next-world LogicT S h w world = (w, h w world)
next-world S4 S h w world = (w, h.0 w world)
next-world S5 S h w world = (w, h w w world world)

-- what there is for each world is chosen by a function that is right at worlds
picked : {W E A : Type 0} (S : Model W E) (Fits : W → A → Type 0) → A → ((w : W) → IsWorld S w → (x : A) × Fits w x) → (w : W) → (x : A) × (IsWorld S w → Fits w x)
picked S Fits other given w = elim (cases_Bool (S.is_world w)) [
  | inl e ↦ let x = given w e in (x.0, λ world. x.1)
  | inr e ↦ (other, λ world. absurd (false≢true (sym e ∙ world)))
]

pub chosen : {W E : Type 0} (P : Problem) (S : Model W E) → IsModel P S → Chosen S
chosen P S c =
    let element = picked S (IsIn S) S.element c.inhabited in
    let next = picked S (Reaches S) S.root (next-world P.setting.logic S c.relation) in
    record { element = λ w. (element w).0; inside = λ w. (element w).1; next = λ w. (next w).0; reached = λ w. (next w).1 }

abbrev pub first_interpretation : {W E : Type 0} (S : Model W E) → Chosen S → Names → E → Interpretation W E
first_interpretation S ch listed common = record { step = λ c w. ch.next w; names = name_element S ch.element listed common (λ c w. ch.next w) }

pub first-fits : {W E : Type 0} (P : Problem) (S : Model W E) → IsModel P S → (ch : Chosen S) (listed : Names) (common : E) → Fits S listed common (first_interpretation S ch listed common)
first-fits P S c ch listed common =
    let steps : AreSteps S (λ m w. ch.next w) = λ m x world. ch.reached x world in
    record {
      steps = steps;
      names = record { eigens = eigen-element-in P S c ch listed common (λ m w. ch.next w) steps; spares = spare-element-in P S c ch listed common (λ m w. ch.next w) steps };
    }

-- ---- an element that lies in every domain: a constant's value where domains vary, else one of the root's domain

common-from_root : {W E : Type 0} (P : Problem) (S : Model W E) → IsModel P S → ((w : Label) → home_allows character_eq P.setting.domains [] w ≡ true) → (common : E) × IsCommon P S common
common-from_root P S c everywhere =
    let r = range_of P S c in
    let first = c.inhabited S.root r.root in
    (first.0, λ exists step h w. allowed-in P.setting.domains S r c.domains step h first.0 [] w (everywhere w) first.1)

common-from_constant : {W E : Type 0} (P : Problem) (S : Model W E) → IsModel P S → P.setting.domains ≡ Varying → (b : Bool) → has_constant P ≡ b → (common : E) × IsCommon P S common
common-from_constant P S c varies true e =
    let r = range_of P S c in
    let place = constant-place P.symbols e in
    (S.value place.0 [], λ exists step h w. c.functions place.0 [] place.1 (world_of S step w) (along-world S r step h S.root w r.root) tt)
common-from_constant P S c varies false e = (S.element, λ exists. absurd (none exists))
  where
    none : common_spares P ≡ true → ⊥
    none exists = let h : false ≡ true = rw (varies, e) at exists in false≢true h

pub common-element : {W E : Type 0} (P : Problem) (S : Model W E) → IsModel P S → (common : E) × IsCommon P S common
common-element {E = E} P S c = by P.setting.domains refl
  where
    by : (d : Domains) → P.setting.domains ≡ d → (common : E) × IsCommon P S common
    by Constant e = common-from_root P S c (λ w. rw e refl)
    by Cumulative e = common-from_root P S c (λ w. rw e refl)
    by Varying e = common-from_constant P S c e (has_constant P) refl

-- ---- where a term of a gamma step is allowed, the elements of its names lie in the domain

spare-in : {W E : Type 0} (P : Problem) (S : Model W E) → IsModel P S → (common : E) → IsCommon P S common → (step : Mark → W → W) → AreSteps S step → (h : Home) (e : E) → InHome S step common h e → (v : Label) → spare_allowed P h v ≡ true → IsIn S (world_of S step v) e
spare-in {E = E} P S c common is_common step steps anywhere e inside v allowed = subst (λ (x : E). IsIn S (world_of S step v) x) (sym inside) (is_common allowed step steps v)
spare-in P S c common is_common step steps (home_at h) e inside v allowed = allowed-in P.setting.domains S (range_of P S c) c.domains step steps e h v allowed inside

pub names-in : {W E : Type 0} (P : Problem) (S : Model W E) → IsModel P S → (listed : Names) (common : E) → IsCommon P S common → (I : Interpretation W E) → Fits S listed common I → (v : Label) → NamesIn S (world_of S I.step v) (is_forbidden P listed v) I.names
names-in P S c listed common is_common I fits v = record { eigens = λ n. eigens n (eigen_named listed n) refl; spares = λ n. spares n (spare_named listed n) refl }
  where
    eigens : (n : ℕ) (o : Option EigenName) → eigen_named listed n ≡ o → is_forbidden P listed v (eigen n) ≡ false → IsIn S (world_of S I.step v) (I.names (eigen n))
    eigens n None e h = let no : true ≡ false = rw e at h in absurd (false≢true (sym no))
    eigens n (Some x) e h =
        let allowed : not (home_allows character_eq P.setting.domains x.home v) ≡ false = rw e at h in
        allowed-in P.setting.domains S (range_of P S c) c.domains I.step fits.steps (I.names (eigen n)) x.home v (not-false _ allowed) (fits.names.eigens n x e)

    spares : (n : ℕ) (o : Option SpareName) → spare_named listed n ≡ o → is_forbidden P listed v (spare n) ≡ false → IsIn S (world_of S I.step v) (I.names (spare n))
    spares n None e h = let no : true ≡ false = rw e at h in absurd (false≢true (sym no))
    spares n (Some x) e h =
        let allowed : not (spare_allowed P x.home v) ≡ false = rw e at h in
        spare-in P S c common is_common I.step fits.steps x.home (I.names (spare n)) (fits.names.spares n x e) v (not-false _ allowed)
