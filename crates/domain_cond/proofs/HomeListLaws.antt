-- Homes that come to a list, one by one.
use Rattle.std.proofs.Common.{◌≡◌, ℕ, List, [], ◌∷◌, ◌++◌, Bool, true, IsTrue, refl, sym, ◌∙◌, length, subst, Some, slice_get, arith}
use Rattle.std.specs.List.{AllByRecursion, list_all}
use Rattle.std.proofs.lemmas.Bool.{and_from, and_parts}
use Rattle.std.proofs.lemmas.List.{take_all}
use Rattle.calculus.specs.declared.setting.Domains.{Domains}
use Rattle.calculus.specs.declared.setting.Domains.TheVariants.{Constant, Cumulative, Varying}
use Rattle.store_theory.specs.Bindings.{AddsBuilt, IsEnd}
use Rattle.calculus.specs.Equality.{mark_eq}
use Rattle.calculus.specs.Ground.{GroundMark}
use Rattle.calculus.specs.Labels.{home_allows, is_prefix}
use Rattle.calculus.specs.Skolem.{label_of}
use Rattle.store_theory.specs.Stores.{GammaCell, Solution, Store, eigen_cell}
use Rattle.calculus.specs.Syntax.{Problem}
use Rattle.store_theory.specs.Systems.{AllAllowed, MeetsDemand, System, is_gamma_cell, is_label, is_system}
use Rattle.calculus.proofs.EqualityLaws.{list_eq-tells, mark_eq-tells}
use Rattle.store_theory.proofs.PatternLaws.{Grows-built, grown-cell, grown-gamma_cell}
use Rattle.search_theory.specs.States.{label_by, values_by}
use Rattle.search_theory.proofs.BuildingLaws.{adds-back}
use Rattle.search_theory.proofs.DemandLaws.{prefix-taken}
use Rattle.search_theory.specs.HomesTold.{HomesAllow}
use Rattle.search_theory.proofs.SolvingLaws.{label-there}
use Rattle.term_store.specs.Homes.{BeginsLabel, Home, is_home}
use Rattle.domain_cond.specs.Conditions.{AddsHomes, HomeAllows}
use Rattle.domain_cond.specs.Leaves.{AreLeaves}
use Rattle.domain_cond.specs.Ways.{IsFoundHome}
use Rattle.domain_cond.proofs.ConditionLaws.{gamma-at, label-more, met-homes}

-- ---- lists

home-more : (s t : Store) (h : Home) → AddsBuilt s t → IsTrue (is_home s h) → IsTrue (is_home t h)
home-more s t h adds k =
    let p = and_parts (is_label s h.home) (is_label s h.label) k in
    and_from (is_label t h.home) (is_label t h.label) (label-more s t h.home adds p.0) (label-more s t h.label adds p.1)

homes-after : (s t : Store) (hs : List Home) (h : Home) → AddsBuilt s t → IsTrue (list_all (is_home s) hs) → IsTrue (is_home t h) → IsTrue (list_all (is_home t) (hs ++ h ∷ []))
homes-after s t [] h adds a k = and_from (is_home t h) true k refl
homes-after s t (x ∷ hs) h adds a k =
    let p = and_parts (is_home s x) (list_all (is_home s) hs) a in
    and_from (is_home t x) (list_all (is_home t) (hs ++ h ∷ [])) (home-more s t x adds p.0) (homes-after s t hs h adds p.1 k)

begins-after : (σ : Solution) (hs : List Home) (h : Home) → AllByRecursion (BeginsLabel σ) hs → BeginsLabel σ h → AllByRecursion (BeginsLabel σ) (hs ++ h ∷ [])
begins-after σ [] h a k = (k, tt)
begins-after σ (x ∷ hs) h a k = (a.0, begins-after σ hs h a.1 k)

-- ---- one eigenvariable

begins : (d : Domains) (v w : List GroundMark) → ¬ (d ≡ Constant) → IsTrue (home_allows mark_eq d v w) → IsTrue (is_prefix mark_eq v w)
begins Constant v w n h = absurd (n refl)
begins Cumulative v w n h = h
begins Varying v w n h =
    let itself = subst (λ x. IsTrue (is_prefix mark_eq x v)) (take_all (length v) v (omega arith)) (prefix-taken (length v) v) in
    subst (λ x. IsTrue (is_prefix mark_eq v x)) ((list_eq-tells mark_eq mark_eq-tells v w).0 h) itself

is_all : (d : Domains) (v w : List GroundMark) → d ≡ Varying → IsTrue (home_allows mark_eq d v w) → v ≡ w
is_all d v w e h = (list_eq-tells mark_eq mark_eq-tells v w).0 (subst (λ x. IsTrue (home_allows mark_eq x v w)) e h)

pub home-added : (P : Problem) (old new : Store) (e p : ℕ) (rs label ks : List ℕ) (whole : Bool) (before after : List Home) → ¬ (P.setting.domains ≡ Constant) → (whole ≡ true → P.setting.domains ≡ Varying) → slice_get old.cells e ≡ Some (eigen_cell p rs) → IsTrue (is_label old label) → AddsBuilt old new → IsFoundHome P old new p rs ks → after ≡ before ++ record { home = ks; label = label; is_whole = whole } ∷ [] → AddsHomes (HomeAllows P old e label) old new before after
home-added P old new e p rs label ks whole before after n varying at h adds found is = subst (AddsHomes (HomeAllows P old e label) old new before) (sym is) (record {
  labels = λ a. homes-after old new before (record { home = ks; label = label; is_whole = whole }) adds a (and_from (is_label new ks) (is_label new label) found.sorted (label-more old new label adds h));
  forced = λ σ t m a.
      let l = label_of P p (values_by σ rs) in
      let w = label_by σ label in
      let allows = m p rs at in
      begins-after σ before (record { home = ks; label = label; is_whole = whole }) a (l, w, found.home σ t, label-there new σ t label (label-more old new label adds h), begins P.setting.domains l w n allows, (λ x. is_all P.setting.domains l w (varying x) allows));
})

pub none-added : (M : Solution → Type 0) (s : Store) (homes : List Home) → AddsHomes M s s homes homes
none-added M s homes = record { labels = λ h. h; forced = λ σ t m h. h }

-- ---- the leaves of a term

pub leaf-end-more : (old new : Store) (term : ℕ) (es : List ℕ) (i leaf : ℕ) → AreLeaves old term es → slice_get es i ≡ Some leaf → AddsBuilt old new → IsEnd new leaf
leaf-end-more old new term es i leaf leaves at adds = let (c, f, b, none) = (leaves.held i leaf at).1 in (c, grown-cell old new leaf c (Grows-built old new adds) f, b)

pub leaf-added : (P : Problem) (old mid new : Store) (g : GammaCell) (es : List ℕ) (i leaf : ℕ) (before between after : List Home) → AreLeaves old g.term es → slice_get es i ≡ Some leaf → AddsBuilt old mid → AddsBuilt mid new → AddsHomes (λ σ. HomesAllow P old σ g) old mid before between → AddsHomes (HomeAllows P mid leaf g.label) mid new between after → AddsHomes (λ σ. HomesAllow P old σ g) old new before after
leaf-added P old mid new g es i leaf before between after leaves at first second h k =
    let held = (leaves.held i leaf at).0 in
    let (c, f, b, none) = (leaves.held i leaf at).1 in
    let there = grown-cell old mid leaf c (Grows-built old mid first) f in
    record {
      labels = λ a. k.labels (h.labels a);
      forced = λ σ t m a. k.forced σ t (λ p rs q. m leaf p rs held (f ∙ sym there ∙ q)) (h.forced σ (adds-back mid new second σ t) m a);
    }

-- ---- all gamma terms

pub gamma-more : (old new : Store) (y : System) (j : ℕ) (g : GammaCell) → IsTrue (is_system old y) → slice_get y.gammas j ≡ Some g → AddsBuilt old new → IsTrue (is_gamma_cell new g)
gamma-more old new y j g h at adds = grown-gamma_cell old new g (Grows-built old new adds) (gamma-at old y j g h at)

pub term-added : (P : Problem) (old mid new : Store) (y : System) (j : ℕ) (g : GammaCell) (before between after : List Home) → slice_get y.gammas j ≡ Some g → AddsBuilt mid new → AddsHomes (MeetsDemand (AllAllowed P) y) old mid before between → AddsHomes (λ σ. HomesAllow P mid σ g) mid new between after → AddsHomes (MeetsDemand (AllAllowed P) y) old new before after
term-added P old mid new y j g before between after at adds h k = record {
  labels = λ a. k.labels (h.labels a);
  forced = λ σ t m a.
      let u = adds-back mid new adds σ t in
      k.forced σ t (met-homes P mid y σ u m j g at) (h.forced σ u m a);
}
