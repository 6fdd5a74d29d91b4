-- The part of a label that a home is to equal, and what the equations force.
use Rattle.std.proofs.Common.{◌≡◌, ℕ, zero, suc, ◌+◌, ◌<◌, ◌≤◌, List, [], ◌∷◌, ◌++◌, take, length, Bool, true, false, IsTrue, refl, sym, ◌∙◌, ap, ap₂, subst, Some, slice_get, arith, lt-ltb, not, ◌||◌}
use Rattle.std.specs.List.{list_all, flat_map}
use Rattle.std.proofs.lemmas.Bool.{false≢true, and_from, and_parts}
use Rattle.plain_laws.proofs.Every.{all-at}
use Rattle.plain_laws.proofs.Places.{get-within}
use Rattle.search_theory.proofs.ImageLaws.{label-agree}
use Rattle.term_unify.proofs.SameLaws.{label-marks}
use Rattle.calculus.specs.declared.sort.Sort.TheVariants.{TermSort, MarkSort, StringSort}
use Rattle.calculus.specs.declared.setting.Domains.{Domains}
use Rattle.calculus.specs.declared.setting.Domains.TheVariants.{Constant, Cumulative, Varying}
use Rattle.store_theory.specs.Bindings.{AddsBuilt, nothing_more, EndsIn, IsEnd, IsWellFormed}
use Rattle.calculus.specs.Equality.{mark_eq}
use Rattle.calculus.specs.Labels.{home_allows, is_prefix}
use Rattle.calculus.specs.Skolem.{common_spares, has_constant, is_varying, label_of}
use Rattle.store_theory.specs.Stores.{eigen_cell, Store, TrailMark, IsGood, cut_at, has_sort_at, has_value_sort_at, is_store, OccursIn, here, in_part, Solution, Solves, label_at, Holds, itself, bound, argument, GammaCell}
use Rattle.calculus.specs.Syntax.{Problem}
use Rattle.store_theory.specs.Systems.{AllAllowed, AreEqualNow, Equation, HasNoOpenString, IsDemandEquation, IsOpenString, MeetsDemand, OwnSparesMeet, Pair, System, cells_of_atom, has_label_sort_at, is_gamma_cell, is_label, is_system}
use Rattle.store_theory.specs.Templates.{as_value}
use Rattle.store_theory.proofs.BindingLaws.{HasNoCycle-rank, kept, parts-within, within-sort}
use Rattle.calculus.proofs.EqualityLaws.{mark_eq-tells, list_eq-tells}
use Rattle.store_theory.proofs.PatternLaws.{Grows-built, KeepsMarks-built, grown-label}
use Rattle.calculus.proofs.PlaceLists.{all-more}
use Rattle.search_theory.specs.Demanding.{equation}
use Rattle.search_theory.specs.States.{label_by, values_by, Agree}
use Rattle.search_theory.proofs.AtomLaws.{label_at-by}
use Rattle.search_theory.proofs.BuildingLaws.{adds-back, adds-forth}
use Rattle.search_theory.proofs.DemandLaws.{all-taken, eigen-home, held-allowed, marks-label, met-common, met-gamma, now-label, prefix-take, prefix-taken, take-marks}
use Rattle.search_theory.specs.HomesTold.{HomesAllow}
use Rattle.search_theory.proofs.GivingLaws.{length-marks}
use Rattle.search_theory.specs.MarkLists.{IsFlat}
use Rattle.search_theory.proofs.RankLaws.{rank_of, ranked-by_no_cycle}
use Rattle.search_theory.proofs.SolvingLaws.{label-below, label-there, system-parts}
use Rattle.search_theory.proofs.SpareLaws.{own-apart, own_value}
use Rattle.term_unify.specs.Flat.{HasNoString, HasNoStringIn}
use Rattle.term_unify.specs.Same.{AreSameLabels}
use Rattle.term_unify.proofs.FlatLaws.{free-grown, no_string-part}
use Rattle.term_unify.proofs.ListItems.{item-flat, item-left, item-right}
use Rattle.domain_cond.specs.Conditions.{Allows, HomeAllows, IsCompared, IsEigen, IsForced}
use Rattle.domain_cond.specs.Leaves.{AreLeaves}
use Rattle.domain_cond.specs.Ways.{IsFoundHome}
use Rattle.domain_cond.proofs.FirstLaws.{AllTo, all-next, all-start, all-whole}
use Rattle.domain_cond.proofs.WayLaws.{from-take, label-within}
use Rattle.domain_cond.proofs.LeafLaws.{eigen-head}
use Rattle.cop_base.specs.declared.PosId.{PosId}
use Rattle.term_store.specs.Shown.{head_of}
use Rattle.term_store.specs.declared.cell.Head.{Head}
use Rattle.term_store.specs.declared.cell.Head.TheVariants.{Eigen}

-- ---- eigenvariables

pub eigen-end : (s : Store) (e : ℕ) → IsEigen s e → IsEnd s e
eigen-end s e (p, rs, at) = (eigen_cell p rs, at, refl)

pub eigen-within : (s : Store) (e : ℕ) → IsEigen s e → e < length s.cells
eigen-within s e (p, rs, at) = get-within s.cells e (eigen_cell p rs) at

-- the home is that of the position that the head tells
pub found-eigen : (P : Problem) (old new : Store) (e : ℕ) (head : Head) (q : PosId) (p : ℕ) (rs vs ks : List ℕ) → slice_get old.cells e ≡ Some (eigen_cell p rs) → EndsIn old e (λ c. head_of c ≡ head) → head ≡ Eigen q → vs ≡ rs → IsFoundHome P old new q.0 vs ks → IsFoundHome P old new p rs ks
found-eigen P old new e head q p rs vs ks at t is values found =
    let place : p ≡ q.0 = (let z = eigen-head old e head p rs at t ∙ is in let y : record { 0 = p } ≡ q = cc z in ap (λ (x : PosId). x.0) y) in
    subst (λ x. IsFoundHome P old new x rs ks) (sym place) (subst (λ x. IsFoundHome P old new q.0 x ks) values found)

-- ---- the part of the label

marks-sorted : (s : Store) (ms : List ℕ) → IsTrue (list_all (has_sort_at s MarkSort) ms) → IsTrue (is_label s ms)
marks-sorted s ms h = all-more (has_sort_at s MarkSort) (has_label_sort_at s) ms (λ r x. or-left (has_sort_at s MarkSort r) (has_sort_at s StringSort r) x) h
  where
    or-left : (a b : Bool) → IsTrue a → IsTrue (a || b)
    or-left true b h = refl
    or-left false b h = absurd (false≢true h)

pub whole-compared : (P : Problem) (s : Store) (ks label ms : List ℕ) → P.setting.domains ≡ Varying → IsTrue (is_label s label) → IsFlat s label ms → HasNoString s ms → IsCompared P s ks label ms
whole-compared P s ks label ms d h f free = record {
  sorted = marks-sorted s ms f.sorted;
  free = free;
  forced = λ p rs home σ t a.
      let l = label_of P p (values_by σ rs) in
      let w = label_by σ label in
      let same : l ≡ w = (list_eq-tells mark_eq mark_eq-tells l w).0 (subst (λ x. IsTrue (home_allows mark_eq x l w)) d a) in
      (w, home σ t ∙ ap Some same, marks-label s σ t ms f.sorted ∙ label-marks s label ms σ t h f);
  allows = λ p rs home now σ t.
      let l = label_of P p (values_by σ rs) in
      let w = label_by σ label in
      let marks : label_by σ ms ≡ w = label_at-by σ ms w (marks-label s σ t ms f.sorted ∙ label-marks s label ms σ t h f) in
      let same : l ≡ w = sym (label_at-by σ ks l (home σ t)) ∙ now-label s σ t ks ms now ∙ marks in
      subst (λ x. IsTrue (home_allows mark_eq x l w)) (sym d) ((list_eq-tells mark_eq mark_eq-tells l w).1 same);
}

pub begin-compared : (P : Problem) (s : Store) (ks label hs ms part : List ℕ) → P.setting.domains ≡ Cumulative → IsTrue (is_label s label) → IsFlat s ks hs → IsFlat s label ms → HasNoString s ms → part ≡ take (length hs) ms → IsCompared P s ks label part
begin-compared P s ks label hs ms part d h fh f free is = subst (IsCompared P s ks label) (sym is) (record {
  sorted = marks-sorted s (take (length hs) ms) taken-sorted;
  free = λ v i r o e c. free v i r o (from-take (length hs) ms i r e) c;
  forced = λ p rs home σ t a.
      let l = label_of P p (values_by σ rs) in
      let w = label_by σ label in
      let begins : l ≡ take (length l) w = prefix-take l w (subst (λ x. IsTrue (home_allows mark_eq x l w)) d a) in
      let long : length l ≡ length hs = length-marks σ hs l (sym (fh.same σ t) ∙ home σ t) in
      let right = take-marks σ (length hs) ms w (label-marks s label ms σ t h f) in
      (l, home σ t, marks-label s σ t (take (length hs) ms) taken-sorted ∙ right ∙ ap (λ n. Some (take n w)) (sym long) ∙ ap Some (sym begins));
  allows = λ p rs home now σ t.
      let l = label_of P p (values_by σ rs) in
      let w = label_by σ label in
      let part : label_at σ (take (length hs) ms) ≡ Some (take (length hs) w) = marks-label s σ t (take (length hs) ms) taken-sorted ∙ take-marks σ (length hs) ms w (label-marks s label ms σ t h f) in
      let same : l ≡ take (length hs) w = sym (label_at-by σ ks l (home σ t)) ∙ now-label s σ t ks (take (length hs) ms) now ∙ label_at-by σ (take (length hs) ms) (take (length hs) w) part in
      subst (λ x. IsTrue (home_allows mark_eq x l w)) (sym d) (subst (λ x. IsTrue (is_prefix mark_eq x w)) (sym same) (prefix-taken (length hs) w));
})
  where
    taken-sorted : IsTrue (list_all (has_sort_at s MarkSort) (take (length hs) ms))
    taken-sorted = all-taken (has_sort_at s MarkSort) (length hs) ms f.sorted

pub varying-left : (d : Domains) → ¬ (d ≡ Constant) → ¬ (d ≡ Cumulative) → d ≡ Varying
varying-left Constant a b = absurd (a refl)
varying-left Cumulative a b = absurd (b refl)
varying-left Varying a b = refl

-- ---- one eigenvariable

pub free-parts : (s : Store) (e p : ℕ) (rs : List ℕ) → slice_get s.cells e ≡ Some (eigen_cell p rs) → HasNoStringIn s e → HasNoString s rs
free-parts s e p rs at free v i r o q c = free v o (in_part i at q c)

pub free-sides : (s : Store) (ks part : List ℕ) → HasNoString s ks → HasNoString s part → (v i r : ℕ) → IsOpenString s v → slice_get (ks ++ part) i ≡ Some r → ¬ OccursIn s v r
free-sides s [] part a b v i r o e c = b v i r o e c
free-sides s (k ∷ ks) part a b v zero r o e c = a v 0 r o e c
free-sides s (k ∷ ks) part a b v (suc i) r o e c = free-sides s ks part (λ u j m x f d. a u (suc j) m x f d) b v i r o e c

pub now-equal : (s : Store) (ks part : List ℕ) → IsTrue (is_label s ks) → IsTrue (is_label s part) → AreSameLabels s ks part → AreEqualNow s (equation ks part)
now-equal s ks part h k same σ t = (label_by σ ks, label-there s σ t ks h, label-there s σ t part k ∙ ap Some (sym (same σ t)))

pub home-unmet : (P : Problem) (old new : Store) (e p : ℕ) (rs label ks part : List ℕ) → slice_get old.cells e ≡ Some (eigen_cell p rs) → HasNoStringIn old e → IsFoundHome P old new p rs ks → IsCompared P new ks label part → ¬ AreSameLabels new ks part → IsForced new (HomeAllows P old e label) (equation ks part)
home-unmet P old new e p rs label ks part at free found compared differ = record {
  fits = and_from (is_label new ks) (is_label new part) found.sorted compared.sorted;
  no_open_string = free-sides new ks part (found.free (free-parts old e p rs at free)) compared.free;
  unequal = λ now. differ (λ σ t. now-label new σ t ks part now);
  forced = λ σ t m. compared.forced p rs found.home σ t (m p rs at);
}

pub home-met : (P : Problem) (new : Store) (p : ℕ) (rs label ks part : List ℕ) (old : Store) → IsFoundHome P old new p rs ks → IsCompared P new ks label part → AreSameLabels new ks part → (σ : Solution) → Solves new σ → Allows P p rs label σ
home-met P new p rs label ks part old found compared same σ t = compared.allows p rs found.home (now-equal new ks part found.sorted compared.sorted same) σ t

values-agree : (n : ℕ) (σ τ : Solution) → Agree n σ τ → (rs : List ℕ) → ((i r : ℕ) → slice_get rs i ≡ Some r → r < n) → values_by σ rs ≡ values_by τ rs
values-agree n σ τ a [] h = refl
values-agree n σ τ a (r ∷ rs) h = ap₂ (λ v vs. as_value v ∷ vs) (a r (lt-ltb r n (h 0 r refl))) (values-agree n σ τ a rs (λ i k e. h (suc i) k e))

-- what holds by the solutions of the store with marks added holds by those of the store before
pub met-before : (P : Problem) (old new : Store) (e : ℕ) (label : List ℕ) → IsTrue (is_store old) → IsTrue (is_label old label) → AddsBuilt old new → ((σ : Solution) → Solves new σ → HomeAllows P old e label σ) → (σ : Solution) → Solves old σ → HomeAllows P old e label σ
met-before P old new e label h sorted adds met σ t p rs at =
    let (τ, u, agree) = adds-forth old new adds σ t in
    let values = values-agree (length old.cells) σ τ agree rs (λ i r q. parts-within old (eigen_cell p rs) i r ((kept old h).fits e (eigen_cell p rs) at) q) in
    let labels = label-agree (length old.cells) σ τ agree label (label-below old label sorted) in
    subst (λ vs. IsTrue (home_allows mark_eq P.setting.domains (label_of P p vs) (label_by σ label))) (sym values)
    (subst (λ w. IsTrue (home_allows mark_eq P.setting.domains (label_of P p (values_by τ rs)) w)) (sym labels) (met τ u p rs at))

-- ---- the eigenvariables of a gamma term

-- an equation that is forced by less is forced by more
pub forced-more : (s : Store) (M N : Solution → Type 0) (e : Equation) → ((σ : Solution) → Solves s σ → N σ → M σ) → IsForced s M e → IsForced s N e
forced-more s M N e h f = record { fits = f.fits; no_open_string = f.no_open_string; unequal = f.unequal; forced = λ σ t n. f.forced σ t (h σ t n) }

-- the leaves before the place i allow the label
pub AllowTo : Problem → Store → List ℕ → List ℕ → ℕ → Type 0
AllowTo P s es label i = AllTo es i (λ e. (σ : Solution) → Solves s σ → HomeAllows P s e label σ)

pub allow-start : (P : Problem) (s : Store) (es label : List ℕ) → AllowTo P s es label 0
unfolding AllowTo
allow-start P s es label = all-start es (λ e. (σ : Solution) → Solves s σ → HomeAllows P s e label σ)

pub allow-next : (P : Problem) (s : Store) (es label : List ℕ) (i e : ℕ) → AllowTo P s es label i → slice_get es i ≡ Some e → ((σ : Solution) → Solves s σ → HomeAllows P s e label σ) → AllowTo P s es label (i + 1)
unfolding AllowTo
allow-next P s es label i e h at now = all-next es i e (λ x. (σ : Solution) → Solves s σ → HomeAllows P s x label σ) h at now

pub allow-other : (P : Problem) (s : Store) (e : ℕ) (label : List ℕ) → ((p : ℕ) (rs : List ℕ) → ¬ (slice_get s.cells e ≡ Some (eigen_cell p rs))) → (σ : Solution) → Solves s σ → HomeAllows P s e label σ
allow-other P s e label none σ t p rs at = absurd (none p rs at)

pub allow-all : (P : Problem) (s : Store) (g : GammaCell) (es : List ℕ) (i : ℕ) → AreLeaves s g.term es → length es ≤ i → AllowTo P s es g.label i → (σ : Solution) → Solves s σ → HomesAllow P s σ g
unfolding AllowTo
allow-all P s g es i leaves l h σ t e p rs held at =
    let (j, q) = leaves.all_of_them e held (eigen_cell p rs, at, refl, refl) in
    h j e (let m = get-within es j e q in omega (arith, l, m)) q σ t p rs at

pub leaf-forced : (P : Problem) (s new : Store) (g : GammaCell) (es : List ℕ) (i leaf : ℕ) (e : Equation) → AreLeaves s g.term es → slice_get es i ≡ Some leaf → IsForced new (HomeAllows P s leaf g.label) e → IsForced new (λ σ. HomesAllow P s σ g) e
leaf-forced P s new g es i leaf e leaves at f = forced-more new (HomeAllows P s leaf g.label) (λ σ. HomesAllow P s σ g) e (λ σ t h p rs q. h leaf p rs (leaves.held i leaf at).0 q) f

-- no unbound string occurs in what stands in a term without one
pub holds-free : (s : Store) (e r : ℕ) → Holds s e r → HasNoStringIn s r → HasNoStringIn s e
holds-free s e r h free = no_string-part s r e free (occurs h)
  where
    occurs : {k : ℕ} → Holds s e k → OccursIn s e k
    occurs itself = here
    occurs (bound at more) = in_part 0 at refl (occurs more)
    occurs (argument i at p more) = in_part i at p (occurs more)

-- ---- the gamma terms

pub AllowEach : Problem → Store → List GammaCell → ℕ → Type 0
AllowEach P s gs i = AllTo gs i (λ g. (σ : Solution) → Solves s σ → HomesAllow P s σ g)

pub each-start : (P : Problem) (s : Store) (gs : List GammaCell) → AllowEach P s gs 0
unfolding AllowEach
each-start P s gs = all-start gs (λ g. (σ : Solution) → Solves s σ → HomesAllow P s σ g)

pub each-next : (P : Problem) (s : Store) (gs : List GammaCell) (i : ℕ) (g : GammaCell) → AllowEach P s gs i → slice_get gs i ≡ Some g → ((σ : Solution) → Solves s σ → HomesAllow P s σ g) → AllowEach P s gs (i + 1)
unfolding AllowEach
each-next P s gs i g h at now = all-next gs i g (λ x. (σ : Solution) → Solves s σ → HomesAllow P s σ x) h at now

pub each-all : (P : Problem) (s : Store) (gs : List GammaCell) (i : ℕ) → length gs ≤ i → AllowEach P s gs i → (j : ℕ) (g : GammaCell) → slice_get gs j ≡ Some g → (σ : Solution) → Solves s σ → HomesAllow P s σ g
unfolding AllowEach
each-all P s gs i l h = all-whole gs i (λ g. (σ : Solution) → Solves s σ → HomesAllow P s σ g) l h

-- what meets the condition has homes that allow
pub met-homes : (P : Problem) (s : Store) (y : System) (σ : Solution) → Solves s σ → MeetsDemand (AllAllowed P) y σ → (j : ℕ) (g : GammaCell) → slice_get y.gammas j ≡ Some g → HomesAllow P s σ g
met-homes P s y σ t met j g at e p rs held cell =
    let (w, label, allowed) = met-gamma P y σ met j g at in
    subst (λ x. IsTrue (home_allows mark_eq P.setting.domains (label_of P p (values_by σ rs)) x)) (sym (label_at-by σ g.label w label)) (eigen-home P w s σ t e p rs cell (held-allowed P w s σ t e g.term held allowed))

pub gamma-demanded : (P : Problem) (old new : Store) (y : System) (j : ℕ) (g : GammaCell) (e : Equation) → AddsBuilt old new → slice_get y.gammas j ≡ Some g → IsForced new (λ σ. HomesAllow P old σ g) e → IsDemandEquation (AllAllowed P) new y e
gamma-demanded P old new y j g e adds at f = record {
  fits = f.fits;
  no_open_string = f.no_open_string;
  unequal = f.unequal;
  forced = λ σ t met. f.forced σ t (met-homes P old y σ (adds-back old new adds σ t) met j g at);
}

pub cumulative-common : (P : Problem) → P.setting.domains ≡ Cumulative → common_spares P ≡ true
cumulative-common P e = ap (λ d. not (is_varying d) || has_constant P) e

-- with spares of every domain, homes that allow are all that is asked
pub met-homes_allow : (P : Problem) (s : Store) (y : System) → IsWellFormed s → common_spares P ≡ true → IsTrue (is_system s y) → ((j : ℕ) (g : GammaCell) → slice_get y.gammas j ≡ Some g → (σ : Solution) → Solves s σ → HomesAllow P s σ g) → OwnSparesMeet (common_spares P) (AllAllowed P) s y
met-homes_allow P s y w common h allow =
    let ranked = ranked-by_no_cycle s w.fits (HasNoCycle-rank s w.rank) in
    subst (λ b. OwnSparesMeet b (AllAllowed P) s y) (sym common)
    (met-common P s (rank_of s) (suc (length s.cells)) y w.fits ranked (system-parts s y h).gammas common
    (λ j g at. allow j g at (own_value s (suc (length s.cells))) (own-apart s (rank_of s) (suc (length s.cells)) y.gammas w.fits ranked).solves))

-- ---- what stands in a system

pub gamma-free : (s : Store) (y : System) → HasNoOpenString s y → (j : ℕ) (g : GammaCell) → slice_get y.gammas j ≡ Some g → HasNoStringIn s g.term × HasNoString s g.label
gamma-free s y h j g at = ((λ v o w. pending v 0 g.term o refl w), (λ v i r o e w. pending v (suc i) r o e w))
  where
    pending : (v i r : ℕ) → IsOpenString s v → slice_get (g.term ∷ g.label) i ≡ Some r → ¬ OccursIn s v r
    pending v i r o e w =
        let es = flat_map (λ (x : Equation). x.left ++ x.right) y.equations in
        let gs = flat_map (λ (x : GammaCell). x.term ∷ x.label) y.gammas in
        let ps = flat_map (λ (p : Pair). cells_of_atom p.upper ++ cells_of_atom p.lower) y.pairs in
        let (n, f) = item-left r (es ++ y.strings ++ gs) ps (item-right r (es ++ y.strings) gs (item-flat (λ (x : GammaCell). x.term ∷ x.label) y.gammas j g r at (i, e))) in
        h v o (n, r, f, w)

-- ---- in a store with more cells

pub label-more : (s t : Store) (rs : List ℕ) → AddsBuilt s t → IsTrue (is_label s rs) → IsTrue (is_label t rs)
label-more s t rs adds h = grown-label s t rs (Grows-built s t adds) h

pub free-more : (s t : Store) (rs : List ℕ) → IsTrue (is_store s) → AddsBuilt s t → IsTrue (is_label s rs) → HasNoString s rs → HasNoString t rs
free-more s t rs h adds sorted free v i r o e c = free-grown s t h (Grows-built s t adds) r (label-within s rs i r sorted e) (λ u x y. free u i r x e y) v o c

-- undoing what was added leads back
pub added-undone : (old new : Store) (m : TrailMark) → AddsBuilt old new → IsGood m old → cut_at m old ≡ old → IsGood m new × (cut_at m new ≡ old)
added-undone old new m adds good whole = let q = KeepsMarks-built old new adds m good in (q.0, q.1 ∙ whole)

pub same-added : (old new : Store) → new ≡ old → AddsBuilt old new
same-added old new e = subst (AddsBuilt old) (sym e) nothing_more

pub eigen-values : (s : Store) (e p : ℕ) (rs : List ℕ) → IsTrue (is_store s) → slice_get s.cells e ≡ Some (eigen_cell p rs) → IsTrue (list_all (has_value_sort_at s) rs)
eigen-values s e p rs h at = (kept s h).fits e (eigen_cell p rs) at

pub gamma-parts : (s : Store) (g : GammaCell) → IsTrue (is_gamma_cell s g) → (g.term < length s.cells) × IsTrue (is_label s g.label)
gamma-parts s g h = let q = and_parts (has_sort_at s TermSort g.term) (is_label s g.label) h in (within-sort s TermSort g.term q.0, q.1)

pub gamma-at : (s : Store) (y : System) (j : ℕ) (g : GammaCell) → IsTrue (is_system s y) → slice_get y.gammas j ≡ Some g → IsTrue (is_gamma_cell s g)
gamma-at s y j g h at = all-at (is_gamma_cell s) y.gammas j g (system-parts s y h).gammas at

pub leaf-end : (s t : Store) (term : ℕ) (es : List ℕ) (i leaf : ℕ) → AreLeaves s term es → slice_get es i ≡ Some leaf → t ≡ s → IsEnd t leaf
leaf-end s t term es i leaf leaves at e = let (c, f, b, none) = (leaves.held i leaf at).1 in (c, ap (λ x. slice_get x.cells leaf) e ∙ f, b)
