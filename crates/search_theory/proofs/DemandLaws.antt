-- The three domain conditions as equations: each equation that they give is solved by every ground solution that meets them, and where none
-- is left own spares meet them.
use Rattle.std.proofs.Common.{◌≡◌, ℕ, zero, suc, ◌<◌, List, [], ◌∷◌, length, take, Bool, true, false, IsTrue, refl, sym, ◌∙◌, ap, ap₂, subst, Some, None, slice_get, inl, inr, arith}
use Rattle.std.specs.List.{list_all}
use Rattle.std.proofs.lemmas.Bool.{false≢true, and_parts, and_from}
use Rattle.plain_laws.proofs.Every.{all-at}
use Rattle.calculus.specs.declared.sort.Sort.TheVariants.{TermSort, MarkSort, StringSort}
use Rattle.calculus.specs.declared.setting.Domains.TheVariants.{Constant, Varying}
use Rattle.calculus.specs.Syntax.{Problem}
use Rattle.calculus.specs.Ground.{GroundTerm, GroundTerms, GroundMark, g_fun, g_eigen, common, own, no_g_terms, more_g_terms, marks_tree, marks_list, values_list}
use Rattle.calculus.specs.Lists.{marks_list-marks_tree, values_list-values_tree}
use Rattle.calculus.specs.Equality.{mark_eq, sort_eq}
use Rattle.calculus.specs.Labels.{is_prefix, home_allows}
use Rattle.calculus.specs.Skolem.{label_of, common_spares, is_allowed, are_allowed}
use Rattle.calculus.specs.Instances.{GammaUse, gamma_is_allowed}
use Rattle.store_theory.specs.Stores.{Cell, variable, fun_cell, eigen_cell, new_cell, string_cell, Store, sort_of, has_sort_at, parts_fit, is_store, CellValue, a_term, a_mark, a_string, has_sort, Solution, terms_at, cons_mark, marks_at, join_label, label_at, Solves, Holds, itself, bound, argument, GammaCell, IsHome, AreOwnSpares}
use Rattle.store_theory.specs.Systems.{System, is_label, is_gamma_cell, AreEqual, IsUse, AreUses, MeetsDemand, AreEqualNow, OwnSparesMeet, AllAllowed}
use Rattle.calculus.proofs.EqualityLaws.{mark_eq-tells, list_eq-tells}
use Rattle.store_theory.specs.Templates.{as_term}
use Rattle.search_theory.specs.States.{terms_by, label_by, values_by}
use Rattle.search_theory.specs.Demanding.{IsHomeAt, equation, StandsAt, HasNoConstant, HomesAgree}
use Rattle.search_theory.proofs.SpareLaws.{IsRanked, cell-fits, cell-sorted, own_value, own-apart}
use Rattle.search_theory.specs.CellsIn.{IsPart}
use Rattle.search_theory.proofs.GeneralLaws.{term-parts, mark-parts}
use Rattle.search_theory.proofs.BuildingLaws.{solved-sorted}
use Rattle.search_theory.proofs.AtomLaws.{values_at-by, terms_at-by, label_at-by}
use Rattle.search_theory.proofs.SolvingLaws.{label-there}
use Rattle.search_theory.proofs.GivingLaws.{joined-mark}
use Rattle.search_theory.specs.MarkLists.{IsFlat}
use Rattle.search_theory.specs.HomesTold.{HomesAllow}

-- ---- what stands in an allowed term is allowed

args-allowed : (P : Problem) (w : List GroundMark) (f : ℕ) (ts : GroundTerms) → IsTrue (is_allowed P w (g_fun f ts)) → IsTrue (are_allowed P w ts)
args-allowed P w f no_g_terms h = refl
args-allowed P w f (more_g_terms t ts) h = h

-- the value of a cell is an allowed term
abbrev AllowedAt : Problem → List GroundMark → Solution → ℕ → Type 0
AllowedAt P w σ r = (u : GroundTerm) × (σ r ≡ a_term u) × IsTrue (is_allowed P w u)

part-allowed : (P : Problem) (w : List GroundMark) (σ : Solution) (rs : List ℕ) (ts : GroundTerms) (i k : ℕ) → terms_at σ rs ≡ Some ts → slice_get rs i ≡ Some k → IsTrue (are_allowed P w ts) → AllowedAt P w σ k
part-allowed P w σ [] ts i k e p h = cc p
part-allowed P w σ (r ∷ rs) ts zero k e p h =
    let q = term-parts σ r rs ts e in
    let both = and_parts (is_allowed P w q.first) (are_allowed P w q.rest) (subst (λ us. IsTrue (are_allowed P w us)) q.all_of_them h) in
    let same : r ≡ k = cc p in
    (q.first, sym (ap σ same) ∙ q.is_first, both.0)
part-allowed P w σ (r ∷ rs) ts (suc i) k e p h =
    let q = term-parts σ r rs ts e in
    let both = and_parts (is_allowed P w q.first) (are_allowed P w q.rest) (subst (λ us. IsTrue (are_allowed P w us)) q.all_of_them h) in
    part-allowed P w σ rs q.rest i k q.are_rest p both.1

pub held-allowed : (P : Problem) (w : List GroundMark) (s : Store) (σ : Solution) → Solves s σ → (v r : ℕ) → Holds s v r → AllowedAt P w σ r → AllowedAt P w σ v
held-allowed P w s σ h v r itself a = a
held-allowed P w s σ h v r (bound {k = k} {sort = sort} e more) a = held-allowed P w s σ h v k more (a.0, sym (h r (variable sort (Some k)) e).1 ∙ a.1, a.2)
held-allowed P w s σ h v r (argument i {f = f} {k = k} {rs = rs} e p more) a =
    let q = h r (fun_cell f rs) e in
    let z : a_term a.0 ≡ a_term (g_fun f q.0) = sym a.1 ∙ q.2 in
    let same : a.0 ≡ g_fun f q.0 = cc z in
    held-allowed P w s σ h v k more (part-allowed P w σ rs q.0 i k q.1 p (args-allowed P w f q.0 (subst (λ t. IsTrue (is_allowed P w t)) same a.2)))

-- an eigenvariable that is allowed has a home that allows it
pub eigen-home : (P : Problem) (w : List GroundMark) (s : Store) (σ : Solution) → Solves s σ → (e p : ℕ) (rs : List ℕ) → slice_get s.cells e ≡ Some (eigen_cell p rs) → AllowedAt P w σ e → IsTrue (home_allows mark_eq P.setting.domains (label_of P p (values_by σ rs)) w)
eigen-home P w s σ h e p rs at a =
    let q = h e (eigen_cell p rs) at in
    let z : a_term a.0 ≡ a_term (g_eigen p q.0) = sym a.1 ∙ q.2 in
    let same : a.0 ≡ g_eigen p q.0 = cc z in
    let values : values_list q.0 ≡ values_by σ rs = ap values_list (sym (values_at-by σ rs q.0 q.1)) ∙ values_list-values_tree (values_by σ rs) in
    subst (λ vs. IsTrue (home_allows mark_eq P.setting.domains (label_of P p vs) w)) values (subst (λ t. IsTrue (is_allowed P w t)) same a.2)

-- ---- and conversely

all-allowed : (P : Problem) (w : List GroundMark) (σ : Solution) (rs : List ℕ) → ((k : ℕ) → IsPart k rs → IsTrue (is_allowed P w (as_term (σ k)))) → IsTrue (are_allowed P w (terms_by σ rs))
all-allowed P w σ [] h = refl
all-allowed P w σ (r ∷ rs) h = and_from (is_allowed P w (as_term (σ r))) (are_allowed P w (terms_by σ rs)) (h r (0, refl)) (all-allowed P w σ rs (λ k p. h k (suc p.0, p.1)))

stands-part : (P : Problem) (s : Store) (σ : Solution) (w : List GroundMark) (r k : ℕ) → ((v : ℕ) → Holds s v k → Holds s v r) → StandsAt P s σ w r → StandsAt P s σ w k
stands-part P s σ w r k up h = record {
  eigens = λ e p rs o at. h.eigens e p rs (up e o) at;
  variables = λ v o at. h.variables v (up v o) at;
  constants = λ e f o at. h.constants e f (up e o) at;
}

pub stands-allowed : (P : Problem) (s : Store) (rank : ℕ → ℕ) (limit : ℕ) (σ : Solution) (w : List GroundMark) → IsTrue (is_store s) → IsRanked s rank limit → Solves s σ → (n r : ℕ) (c : Cell) → rank r < n → slice_get s.cells r ≡ Some c → IsTrue (sort_eq TermSort (sort_of c)) → StandsAt P s σ w r → IsTrue (is_allowed P w (as_term (σ r)))
stands-allowed P s rank limit σ w h ranked solves zero r c l e t k = absurd (omega (arith, l))
stands-allowed P s rank limit σ w h ranked solves (suc n) r c l e t k = by c e t (cell-fits s h r c e) (λ j d m a b x. stands-allowed P s rank limit σ w h ranked solves n j d m a b x)
  where
    args : (f : ℕ) (rs : List ℕ) → slice_get s.cells r ≡ Some (fun_cell f rs) → IsTrue (list_all (has_sort_at s TermSort) rs) → ((j : ℕ) (d : Cell) → rank j < n → slice_get s.cells j ≡ Some d → IsTrue (sort_eq TermSort (sort_of d)) → StandsAt P s σ w j → IsTrue (is_allowed P w (as_term (σ j)))) → IsTrue (is_allowed P w (g_fun f (terms_by σ rs)))
    args f [] g fits ih = k.constants r f itself g
    args f (x ∷ xs) g fits ih = all-allowed P w σ (x ∷ xs) (λ j p.
        let d = cell-sorted s TermSort j (all-at (has_sort_at s TermSort) (x ∷ xs) p.0 j fits p.1) in
        let fall = ranked.falls r j (fun_cell f (x ∷ xs)) g p in
        ih j d.0 (omega (arith, l, fall)) d.1 d.2 (stands-part P s σ w r j (λ v o. argument p.0 g p.1 o) k))

    by : (d : Cell) → slice_get s.cells r ≡ Some d → IsTrue (sort_eq TermSort (sort_of d)) → IsTrue (parts_fit s d) → ((j : ℕ) (x : Cell) → rank j < n → slice_get s.cells j ≡ Some x → IsTrue (sort_eq TermSort (sort_of x)) → StandsAt P s σ w j → IsTrue (is_allowed P w (as_term (σ j)))) → IsTrue (is_allowed P w (as_term (σ r)))
    by (variable TermSort None) g z fits ih = k.variables r itself g
    by (variable TermSort (Some j)) g z fits ih =
        let d = cell-sorted s TermSort j fits in
        let fall = ranked.falls r j (variable TermSort (Some j)) g (0, refl) in
        subst (λ v. IsTrue (is_allowed P w (as_term v))) (sym (solves r (variable TermSort (Some j)) g).1) (ih j d.0 (omega (arith, l, fall)) d.1 d.2 (stands-part P s σ w r j (λ v o. bound g o) k))
    by (variable MarkSort b) g z fits ih = absurd (false≢true z)
    by (variable StringSort b) g z fits ih = absurd (false≢true z)
    by (fun_cell f rs) g z fits ih =
        let q = solves r (fun_cell f rs) g in
        subst (λ v. IsTrue (is_allowed P w (as_term v))) (sym (q.2 ∙ ap (λ ts. a_term (g_fun f ts)) (sym (terms_at-by σ rs q.0 q.1)))) (args f rs g fits ih)
    by (eigen_cell p rs) g z fits ih =
        let q = solves r (eigen_cell p rs) g in
        let values : values_list q.0 ≡ values_by σ rs = ap values_list (sym (values_at-by σ rs q.0 q.1)) ∙ values_list-values_tree (values_by σ rs) in
        subst (λ v. IsTrue (is_allowed P w (as_term v))) (sym q.2) (subst (λ vs. IsTrue (home_allows mark_eq P.setting.domains (label_of P p vs) w)) (sym values) (k.eigens r p rs itself g))
    by (new_cell p rs) g z fits ih = absurd (false≢true z)
    by (string_cell rs) g z fits ih = absurd (false≢true z)

-- ---- the gamma terms of a system

-- a gamma term that meets the demand
pub met-gamma : (P : Problem) (y : System) (σ : Solution) → MeetsDemand (AllAllowed P) y σ → (j : ℕ) (g : GammaCell) → slice_get y.gammas j ≡ Some g → (w : List GroundMark) × (label_at σ g.label ≡ Some w) × AllowedAt P w σ g.term
met-gamma P y σ (us, are, allowed) j g at = by y.gammas us j are allowed at
  where
    by : (gs : List GammaCell) (vs : List GammaUse) (i : ℕ) → AreUses σ gs vs → IsTrue (list_all (gamma_is_allowed P) vs) → slice_get gs i ≡ Some g → (w : List GroundMark) × (label_at σ g.label ≡ Some w) × AllowedAt P w σ g.term
    by [] vs i a b e = cc e
    by (x ∷ xs) vs zero (u, ws, e, here_use, more) b f =
        let same : x ≡ g = cc f in
        let p = and_parts (gamma_is_allowed P u) (list_all (gamma_is_allowed P) ws) (subst (λ zs. IsTrue (list_all (gamma_is_allowed P) zs)) e b) in
        let q = subst (λ z. IsUse σ z u) same here_use in
        (u.label, q.label, (u.term, q.term, p.0))
    by (x ∷ xs) vs (suc i) (u, ws, e, here_use, more) b f =
        let p = and_parts (gamma_is_allowed P u) (list_all (gamma_is_allowed P) ws) (subst (λ zs. IsTrue (list_all (gamma_is_allowed P) zs)) e b) in
        by xs ws i more p.1 f

-- ---- equations that the conditions force

pub prefix-take : (h w : List GroundMark) → IsTrue (is_prefix mark_eq h w) → h ≡ take (length h) w
prefix-take [] w k = refl
prefix-take (m ∷ h) [] k = absurd (false≢true k)
prefix-take (m ∷ h) (n ∷ w) k = let p = and_parts (mark_eq m n) (is_prefix mark_eq h w) k in ap₂ (λ x xs. x ∷ xs) ((mark_eq-tells m n).0 p.0) (prefix-take h w p.1)

pub take-marks : (σ : Solution) (n : ℕ) (ms : List ℕ) (w : List GroundMark) → marks_at σ ms ≡ Some w → marks_at σ (take n ms) ≡ Some (take n w)
take-marks σ zero ms w e = refl
take-marks σ (suc n) [] w e = let q : [] ≡ w = cc e in ap (λ x. Some (take (suc n) x)) q
take-marks σ (suc n) (m ∷ ms) w e = let p = mark-parts σ m ms w e in ap₂ cons_mark p.is_first (take-marks σ n ms p.rest p.are_rest) ∙ ap (λ x. Some (take (suc n) x)) (sym p.all_of_them)

pub marks-label : (s : Store) (σ : Solution) → Solves s σ → (ms : List ℕ) → IsTrue (list_all (has_sort_at s MarkSort) ms) → label_at σ ms ≡ marks_at σ ms
marks-label s σ h [] k = refl
marks-label s σ h (m ∷ ms) k = let p = and_parts (has_sort_at s MarkSort m) (list_all (has_sort_at s MarkSort) ms) k in ap (join_label (σ m)) (marks-label s σ h ms p.1) ∙ joined-mark (σ m) (solved-sorted s σ h MarkSort m p.0) (marks_at σ ms)

pub all-taken : (p : ℕ → Bool) (n : ℕ) (xs : List ℕ) → IsTrue (list_all p xs) → IsTrue (list_all p (take n xs))
all-taken p zero xs h = refl
all-taken p (suc n) [] h = refl
all-taken p (suc n) (x ∷ xs) h = let q = and_parts (p x) (list_all p xs) h in and_from (p x) (list_all p (take n xs)) q.0 (all-taken p n xs q.1)

-- a term that is allowed at two labels, with varying domains and without common spares
mutual
  allowed-twice : (P : Problem) (w v : List GroundMark) (t : GroundTerm) → P.setting.domains ≡ Varying → common_spares P ≡ false → IsTrue (is_allowed P w t) → IsTrue (is_allowed P v t) → w ≡ v
  allowed-twice P w v (g_fun f no_g_terms) d c a b = absurd (false≢true (sym c ∙ a))
  allowed-twice P w v (g_fun f (more_g_terms t ts)) d c a b = allowed-twice P w v t d c (and_parts (is_allowed P w t) (are_allowed P w ts) a).0 (and_parts (is_allowed P v t) (are_allowed P v ts) b).0
  allowed-twice P w v (g_eigen p vs) d c a b =
      let h = label_of P p (values_list vs) in
      sym ((list_eq-tells mark_eq mark_eq-tells h w).0 (subst (λ x. IsTrue (home_allows mark_eq x h w)) d a)) ∙ (list_eq-tells mark_eq mark_eq-tells h v).0 (subst (λ x. IsTrue (home_allows mark_eq x h v)) d b)
  allowed-twice P w v (common k) d c a b = absurd (false≢true (sym c ∙ a))
  allowed-twice P w v (own k h) d c a b = sym ((list_eq-tells mark_eq mark_eq-tells (marks_list h) w).0 (subst (λ x. IsTrue (home_allows mark_eq x (marks_list h) w)) d a)) ∙ (list_eq-tells mark_eq mark_eq-tells (marks_list h) v).0 (subst (λ x. IsTrue (home_allows mark_eq x (marks_list h) v)) d b)

-- a variable that stands in two gamma terms has one home
pub forced-home : (P : Problem) (s : Store) (y : System) (σ : Solution) → P.setting.domains ≡ Varying → common_spares P ≡ false → Solves s σ → MeetsDemand (AllAllowed P) y σ → (i j v : ℕ) (g h : GammaCell) → slice_get y.gammas i ≡ Some g → slice_get y.gammas j ≡ Some h → Holds s v g.term → Holds s v h.term → AreEqual σ (equation g.label h.label)
forced-home P s y σ d c k m i j v g h at_i at_j in_g in_h =
    let (w, label, allowed) = met-gamma P y σ m i g at_i in
    let (u, label', allowed') = met-gamma P y σ m j h at_j in
    let a = held-allowed P w s σ k v g.term in_g allowed in
    let b = held-allowed P u s σ k v h.term in_h allowed' in
    let z : a_term b.0 ≡ a_term a.0 = sym b.1 ∙ a.1 in
    let same : b.0 ≡ a.0 = cc z in
    let one : w ≡ u = allowed-twice P w u a.0 d c a.2 (subst (λ t. IsTrue (is_allowed P u t)) same b.2) in
    (w, label, label' ∙ ap Some (sym one))

-- without common spares no constant stands in a gamma term
pub never-constant : (P : Problem) (s : Store) (y : System) (σ : Solution) → common_spares P ≡ false → Solves s σ → (j e f : ℕ) (g : GammaCell) → slice_get y.gammas j ≡ Some g → Holds s e g.term → slice_get s.cells e ≡ Some (fun_cell f []) → ¬ MeetsDemand (AllAllowed P) y σ
never-constant P s y σ c h j e f g at held cell m =
    let (w, label, allowed) = met-gamma P y σ m j g at in
    let a = held-allowed P w s σ h e g.term held allowed in
    let q = h e (fun_cell f []) cell in
    let none : no_g_terms ≡ q.0 = cc q.1 in
    let z : a_term a.0 ≡ a_term (g_fun f q.0) = sym a.1 ∙ q.2 in
    let same : a.0 ≡ g_fun f q.0 = cc z in
    false≢true (sym c ∙ subst (λ ts. IsTrue (is_allowed P w (g_fun f ts))) (sym none) (subst (λ t. IsTrue (is_allowed P w t)) same a.2))

-- ---- where no equation is left

abbrev use_of : Solution → GammaCell → GammaUse
use_of σ g = record { term = as_term (σ g.term); label = label_by σ g.label }

term-value : (v : CellValue) → IsTrue (has_sort TermSort v) → v ≡ a_term (as_term v)
term-value (a_term t) h = refl
term-value (a_mark m) h = absurd (false≢true h)
term-value (a_string w) h = absurd (false≢true h)

-- each gamma term stands where it may
pub meets-by_stands : (P : Problem) (s : Store) (rank : ℕ → ℕ) (limit : ℕ) (y : System) (σ : Solution) → IsTrue (is_store s) → IsRanked s rank limit → Solves s σ → IsTrue (list_all (is_gamma_cell s) y.gammas) → ((j : ℕ) (g : GammaCell) → slice_get y.gammas j ≡ Some g → StandsAt P s σ (label_by σ g.label) g.term) → MeetsDemand (AllAllowed P) y σ
meets-by_stands P s rank limit y σ h ranked t cells stands = let m = each y.gammas cells stands in (m.0, m.1, m.2)
  where
    each : (gs : List GammaCell) → IsTrue (list_all (is_gamma_cell s) gs) → ((j : ℕ) (g : GammaCell) → slice_get gs j ≡ Some g → StandsAt P s σ (label_by σ g.label) g.term) → (us : List GammaUse) × AreUses σ gs us × IsTrue (list_all (gamma_is_allowed P) us)
    each [] a b = ([], refl, refl)
    each (g ∷ gs) a b =
        let p = and_parts (is_gamma_cell s g) (list_all (is_gamma_cell s) gs) a in
        let q = and_parts (has_sort_at s TermSort g.term) (is_label s g.label) p.0 in
        let (us, are, allowed) = each gs p.1 (λ j x e. b (suc j) x e) in
        let c = cell-sorted s TermSort g.term q.0 in
        let u = use_of σ g in (
          u ∷ us,
          (u, us, refl, record { term = term-value (σ g.term) (solved-sorted s σ t TermSort g.term q.0); label = label-there s σ t g.label q.1 }, are),
          and_from (gamma_is_allowed P u) (list_all (gamma_is_allowed P) us) (stands-allowed P s rank limit σ (label_by σ g.label) h ranked t (suc (rank g.term)) g.term c.0 (omega arith) c.1 c.2 (b 0 g refl)) allowed,
        )

-- a label already equal to another one
pub now-label : (s : Store) (σ : Solution) → Solves s σ → (ks ws : List ℕ) → AreEqualNow s (equation ks ws) → label_by σ ks ≡ label_by σ ws
now-label s σ h ks ws e = let (w, l, r) = e σ h in label_at-by σ ks w l ∙ sym (label_at-by σ ws w r)

pub prefix-taken : (n : ℕ) (w : List GroundMark) → IsTrue (is_prefix mark_eq (take n w) w)
prefix-taken zero w = refl
prefix-taken (suc n) [] = refl
prefix-taken (suc n) (m ∷ w) = and_from (mark_eq m m) (is_prefix mark_eq (take n w) w) ((mark_eq-tells m m).1 refl) (prefix-taken n w)

-- with cumulative domains homes that equal a beginning of the label allow it
pub record HomesBegin (P : Problem) (s : Store) (g : GammaCell) : Type 0 where
  pub homes : (e p : ℕ) (rs : List ℕ) → Holds s e g.term → slice_get s.cells e ≡ Some (eigen_cell p rs) → (ks : List ℕ) × (n : ℕ) × (ms : List ℕ) × IsHomeAt P s p rs ks × IsFlat s g.label ms × AreEqualNow s (equation ks (take n ms))

-- ---- own spares meet the demand

common-spare : (P : Problem) (w : List GroundMark) (s : Store) (gammas : List GammaCell) (σ : Solution) (number : ℕ → ℕ) → common_spares P ≡ true → AreOwnSpares true s gammas σ number → (v : ℕ) → slice_get s.cells v ≡ Some (variable TermSort None) → IsTrue (is_allowed P w (as_term (σ v)))
common-spare P w s gammas σ number c h v e = subst (λ x. IsTrue (is_allowed P w (as_term x))) (sym (h.spares v TermSort e)) c

-- the home of a variable is the label of some gamma term that holds it
home-held : (s : Store) (σ : Solution) (v : ℕ) (gs : List GammaCell) (h : List GroundMark) → IsHome s σ v gs h → (j : ℕ) (g : GammaCell) → slice_get gs j ≡ Some g → Holds s v g.term → (i : ℕ) × (x : GammaCell) × (slice_get gs i ≡ Some x) × Holds s v x.term × (label_at σ x.label ≡ Some h)
home-held s σ v [] h k j g e o = cc e
home-held s σ v (x ∷ gs) h (inl (held, l)) j g e o = (0, x, refl, held, l)
home-held s σ v (x ∷ gs) h (inr (not_held, more)) zero g e o = let q : x ≡ g = cc e in absurd (not_held (subst (λ z. Holds s v z.term) (sym q) o))
home-held s σ v (x ∷ gs) h (inr (not_held, more)) (suc j) g e o = let (i, y, at, held, l) = home-held s σ v gs h more j g e o in (suc i, y, at, held, l)

own-spare : (P : Problem) (s : Store) (gammas : List GammaCell) (σ : Solution) (number : ℕ → ℕ) → P.setting.domains ≡ Varying → HomesAgree s gammas → AreOwnSpares false s gammas σ number → (v j : ℕ) (g : GammaCell) → slice_get gammas j ≡ Some g → Holds s v g.term → slice_get s.cells v ≡ Some (variable TermSort None) → IsTrue (is_allowed P (label_by σ g.label) (as_term (σ v)))
own-spare P s gammas σ number d agree h v j g at held e =
    let (home, is_home, is_v) = h.spares v TermSort e in
    let (i, x, at_i, in_x, label) = home-held s σ v gammas home is_home j g at held in
    let same : home ≡ label_by σ g.label = sym (label_at-by σ x.label home label) ∙ now-label s σ h.solves x.label g.label (agree i j v x g at_i at e in_x held) in
    let w = label_by σ g.label in
    subst (λ y. IsTrue (is_allowed P w (as_term y))) (sym is_v)
    (subst (λ z. IsTrue (home_allows mark_eq z (marks_list (marks_tree home)) w)) (sym d)
    ((list_eq-tells mark_eq mark_eq-tells (marks_list (marks_tree home)) w).1 (marks_list-marks_tree home ∙ same)))

-- where common spares exist
pub met-common : (P : Problem) (s : Store) (rank : ℕ → ℕ) (limit : ℕ) (y : System) → IsTrue (is_store s) → IsRanked s rank limit → IsTrue (list_all (is_gamma_cell s) y.gammas) → common_spares P ≡ true → ((j : ℕ) (g : GammaCell) → slice_get y.gammas j ≡ Some g → HomesAllow P s (own_value s limit) g) → OwnSparesMeet true (AllAllowed P) s y
met-common P s rank limit y h ranked cells c homes =
    let σ = own_value s limit in
    let spares = own-apart s rank limit y.gammas h ranked in (
      σ,
      spares,
      meets-by_stands P s rank limit y σ h ranked spares.solves cells (λ j g at. record {
        eigens = homes j g at;
        variables = λ v o e. common-spare P (label_by σ g.label) s y.gammas σ (λ r. r) c spares v e;
        constants = λ e f o at'. c;
      }),
    )

-- where they do not, and there are own spares
pub met-own : (P : Problem) (s : Store) (rank : ℕ → ℕ) (limit : ℕ) (y : System) (σ : Solution) → IsTrue (is_store s) → IsRanked s rank limit → IsTrue (list_all (is_gamma_cell s) y.gammas) → P.setting.domains ≡ Varying → AreOwnSpares false s y.gammas σ (λ v. v) → HomesAgree s y.gammas → ((j : ℕ) (g : GammaCell) → slice_get y.gammas j ≡ Some g → HomesAllow P s σ g) → ((j : ℕ) (g : GammaCell) → slice_get y.gammas j ≡ Some g → HasNoConstant s g) → OwnSparesMeet false (AllAllowed P) s y
met-own P s rank limit y σ h ranked cells d spares agree homes constants = (
  σ,
  spares,
  meets-by_stands P s rank limit y σ h ranked spares.solves cells (λ j g at. record {
    eigens = homes j g at;
    variables = λ v o e. own-spare P s y.gammas σ (λ u. u) d agree spares v j g at o e;
    constants = λ e f o at'. absurd (constants j g at e f o at');
  }),
)

-- with constant domains each home allows
pub homes-constant : (P : Problem) (s : Store) (σ : Solution) (g : GammaCell) → P.setting.domains ≡ Constant → HomesAllow P s σ g
homes-constant P s σ g d e p rs held cell = subst (λ x. IsTrue (home_allows mark_eq x (label_of P p (values_by σ rs)) (label_by σ g.label))) (sym d) refl
