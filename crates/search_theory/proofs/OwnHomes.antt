-- Own spares of labels exist where any ground solution meets the demand: then each cell is above those that it needs. And where a cell needs
-- itself, by way of homes, no ground solution meets the demand.
use Rattle.std.proofs.Common.{◌≡◌, ℕ, zero, suc, ◌+◌, ◌*◌, ◌<◌, ◌≤◌, List, [], ◌∷◌, length, false, IsTrue, refl, sym, ◌∙◌, ap, subst, Option, Some, None, slice_get, nat_le, inl, inr, arith, leb-true, add-mul, one-mul}
use Rattle.std.specs.List.{list_all}
use Rattle.std.proofs.lemmas.Bool.{false≢true, and_parts, cases_lt}
use Rattle.std.proofs.lemmas.Nat.{mul-le}
use Rattle.std.proofs.lemmas.Option.{slice_get_within}
use Rattle.plain_laws.proofs.Every.{all-at, all-weaken}
use Rattle.calculus.specs.declared.sort.Sort.TheVariants.{TermSort, MarkSort, StringSort}
use Rattle.calculus.specs.declared.setting.Domains.TheVariants.{Varying}
use Rattle.calculus.specs.Syntax.{Problem}
use Rattle.calculus.specs.Ground.{GroundMark}
use Rattle.calculus.specs.Skolem.{common_spares}
use Rattle.calculus.specs.Sizes.{g_term_size, mark_size, values_size}
use Rattle.store_theory.specs.Stores.{Cell, variable, fun_cell, eigen_cell, new_cell, string_cell, Store, parts_of, has_sort_at, is_store, CellValue, a_term, a_mark, a_string, has_sort, Solution, marks_at, Solves, Holds, GammaCell, IsHome}
use Rattle.store_theory.specs.Systems.{System, MeetsDemand, AllAllowed}
use Rattle.search_theory.specs.States.{label_by}
use Rattle.search_theory.proofs.SpareLaws.{IsRanked, cell-fits, cell-sorted, marks-there}
use Rattle.search_theory.specs.CellsIn.{IsPart}
use Rattle.search_theory.proofs.GeneralLaws.{mark-parts, part-cell}
use Rattle.search_theory.proofs.BuildingLaws.{solved-sorted}
use Rattle.search_theory.specs.MarkLists.{IsFlat}
use Rattle.search_theory.proofs.RuleLaws.{IsRankedBy, AreHomes}
use Rattle.search_theory.specs.SpareRules.{SpareRule, needed, homes, Needs, at_once, by_way}
use Rattle.search_theory.proofs.AdmittedLaws.{weight, part-lighter, values-lighter}
use Rattle.search_theory.proofs.DemandLaws.{met-gamma, held-allowed}
use Rattle.search_theory.proofs.HomeRanks.{is_within, allowed-within}
use Rattle.search_theory.specs.HomesTold.{IsHomeLabel, TellsHomes}

marks-are : (s : Store) (σ : Solution) → Solves s σ → (ks : List ℕ) → IsTrue (list_all (has_sort_at s MarkSort) ks) → marks_at σ ks ≡ Some (label_by σ ks)
marks-are s σ h ks a = marks-there σ ks (all-weaken (has_sort_at s MarkSort) (λ r. has_sort MarkSort (σ r)) (solved-sorted s σ h MarkSort) ks a)

home-is : (s : Store) (σ : Solution) → Solves s σ → (v : ℕ) (gs : List GammaCell) (ks : List ℕ) → IsHomeLabel s v gs ks → IsHome s σ v gs (label_by σ ks)
home-is s σ h v [] ks e = ap (label_by σ) e
home-is s σ h v (g ∷ gs) ks (inl (held, flat)) = inl (held, flat.same σ h ∙ marks-are s σ h ks flat.sorted)
home-is s σ h v (g ∷ gs) ks (inr (not_held, more)) = inr (not_held, home-is s σ h v gs ks more)

pub homes-by_labels : (s : Store) (gammas : List GammaCell) (home : ℕ → List ℕ) → TellsHomes s gammas home → AreHomes s gammas home
homes-by_labels s gammas home tells v e σ h = home-is s σ h v gammas (home v) (tells v e)

-- a mark of the home stands in the label of a gamma term that holds the variable
home-gamma : (s : Store) (v : ℕ) (gs : List GammaCell) (ks : List ℕ) → IsHomeLabel s v gs ks → (k : ℕ) → IsPart k ks → (j : ℕ) × (g : GammaCell) × (slice_get gs j ≡ Some g) × Holds s v g.term × IsFlat s g.label ks
home-gamma s v [] ks e k p = let z : slice_get [] p.0 ≡ Some k = sym (ap (λ xs. slice_get xs p.0) e) ∙ p.1 in cc z
home-gamma s v (g ∷ gs) ks (inl (held, flat)) k p = (0, g, refl, held, flat)
home-gamma s v (g ∷ gs) ks (inr (not_held, more)) k p = let (j, x, at, held, flat) = home-gamma s v gs ks more k p in (suc j, x, at, held, flat)

-- ---- ranks from a solution that meets the demand

abbrev pub flag : CellValue → ℕ
flag (a_term t) = 1
flag (a_mark m) = 0
flag (a_string w) = 0

abbrev pub level : Solution → ℕ → ℕ
level σ r = weight (σ r) + weight (σ r) + flag (σ r)

flag-small : (v : CellValue) → flag v ≤ 1
flag-small (a_term t) = omega arith
flag-small (a_mark m) = omega arith
flag-small (a_string w) = omega arith

mark-flag : (v : CellValue) → IsTrue (has_sort MarkSort v) → flag v ≡ 0
mark-flag (a_mark m) h = refl
mark-flag (a_term t) h = absurd (false≢true h)
mark-flag (a_string w) h = absurd (false≢true h)

part-level : (s : Store) (σ : Solution) → IsTrue (is_store s) → Solves s σ → (r k : ℕ) (c : Cell) → slice_get s.cells r ≡ Some c → IsPart k (parts_of c) → level σ k ≤ level σ r
part-level s σ h t r k (variable sort None) e p = let z = p.1 in cc z
part-level s σ h t r k (variable sort (Some j)) e (zero, q) = let same : j ≡ k = cc q in let a : level σ r ≡ level σ k = ap (λ v. weight v + weight v + flag v) ((t r (variable sort (Some j)) e).1 ∙ ap σ same) in omega (arith, a)
part-level s σ h t r k (variable sort (Some j)) e (suc i, q) = cc q
part-level s σ h t r k (fun_cell f rs) e p =
    let l = part-lighter s σ t r k (fun_cell f rs) e p in
    let a : flag (σ r) ≡ 1 = ap flag (t r (fun_cell f rs) e).2 in
    let b = flag-small (σ k) in
    omega (arith, l, a, b)
part-level s σ h t r k (eigen_cell x rs) e p =
    let l = part-lighter s σ t r k (eigen_cell x rs) e p in
    let a : flag (σ r) ≡ 1 = ap flag (t r (eigen_cell x rs) e).2 in
    let b = flag-small (σ k) in
    omega (arith, l, a, b)
part-level s σ h t r k (new_cell x rs) e p =
    let q = t r (new_cell x rs) e in
    let l = values-lighter σ rs q.0 p.0 k q.1 p.1 in
    let a : weight (σ r) ≡ suc (values_size q.0) = ap weight q.2 in
    let b = flag-small (σ k) in
    omega (arith, l, a, b)
part-level s σ h t r k (string_cell rs) e p =
    let l = part-lighter s σ t r k (string_cell rs) e p in
    let a : flag (σ k) ≡ 0 = mark-flag (σ k) (solved-sorted s σ t MarkSort k (all-at (has_sort_at s MarkSort) rs p.0 k (cell-fits s h r (string_cell rs) e) p.1)) in
    omega (arith, l, a)

-- the marks of a home are no larger than the variable's value
label-lighter : (n : ℕ) (σ : Solution) (ks : List ℕ) (w : List GroundMark) → marks_at σ ks ≡ Some w → IsTrue (is_within n w) → (i k : ℕ) → slice_get ks i ≡ Some k → weight (σ k) ≤ n
label-lighter n σ [] w e h i k p = cc p
label-lighter n σ (r ∷ rs) w e h zero k p =
    let q = mark-parts σ r rs w e in
    let both = and_parts (nat_le (mark_size q.first) n) (is_within n q.rest) (subst (λ x. IsTrue (is_within n x)) q.all_of_them h) in
    let same : r ≡ k = cc p in
    let a : weight (σ k) ≡ mark_size q.first = ap weight (sym (ap σ same) ∙ q.is_first) in
    let b = leb-true (mark_size q.first) n both.0 in
    omega (arith, a, b)
label-lighter n σ (r ∷ rs) w e h (suc i) k p =
    let q = mark-parts σ r rs w e in
    let both = and_parts (nat_le (mark_size q.first) n) (is_within n q.rest) (subst (λ x. IsTrue (is_within n x)) q.all_of_them h) in
    label-lighter n σ rs q.rest q.are_rest both.1 i k p

home-level : (P : Problem) (s : Store) (y : System) (σ : Solution) → P.setting.domains ≡ Varying → common_spares P ≡ false → Solves s σ → MeetsDemand (AllAllowed P) y σ → (v k : ℕ) (ks : List ℕ) → IsHomeLabel s v y.gammas ks → IsPart k ks → level σ k < level σ v
home-level P s y σ d c h met v k ks tells p =
    let (j, g, at, held, flat) = home-gamma s v y.gammas ks tells k p in
    let (w, label, allowed) = met-gamma P y σ met j g at in
    let a = held-allowed P w s σ h v g.term held allowed in
    let small = allowed-within P w a.0 d c a.2 in
    let light = label-lighter (g_term_size a.0) σ ks w (sym (flat.same σ h) ∙ label) small p.0 k p.1 in
    let value : weight (σ v) ≡ g_term_size a.0 = ap weight a.1 in
    let one : flag (σ v) ≡ 1 = ap flag a.1 in
    let none : flag (σ k) ≡ 0 = mark-flag (σ k) (solved-sorted s σ h MarkSort k (all-at (has_sort_at s MarkSort) ks p.0 k flat.sorted p.1)) in
    omega (arith, light, value, one, none)

-- the level first, then the rank
abbrev pub met_rank_at : Solution → (ℕ → ℕ) → ℕ → ℕ → Option Cell → ℕ
met_rank_at σ rank bound r None = 0
met_rank_at σ rank bound r (Some c) = level σ r * bound + rank r

abbrev pub met_rank : Store → Solution → (ℕ → ℕ) → ℕ → ℕ → ℕ
met_rank s σ rank bound r = met_rank_at σ rank bound r (slice_get s.cells r)

lower-level : (a b m n bound : ℕ) → a < b → m < bound → a * bound + m < b * bound + n
lower-level a b m n bound l k =
    let e : (a + 1) * bound ≤ b * bound = mul-le (a + 1) bound b bound (omega (arith, l)) (omega arith) in
    let f : (a + 1) * bound ≡ a * bound + bound = next a bound in
    omega (arith, e, f, k)
  where
    next : (x y : ℕ) → (x + 1) * y ≡ x * y + y
    next x y = add-mul x 1 y ∙ (let z = one-mul y in omega (arith, z))

-- a bound of the first n numbers
abbrev pub above : (ℕ → ℕ) → ℕ → ℕ
above f zero = 1
above f (suc n) = f n + above f n

below-above : (f : ℕ → ℕ) (n r : ℕ) → r < n → f r < above f n
below-above f zero r l = absurd (omega (arith, l))
below-above f (suc n) r l = elim (cases_lt r n) [
  | inl less ↦ (let a = below-above f n r less in omega (arith, a))
  | inr more ↦ (let a = above-one f n in let e : r ≡ n = omega (arith, l, more) in let b : f r ≡ f n = ap f e in omega (arith, a, b))
]
  where
    above-one : (g : ℕ → ℕ) (m : ℕ) → 1 ≤ above g m
    above-one g zero = omega arith
    above-one g (suc m) = let a = above-one g m in omega (arith, a)

-- the number of cells bounds where ranks are not 0
bounded-rank : (s : Store) (σ : Solution) (rank : ℕ → ℕ) (bound r : ℕ) → met_rank s σ rank bound r < above (met_rank s σ rank bound) (length s.cells)
bounded-rank s σ rank bound r = by (slice_get s.cells r) refl
  where
    f : ℕ → ℕ
    f = met_rank s σ rank bound

    above-one : (g : ℕ → ℕ) (m : ℕ) → 1 ≤ above g m
    above-one g zero = omega arith
    above-one g (suc m) = let a = above-one g m in omega (arith, a)

    by : (o : Option Cell) → slice_get s.cells r ≡ o → met_rank s σ rank bound r < above (met_rank s σ rank bound) (length s.cells)
    by None e = let z : met_rank s σ rank bound r ≡ 0 = ap (met_rank_at σ rank bound r) e in let a = above-one (met_rank s σ rank bound) (length s.cells) in omega (arith, z, a)
    by (Some c) e = below-above (met_rank s σ rank bound) (length s.cells) r (slice_get_within s.cells r c e)

-- ---- the laws

-- where a ground solution meets the demand, each cell is above those that it needs, homes included
pub ranked-by_met : (P : Problem) (s : Store) (rank : ℕ → ℕ) (bound : ℕ) (y : System) (σ : Solution) (home : ℕ → List ℕ) → IsTrue (is_store s) → IsRanked s rank bound → P.setting.domains ≡ Varying → common_spares P ≡ false → TellsHomes s y.gammas home → Solves s σ → MeetsDemand (AllAllowed P) y σ → IsRankedBy (homes home) s (met_rank s σ rank bound) (above (met_rank s σ rank bound) (length s.cells))
ranked-by_met P s rank bound y σ home h ranked d c tells t met = record { falls = λ r k x e p. falls r k x e p; below = bounded-rank s σ rank bound }
  where
    there : (r : ℕ) (x : Cell) → slice_get s.cells r ≡ Some x → met_rank s σ rank bound r ≡ level σ r * bound + rank r
    there r x e = ap (met_rank_at σ rank bound r) e

    -- a part, or what a variable is bound to
    by-part : (r k : ℕ) (x z : Cell) → slice_get s.cells r ≡ Some x → slice_get s.cells k ≡ Some z → IsPart k (parts_of x) → met_rank s σ rank bound k < met_rank s σ rank bound r
    by-part r k x z e f p =
        let l = part-level s σ h t r k x e p in
        let m : level σ k * bound ≤ level σ r * bound = mul-le (level σ k) bound (level σ r) bound l (omega arith) in
        let fall = ranked.falls r k x e p in
        let a = there r x e in
        let b = there k z f in
        omega (arith, m, fall, a, b)

    part : (r k : ℕ) (x : Cell) → slice_get s.cells r ≡ Some x → IsPart k (parts_of x) → met_rank s σ rank bound k < met_rank s σ rank bound r
    part r k x e p = let z = part-cell s h r k x e p in by-part r k x z.0 e z.1 p

    by-home : (v k : ℕ) → slice_get s.cells v ≡ Some (variable TermSort None) → IsPart k (home v) → met_rank s σ rank bound k < met_rank s σ rank bound v
    by-home v k e p =
        let l = home-level P s y σ d c t met v k (home v) (tells v e) p in
        let (j, g, at, held, flat) = home-gamma s v y.gammas (home v) (tells v e) k p in
        let z = cell-sorted s MarkSort k (all-at (has_sort_at s MarkSort) (home v) p.0 k flat.sorted p.1) in
        let m = lower-level (level σ k) (level σ v) (rank k) (rank v) bound l (ranked.below k) in
        let a = there v (variable TermSort None) e in
        let b = there k z.0 z.1 in
        omega (arith, m, a, b)

    falls : (r k : ℕ) (x : Cell) → slice_get s.cells r ≡ Some x → IsPart k (needed (homes home) r x) → met_rank s σ rank bound k < met_rank s σ rank bound r
    falls r k (variable TermSort None) e p = by-home r k e p
    falls r k (variable MarkSort None) e p = let z = p.1 in cc z
    falls r k (variable StringSort None) e p = let z = p.1 in cc z
    falls r k (variable sort (Some j)) e p = part r k (variable sort (Some j)) e p
    falls r k (fun_cell f rs) e p = part r k (fun_cell f rs) e p
    falls r k (eigen_cell f rs) e p = part r k (eigen_cell f rs) e p
    falls r k (new_cell f rs) e p = part r k (new_cell f rs) e p
    falls r k (string_cell rs) e p = part r k (string_cell rs) e p

-- ---- where a cell needs itself

needs-lower : (R : SpareRule) (s : Store) (rank : ℕ → ℕ) (bound : ℕ) → IsRankedBy R s rank bound → (k r : ℕ) → Needs R s k r → rank k < rank r
needs-lower R s rank bound h k r (at_once {c = c} e p) = h.falls r k c e p
needs-lower R s rank bound h k r (by_way {j = j} {c = c} e p more) = let a = h.falls r j c e p in let b = needs-lower R s rank bound h k j more in omega (arith, a, b)

-- then no ground solution meets the demand: so a demand may give any equation, and the lengths have no solution
pub never-met : (P : Problem) (s : Store) (rank : ℕ → ℕ) (bound : ℕ) (y : System) (home : ℕ → List ℕ) → IsTrue (is_store s) → IsRanked s rank bound → P.setting.domains ≡ Varying → common_spares P ≡ false → TellsHomes s y.gammas home → (r : ℕ) → Needs (homes home) s r r → (σ : Solution) → Solves s σ → ¬ MeetsDemand (AllAllowed P) y σ
never-met P s rank bound y home h ranked d c tells r cycle σ t met = let l = needs-lower (homes home) s (met_rank s σ rank bound) (above (met_rank s σ rank bound) (length s.cells)) (ranked-by_met P s rank bound y σ home h ranked d c tells t met) r r cycle in omega (arith, l)

-- the marks of homes are cells
pub homes-cells : (s : Store) (gammas : List GammaCell) (home : ℕ → List ℕ) → IsTrue (is_store s) → TellsHomes s gammas home → (r k : ℕ) (c : Cell) → slice_get s.cells r ≡ Some c → IsPart k (needed (homes home) r c) → (d : Cell) × (slice_get s.cells k ≡ Some d)
homes-cells s gammas home h tells r k (variable TermSort None) e p =
    let (j, g, at, held, flat) = home-gamma s r gammas (home r) (tells r e) k p in
    let z = cell-sorted s MarkSort k (all-at (has_sort_at s MarkSort) (home r) p.0 k flat.sorted p.1) in
    (z.0, z.1)
homes-cells s gammas home h tells r k (variable MarkSort None) e p = let z = p.1 in cc z
homes-cells s gammas home h tells r k (variable StringSort None) e p = let z = p.1 in cc z
homes-cells s gammas home h tells r k (variable sort (Some j)) e p = part-cell s h r k (variable sort (Some j)) e p
homes-cells s gammas home h tells r k (fun_cell f rs) e p = part-cell s h r k (fun_cell f rs) e p
homes-cells s gammas home h tells r k (eigen_cell f rs) e p = part-cell s h r k (eigen_cell f rs) e p
homes-cells s gammas home h tells r k (new_cell f rs) e p = part-cell s h r k (new_cell f rs) e p
homes-cells s gammas home h tells r k (string_cell rs) e p = part-cell s h r k (string_cell rs) e p
