-- Values that tell unbound variables apart are most general: what they make equal, each ground solution makes equal. This serves own spares
-- of both kinds and, for a search without solved prefixes, strings of one spare character each.
use Rattle.std.proofs.Common.{◌≡◌, ◌⊎◌, ℕ, zero, suc, ◌+◌, ◌<◌, List, [], ◌∷◌, false, IsTrue, refl, sym, ◌∙◌, ap, ap₂, subst, Some, None, slice_get, inl, inr, arith}
use Rattle.std.proofs.lemmas.Bool.{false≢true}
use Rattle.calculus.specs.declared.sort.Sort.{Sort}
use Rattle.calculus.specs.declared.sort.Sort.TheVariants.{TermSort, MarkSort, StringSort}
use Rattle.calculus.specs.Ground.{Marks, g_fun, g_eigen, common, own, g_new_mark, g_spare_mark}
use Rattle.store_theory.specs.Stores.{Cell, variable, fun_cell, eigen_cell, new_cell, string_cell, Store, parts_of, has_sort_at, is_store, is_bound, CellValue, a_term, a_mark, a_string, Solution, terms_at, values_at, marks_at, Solves}
use Rattle.search_theory.proofs.SpareLaws.{IsRanked, cell-sorted}
use Rattle.search_theory.specs.CellsIn.{IsPart}
use Rattle.search_theory.proofs.GeneralLaws.{Carries, terms-carried, values-carried, marks-carried, value_tag, part-cell, same-some, mark-parts}

-- a value that stands for an unbound variable with the number n
abbrev pub IsSpareValue : Sort → ℕ → CellValue → Type 0
IsSpareValue TermSort n v = (v ≡ a_term (common n)) ⊎ ((w : Marks) × (v ≡ a_term (own n w)))
IsSpareValue MarkSort n v = v ≡ a_mark (g_spare_mark n)
IsSpareValue StringSort n v = v ≡ a_string (g_spare_mark n ∷ [])

-- the cells of which In holds, with their parts, have values by which their unbound variables stand apart
pub record AreDistinct (In : ℕ → Type 0) (s : Store) (σ : Solution) (number : ℕ → ℕ) : Type 0 where
  pub solves : Solves s σ
  pub spares : (v : ℕ) (sort : Sort) → In v → slice_get s.cells v ≡ Some (variable sort None) → IsSpareValue sort (number v) (σ v)
  pub apart : (v w : ℕ) (sort : Sort) → In v → In w → slice_get s.cells v ≡ Some (variable sort None) → slice_get s.cells w ≡ Some (variable sort None) → number v ≡ number w → v ≡ w
  -- a string of one spare character is no character's spare
  pub strings : (v w : ℕ) → In v → In w → slice_get s.cells v ≡ Some (variable StringSort None) → slice_get s.cells w ≡ Some (variable MarkSort None) → ¬ (number v ≡ number w)
  pub names : (r k : ℕ) (c : Cell) → In r → slice_get s.cells r ≡ Some c → IsPart k (parts_of c) → In k

-- what values of the cells tell
abbrev tag_of : Cell → ℕ
tag_of (variable TermSort None) = 0
tag_of (variable MarkSort None) = 4
tag_of (variable StringSort None) = 5
tag_of (variable sort (Some k)) = 7
tag_of (fun_cell f rs) = 1
tag_of (eigen_cell p rs) = 2
tag_of (new_cell p rs) = 3
tag_of (string_cell rs) = 5

spare-tag : (sort : Sort) (n : ℕ) (v : CellValue) → IsSpareValue sort n v → value_tag v ≡ tag_of (variable sort None)
spare-tag TermSort n v (inl e) = ap value_tag e
spare-tag TermSort n v (inr e) = ap value_tag e.1
spare-tag MarkSort n v e = ap value_tag e
spare-tag StringSort n v e = ap value_tag e

ended-tag : (In : ℕ → Type 0) (s : Store) (σ : Solution) (number : ℕ → ℕ) → AreDistinct In s σ number → (r : ℕ) (c : Cell) → In r → slice_get s.cells r ≡ Some c → is_bound c ≡ false → value_tag (σ r) ≡ tag_of c
ended-tag In s σ number h r (variable sort None) w e n = spare-tag sort (number r) (σ r) (h.spares r sort w e)
ended-tag In s σ number h r (variable sort (Some k)) w e n = absurd (false≢true (sym n))
ended-tag In s σ number h r (fun_cell f rs) w e n = ap value_tag (h.solves r (fun_cell f rs) e).2
ended-tag In s σ number h r (eigen_cell p rs) w e n = ap value_tag (h.solves r (eigen_cell p rs) e).2
ended-tag In s σ number h r (new_cell p rs) w e n = ap value_tag (h.solves r (new_cell p rs) e).2
ended-tag In s σ number h r (string_cell rs) w e n = ap value_tag (h.solves r (string_cell rs) e).2

term-number : (m n : ℕ) (v : CellValue) → IsSpareValue TermSort m v → IsSpareValue TermSort n v → m ≡ n
term-number m n v (inl e) (inl f) = let z : a_term (common m) ≡ a_term (common n) = sym e ∙ f in cc z
term-number m n v (inl e) (inr f) = let z : a_term (common m) ≡ a_term (own n f.0) = sym e ∙ f.1 in cc z
term-number m n v (inr e) (inl f) = let z : a_term (own m e.0) ≡ a_term (common n) = sym e.1 ∙ f in cc z
term-number m n v (inr e) (inr f) = let z : a_term (own m e.0) ≡ a_term (own n f.0) = sym e.1 ∙ f.1 in cc z

spare-number : (sort : Sort) (m n : ℕ) (v : CellValue) → IsSpareValue sort m v → IsSpareValue sort n v → m ≡ n
spare-number TermSort m n v e f = term-number m n v e f
spare-number MarkSort m n v e f = let z : a_mark (g_spare_mark m) ≡ a_mark (g_spare_mark n) = sym e ∙ f in cc z
spare-number StringSort m n v e f = let z : a_string (g_spare_mark m ∷ []) ≡ a_string (g_spare_mark n ∷ []) = sym e ∙ f in cc z

-- ---- a mark with the value of a spare ends at a variable with its number

spare-mark-ends : (In : ℕ → Type 0) (s : Store) (rank : ℕ → ℕ) (bound : ℕ) (σ : Solution) (number : ℕ → ℕ) → IsTrue (is_store s) → IsRanked s rank bound → AreDistinct In s σ number → (n r k : ℕ) (c : Cell) → rank r < n → In r → slice_get s.cells r ≡ Some c → σ r ≡ a_mark (g_spare_mark k) → (w : ℕ) × In w × (slice_get s.cells w ≡ Some (variable MarkSort None)) × (number w ≡ k)
spare-mark-ends In s rank bound σ number h ranked d zero r k c l i e q = absurd (omega (arith, l))
spare-mark-ends In s rank bound σ number h ranked d (suc n) r k c l i e q = by c e (λ j x m u v w. spare-mark-ends In s rank bound σ number h ranked d n j k x m u v w)
  where
    by : (x : Cell) → slice_get s.cells r ≡ Some x → ((j : ℕ) (y : Cell) → rank j < n → In j → slice_get s.cells j ≡ Some y → σ j ≡ a_mark (g_spare_mark k) → (w : ℕ) × In w × (slice_get s.cells w ≡ Some (variable MarkSort None)) × (number w ≡ k)) → (w : ℕ) × In w × (slice_get s.cells w ≡ Some (variable MarkSort None)) × (number w ≡ k)
    by (variable TermSort None) f ih = let z = sym (spare-tag TermSort (number r) (σ r) (d.spares r TermSort i f)) ∙ ap value_tag q in absurd (omega (arith, z))
    by (variable MarkSort None) f ih = (r, i, f, spare-number MarkSort (number r) k (σ r) (d.spares r MarkSort i f) q)
    by (variable StringSort None) f ih = let z = sym (spare-tag StringSort (number r) (σ r) (d.spares r StringSort i f)) ∙ ap value_tag q in absurd (omega (arith, z))
    by (variable sort (Some j)) f ih =
        let p = part-cell s h r j (variable sort (Some j)) f (0, refl) in
        let fall = ranked.falls r j (variable sort (Some j)) f (0, refl) in
        ih j p.0 (omega (arith, l, fall)) (d.names r j (variable sort (Some j)) i f (0, refl)) p.1 (sym (d.solves r (variable sort (Some j)) f).1 ∙ q)
    by (fun_cell g rs) f ih = let z = sym (ap value_tag (d.solves r (fun_cell g rs) f).2) ∙ ap value_tag q in absurd (omega (arith, z))
    by (eigen_cell p rs) f ih = let z = sym (ap value_tag (d.solves r (eigen_cell p rs) f).2) ∙ ap value_tag q in absurd (omega (arith, z))
    by (new_cell p rs) f ih = let z = sym (ap value_tag (d.solves r (new_cell p rs) f).2) ∙ ap value_tag q in absurd (omega (arith, z))
    by (string_cell rs) f ih = let z = sym (ap value_tag (d.solves r (string_cell rs) f).2) ∙ ap value_tag q in absurd (omega (arith, z))

-- no mark is the character of an unbound string
pub not-string-mark : (In : ℕ → Type 0) (s : Store) (rank : ℕ → ℕ) (bound : ℕ) (σ : Solution) (number : ℕ → ℕ) → IsTrue (is_store s) → IsRanked s rank bound → AreDistinct In s σ number → (v r : ℕ) (c : Cell) → In v → In r → slice_get s.cells v ≡ Some (variable StringSort None) → slice_get s.cells r ≡ Some c → ¬ (σ r ≡ a_mark (g_spare_mark (number v)))
not-string-mark In s rank bound σ number h ranked d v r c iv ir ev er q =
    let t = spare-mark-ends In s rank bound σ number h ranked d (suc (rank r)) r (number v) c (omega arith) ir er q in
    d.strings v t.0 iv t.1 ev t.2 (sym t.3)

-- a built string is not the value of an unbound one
built-not-open : (In : ℕ → Type 0) (s : Store) (rank : ℕ → ℕ) (bound : ℕ) (σ : Solution) (number : ℕ → ℕ) → IsTrue (is_store s) → IsRanked s rank bound → AreDistinct In s σ number → (v r : ℕ) (rs : List ℕ) → In v → In r → slice_get s.cells v ≡ Some (variable StringSort None) → slice_get s.cells r ≡ Some (string_cell rs) → ¬ (σ v ≡ σ r)
built-not-open In s rank bound σ number h ranked d v r [] iv ir ev er q =
    let (w, at_r, is_r) = d.solves r (string_cell []) er in
    let e : [] ≡ w = cc at_r in
    let z : a_string (g_spare_mark (number v) ∷ []) ≡ a_string [] = sym (d.spares v StringSort iv ev) ∙ q ∙ is_r ∙ ap a_string (sym e) in
    cc z
built-not-open In s rank bound σ number h ranked d v r (k ∷ rs) iv ir ev er q =
    let (w, at_r, is_r) = d.solves r (string_cell (k ∷ rs)) er in
    let p = mark-parts σ k rs w at_r in
    let z : a_string (g_spare_mark (number v) ∷ []) ≡ a_string (p.first ∷ p.rest) = sym (d.spares v StringSort iv ev) ∙ q ∙ is_r ∙ ap a_string p.all_of_them in
    let first : g_spare_mark (number v) ≡ p.first = cc z in
    let c = part-cell s h r k (string_cell (k ∷ rs)) er (0, refl) in
    not-string-mark In s rank bound σ number h ranked d v k c.0 iv (d.names r k (string_cell (k ∷ rs)) ir er (0, refl)) ev c.1 (p.is_first ∙ ap a_mark (sym first))

-- ---- the law

ended-same : (In : ℕ → Type 0) (s : Store) (rank : ℕ → ℕ) (bound : ℕ) (σ : Solution) (number : ℕ → ℕ) → IsTrue (is_store s) → IsRanked s rank bound → AreDistinct In s σ number → (τ : Solution) → Solves s τ → (r k : ℕ) (c d : Cell) → In r → In k → slice_get s.cells r ≡ Some c → slice_get s.cells k ≡ Some d → tag_of c ≡ tag_of d → is_bound c ≡ false → is_bound d ≡ false → σ r ≡ σ k → Carries σ τ (parts_of c) (parts_of d) → τ r ≡ τ k
ended-same In s rank bound σ number st ranked h τ t r k (variable TermSort None) (variable TermSort None) ir ik e f same n m q ih = ap τ (h.apart r k TermSort ir ik e f (spare-number TermSort (number r) (number k) (σ r) (h.spares r TermSort ir e) (subst (IsSpareValue TermSort (number k)) (sym q) (h.spares k TermSort ik f))))
ended-same In s rank bound σ number st ranked h τ t r k (variable MarkSort None) (variable MarkSort None) ir ik e f same n m q ih = ap τ (h.apart r k MarkSort ir ik e f (spare-number MarkSort (number r) (number k) (σ r) (h.spares r MarkSort ir e) (q ∙ h.spares k MarkSort ik f)))
ended-same In s rank bound σ number st ranked h τ t r k (variable StringSort None) (variable StringSort None) ir ik e f same n m q ih = ap τ (h.apart r k StringSort ir ik e f (spare-number StringSort (number r) (number k) (σ r) (h.spares r StringSort ir e) (q ∙ h.spares k StringSort ik f)))
ended-same In s rank bound σ number st ranked h τ t r k (variable StringSort None) (string_cell ks) ir ik e f same n m q ih = absurd (built-not-open In s rank bound σ number st ranked h r k ks ir ik e f q)
ended-same In s rank bound σ number st ranked h τ t r k (string_cell rs) (variable StringSort None) ir ik e f same n m q ih = absurd (built-not-open In s rank bound σ number st ranked h k r rs ik ir f e (sym q))
ended-same In s rank bound σ number st ranked h τ t r k (variable sort (Some j)) d ir ik e f same n m q ih = absurd (false≢true (sym n))
ended-same In s rank bound σ number st ranked h τ t r k (fun_cell x rs) (fun_cell y ks) ir ik e f same n m q ih =
    let (ts, at_r, is_r) = h.solves r (fun_cell x rs) e in
    let (us, at_k, is_k) = h.solves k (fun_cell y ks) f in
    let z : a_term (g_fun x ts) ≡ a_term (g_fun y us) = sym is_r ∙ q ∙ is_k in
    let head : x ≡ y = cc z in
    let args : ts ≡ us = cc z in
    let (ts', at_r', is_r') = t r (fun_cell x rs) e in
    let (us', at_k', is_k') = t k (fun_cell y ks) f in
    let carried = terms-carried σ τ rs ks ts at_r (at_k ∙ ap Some (sym args)) ih in
    is_r' ∙ ap₂ (λ g xs. a_term (g_fun g xs)) head (same-some (terms_at τ rs) (terms_at τ ks) ts' us' at_r' at_k' carried) ∙ sym is_k'
ended-same In s rank bound σ number st ranked h τ t r k (eigen_cell x rs) (eigen_cell y ks) ir ik e f same n m q ih =
    let (ts, at_r, is_r) = h.solves r (eigen_cell x rs) e in
    let (us, at_k, is_k) = h.solves k (eigen_cell y ks) f in
    let z : a_term (g_eigen x ts) ≡ a_term (g_eigen y us) = sym is_r ∙ q ∙ is_k in
    let head : x ≡ y = cc z in
    let args : ts ≡ us = cc z in
    let (ts', at_r', is_r') = t r (eigen_cell x rs) e in
    let (us', at_k', is_k') = t k (eigen_cell y ks) f in
    let carried = values-carried σ τ rs ks ts at_r (at_k ∙ ap Some (sym args)) ih in
    is_r' ∙ ap₂ (λ g xs. a_term (g_eigen g xs)) head (same-some (values_at τ rs) (values_at τ ks) ts' us' at_r' at_k' carried) ∙ sym is_k'
ended-same In s rank bound σ number st ranked h τ t r k (new_cell x rs) (new_cell y ks) ir ik e f same n m q ih =
    let (ts, at_r, is_r) = h.solves r (new_cell x rs) e in
    let (us, at_k, is_k) = h.solves k (new_cell y ks) f in
    let z : a_mark (g_new_mark x ts) ≡ a_mark (g_new_mark y us) = sym is_r ∙ q ∙ is_k in
    let head : x ≡ y = cc z in
    let args : ts ≡ us = cc z in
    let (ts', at_r', is_r') = t r (new_cell x rs) e in
    let (us', at_k', is_k') = t k (new_cell y ks) f in
    let carried = values-carried σ τ rs ks ts at_r (at_k ∙ ap Some (sym args)) ih in
    is_r' ∙ ap₂ (λ g xs. a_mark (g_new_mark g xs)) head (same-some (values_at τ rs) (values_at τ ks) ts' us' at_r' at_k' carried) ∙ sym is_k'
ended-same In s rank bound σ number st ranked h τ t r k (string_cell rs) (string_cell ks) ir ik e f same n m q ih =
    let (ts, at_r, is_r) = h.solves r (string_cell rs) e in
    let (us, at_k, is_k) = h.solves k (string_cell ks) f in
    let z : a_string ts ≡ a_string us = sym is_r ∙ q ∙ is_k in
    let args : ts ≡ us = cc z in
    let (ts', at_r', is_r') = t r (string_cell rs) e in
    let (us', at_k', is_k') = t k (string_cell ks) f in
    let carried = marks-carried σ τ rs ks ts at_r (at_k ∙ ap Some (sym args)) ih in
    is_r' ∙ ap a_string (same-some (marks_at τ rs) (marks_at τ ks) ts' us' at_r' at_k' carried) ∙ sym is_k'
ended-same In s rank bound σ number st ranked h τ t r k c (variable sort (Some j)) ir ik e f same n m q ih = absurd (false≢true (sym m))
ended-same In s rank bound σ number st ranked h τ t r k c (variable TermSort None) ir ik e f same n m q ih = absurd (omega (arith, same))
ended-same In s rank bound σ number st ranked h τ t r k c (variable MarkSort None) ir ik e f same n m q ih = absurd (omega (arith, same))
ended-same In s rank bound σ number st ranked h τ t r k c (variable StringSort None) ir ik e f same n m q ih = absurd (omega (arith, same))
ended-same In s rank bound σ number st ranked h τ t r k (variable TermSort None) d ir ik e f same n m q ih = absurd (omega (arith, same))
ended-same In s rank bound σ number st ranked h τ t r k (variable MarkSort None) d ir ik e f same n m q ih = absurd (omega (arith, same))
ended-same In s rank bound σ number st ranked h τ t r k (variable StringSort None) d ir ik e f same n m q ih = absurd (omega (arith, same))
ended-same In s rank bound σ number st ranked h τ t r k c d ir ik e f same n m q ih = absurd (omega (arith, same))

-- what such values make equal, each solution makes equal
pub distinct-general : (In : ℕ → Type 0) (s : Store) (rank : ℕ → ℕ) (bound : ℕ) (σ : Solution) (number : ℕ → ℕ) → IsTrue (is_store s) → IsRanked s rank bound → AreDistinct In s σ number → (τ : Solution) → Solves s τ → (n r k : ℕ) (c d : Cell) → rank r + rank k < n → In r → In k → slice_get s.cells r ≡ Some c → slice_get s.cells k ≡ Some d → σ r ≡ σ k → τ r ≡ τ k
distinct-general In s rank bound σ number h ranked spares τ t zero r k c d l br bk e f q = absurd (omega (arith, l))
distinct-general In s rank bound σ number h ranked spares τ t (suc n) r k c d l br bk e f q = by c d e f (λ i j x y m bi bj a z w. distinct-general In s rank bound σ number h ranked spares τ t n i j x y m bi bj a z w)
  where
    by : (x y : Cell) → slice_get s.cells r ≡ Some x → slice_get s.cells k ≡ Some y → ((i j : ℕ) (u v : Cell) → rank i + rank j < n → In i → In j → slice_get s.cells i ≡ Some u → slice_get s.cells j ≡ Some v → σ i ≡ σ j → τ i ≡ τ j) → τ r ≡ τ k
    by (variable sort (Some i)) y a z ih =
        let p = part-cell s h r i (variable sort (Some i)) a (0, refl) in
        let fall = ranked.falls r i (variable sort (Some i)) a (0, refl) in
        (t r (variable sort (Some i)) a).1 ∙ ih i k p.0 y (omega (arith, l, fall)) (spares.names r i (variable sort (Some i)) br a (0, refl)) bk p.1 z (sym (spares.solves r (variable sort (Some i)) a).1 ∙ q)
    by x (variable sort (Some j)) a z ih =
        let p = part-cell s h k j (variable sort (Some j)) z (0, refl) in
        let fall = ranked.falls k j (variable sort (Some j)) z (0, refl) in
        ih r j x p.0 (omega (arith, l, fall)) br (spares.names k j (variable sort (Some j)) bk z (0, refl)) a p.1 (q ∙ (spares.solves k (variable sort (Some j)) z).1) ∙ sym (t k (variable sort (Some j)) z).1
    by x y a z ih = ended x y a z refl refl ih
      where
        ended : (u v : Cell) → slice_get s.cells r ≡ Some u → slice_get s.cells k ≡ Some v → is_bound u ≡ false → is_bound v ≡ false → ((i j : ℕ) (u' v' : Cell) → rank i + rank j < n → In i → In j → slice_get s.cells i ≡ Some u' → slice_get s.cells j ≡ Some v' → σ i ≡ σ j → τ i ≡ τ j) → τ r ≡ τ k
        ended u v a' z' bu bv ih' =
            let same = sym (ended-tag In s σ number spares r u br a' bu) ∙ ap value_tag q ∙ ended-tag In s σ number spares k v bk z' bv in
            ended-same In s rank bound σ number h ranked spares τ t r k u v br bk a' z' same bu bv q (λ i j pi pj eq.
            let ci = part-cell s h r i u a' pi in
            let cj = part-cell s h k j v z' pj in
            ih' i j ci.0 cj.0 (let fi = ranked.falls r i u a' pi in let fj = ranked.falls k j v z' pj in omega (arith, l, fi, fj)) (spares.names r i u br a' pi) (spares.names k j v bk z' pj) ci.1 cj.1 eq)

-- the same, for two cells that are there
pub distinct-same : (In : ℕ → Type 0) (s : Store) (rank : ℕ → ℕ) (bound : ℕ) (σ : Solution) (number : ℕ → ℕ) → IsTrue (is_store s) → IsRanked s rank bound → AreDistinct In s σ number → (τ : Solution) → Solves s τ → (sort : Sort) (r k : ℕ) → In r → In k → IsTrue (has_sort_at s sort r) → IsTrue (has_sort_at s sort k) → σ r ≡ σ k → τ r ≡ τ k
distinct-same In s rank bound σ number h ranked d τ t sort r k ir ik sr sk q =
    let c = cell-sorted s sort r sr in
    let e = cell-sorted s sort k sk in
    distinct-general In s rank bound σ number h ranked d τ t (suc (rank r + rank k)) r k c.0 e.0 (omega arith) ir ik c.1 e.1 q
