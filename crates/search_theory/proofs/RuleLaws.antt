-- Ground solutions that give each unbound variable a value by a rule, which may look at the values of other cells.
use Rattle.std.proofs.Common.{◌≡◌, ℕ, zero, suc, ◌<◌, List, [], ◌∷◌, false, ◌||◌, IsTrue, refl, sym, ◌∙◌, ap, subst, Option, Some, None, slice_get, inl, arith}
use Rattle.plain_laws.proofs.Every.{all-weaken}
use Rattle.calculus.specs.declared.sort.Sort.{Sort}
use Rattle.calculus.specs.declared.sort.Sort.TheVariants.{TermSort, MarkSort, StringSort}
use Rattle.calculus.specs.Ground.{common, g_fun, g_eigen, g_new_mark, g_spare_mark, values_tree}
use Rattle.store_theory.specs.Stores.{Cell, variable, fun_cell, eigen_cell, new_cell, string_cell, Store, parts_of, sort_of, has_sort_at, has_value_sort_at, parts_fit, is_store, CellValue, a_term, a_mark, a_string, has_sort, Solution, CellHolds, Solves, GammaCell, IsHome, IsOwnSpare, AreOwnSpares}
use Rattle.search_theory.specs.States.{terms_by, label_by, values_by}
use Rattle.search_theory.proofs.SpareLaws.{IsRanked, spare_at, cell-alike, cell-sorted, cell-fits, sort-same, spare-sort, terms-there, values-there, marks-there, or-both}
use Rattle.search_theory.specs.CellsIn.{IsPart}
use Rattle.search_theory.proofs.DistinctLaws.{IsSpareValue, AreDistinct}
use Rattle.search_theory.specs.SpareRules.{SpareRule, home_spare, homes, needed}

abbrev pub rule_cell : SpareRule → Solution → ℕ → Cell → CellValue
rule_cell R σ r (variable sort None) = R.spare σ r sort
rule_cell R σ r (variable sort (Some k)) = σ k
rule_cell R σ r (fun_cell f rs) = a_term (g_fun f (terms_by σ rs))
rule_cell R σ r (eigen_cell p rs) = a_term (g_eigen p (values_tree (values_by σ rs)))
rule_cell R σ r (new_cell p rs) = a_mark (g_new_mark p (values_tree (values_by σ rs)))
rule_cell R σ r (string_cell rs) = a_string (label_by σ rs)

abbrev pub rule_at : SpareRule → Solution → ℕ → Option Cell → CellValue
rule_at R σ r None = a_term (common 0)
rule_at R σ r (Some c) = rule_cell R σ r c

-- the value of the cell r, followed through n cells
abbrev pub rule_value : SpareRule → Store → ℕ → Solution
rule_value R s zero r = spare_at r (slice_get s.cells r)
rule_value R s (suc n) r = rule_at R (rule_value R s n) r (slice_get s.cells r)

-- each cell is above those that it needs
pub record IsRankedBy (R : SpareRule) (s : Store) (rank : ℕ → ℕ) (bound : ℕ) : Type 0 where
  pub falls : (r k : ℕ) (c : Cell) → slice_get s.cells r ≡ Some c → IsPart k (needed R r c) → rank k < rank r
  pub below : (r : ℕ) → rank r < bound

rule-alike : (R : SpareRule) (σ τ : Solution) (r : ℕ) (c : Cell) → ((k : ℕ) → IsPart k (needed R r c) → σ k ≡ τ k) → rule_cell R σ r c ≡ rule_cell R τ r c
rule-alike R σ τ r (variable sort None) h = R.alike σ τ r sort h
rule-alike R σ τ r (variable sort (Some k)) h = h k (0, refl)
rule-alike R σ τ r (fun_cell f rs) h = cell-alike σ τ r (fun_cell f rs) h
rule-alike R σ τ r (eigen_cell p rs) h = cell-alike σ τ r (eigen_cell p rs) h
rule-alike R σ τ r (new_cell p rs) h = cell-alike σ τ r (new_cell p rs) h
rule-alike R σ τ r (string_cell rs) h = cell-alike σ τ r (string_cell rs) h

stable : (R : SpareRule) (s : Store) (rank : ℕ → ℕ) (bound : ℕ) → IsRankedBy R s rank bound → (n r : ℕ) → rank r < n → rule_value R s (suc n) r ≡ rule_value R s n r
stable R s rank bound h zero r l = absurd (omega (arith, l))
stable R s rank bound h (suc n) r l = by (slice_get s.cells r) refl (λ k m. stable R s rank bound h n k m)
  where
    by : (o : Option Cell) → slice_get s.cells r ≡ o → ((k : ℕ) → rank k < n → rule_value R s (suc n) k ≡ rule_value R s n k) → rule_at R (rule_value R s (suc n)) r o ≡ rule_at R (rule_value R s n) r o
    by None e ih = refl
    by (Some c) e ih = rule-alike R (rule_value R s (suc n)) (rule_value R s n) r c (λ k p. ih k (let f = h.falls r k c e p in omega (arith, f, l)))

rule-sort : (R : SpareRule) (s : Store) → IsTrue (is_store s) → (n r : ℕ) (c : Cell) → slice_get s.cells r ≡ Some c → IsTrue (has_sort (sort_of c) (rule_value R s n r))
rule-sort R s h zero r c e = rw e (spare-sort (sort_of c) r)
rule-sort R s h (suc n) r c e = rw e (by c (cell-fits s h r c e) (λ k d f. rule-sort R s h n k d f))
  where
    by : (d : Cell) → IsTrue (parts_fit s d) → ((k : ℕ) (b : Cell) → slice_get s.cells k ≡ Some b → IsTrue (has_sort (sort_of b) (rule_value R s n k))) → IsTrue (has_sort (sort_of d) (rule_cell R (rule_value R s n) r d))
    by (variable sort None) f ih = R.sorted (rule_value R s n) r sort
    by (variable sort (Some k)) f ih =
        let t = cell-sorted s sort k f in
        subst (λ x. IsTrue (has_sort x (rule_value R s n k))) (sym (sort-same sort (sort_of t.0) t.2)) (ih k t.0 t.1)
    by (fun_cell g rs) f ih = refl
    by (eigen_cell p rs) f ih = refl
    by (new_cell p rs) f ih = refl
    by (string_cell rs) f ih = refl

rule-sorted : (R : SpareRule) (s : Store) → IsTrue (is_store s) → (n : ℕ) (sort : Sort) (r : ℕ) → IsTrue (has_sort_at s sort r) → IsTrue (has_sort sort (rule_value R s n r))
rule-sorted R s h n sort r k =
    let t = cell-sorted s sort r k in
    subst (λ x. IsTrue (has_sort x (rule_value R s n r))) (sym (sort-same sort (sort_of t.0) t.2)) (rule-sort R s h n r t.0 t.1)

pub rule-fixed : (R : SpareRule) (s : Store) (rank : ℕ → ℕ) (bound : ℕ) → IsRankedBy R s rank bound → (r : ℕ) (c : Cell) → slice_get s.cells r ≡ Some c → rule_value R s bound r ≡ rule_cell R (rule_value R s bound) r c
rule-fixed R s rank bound h r c e = sym (stable R s rank bound h bound r (h.below r)) ∙ ap (rule_at R (rule_value R s bound) r) e

pub rule-solves : (R : SpareRule) (s : Store) (rank : ℕ → ℕ) (bound : ℕ) → IsTrue (is_store s) → IsRankedBy R s rank bound → Solves s (rule_value R s bound)
rule-solves R s rank bound h k r c e = by c (cell-fits s h r c e) (rule-fixed R s rank bound k r c e) (rule-sort R s h bound r c e)
  where
    by : (d : Cell) → IsTrue (parts_fit s d) → rule_value R s bound r ≡ rule_cell R (rule_value R s bound) r d → IsTrue (has_sort (sort_of d) (rule_value R s bound r)) → CellHolds (rule_value R s bound) r d
    by (variable sort None) f q t = t
    by (variable sort (Some j)) f q t = (t, q)
    by (fun_cell g rs) f q t = (terms_by (rule_value R s bound) rs, terms-there (rule_value R s bound) rs (all-weaken (has_sort_at s TermSort) (λ x. has_sort TermSort (rule_value R s bound x)) (rule-sorted R s h bound TermSort) rs f), q)
    by (eigen_cell p rs) f q t = (values_tree (values_by (rule_value R s bound) rs), values-there (rule_value R s bound) rs (all-weaken (has_value_sort_at s) (λ x. has_sort TermSort (rule_value R s bound x) || has_sort StringSort (rule_value R s bound x)) (λ x. or-both (has_sort_at s TermSort x) (has_sort_at s StringSort x) (has_sort TermSort (rule_value R s bound x)) (has_sort StringSort (rule_value R s bound x)) (rule-sorted R s h bound TermSort x) (rule-sorted R s h bound StringSort x)) rs f), q)
    by (new_cell p rs) f q t = (values_tree (values_by (rule_value R s bound) rs), values-there (rule_value R s bound) rs (all-weaken (has_value_sort_at s) (λ x. has_sort TermSort (rule_value R s bound x) || has_sort StringSort (rule_value R s bound x)) (λ x. or-both (has_sort_at s TermSort x) (has_sort_at s StringSort x) (has_sort TermSort (rule_value R s bound x)) (has_sort StringSort (rule_value R s bound x)) (rule-sorted R s h bound TermSort x) (rule-sorted R s h bound StringSort x)) rs f), q)
    by (string_cell rs) f q t = (label_by (rule_value R s bound) rs, marks-there (rule_value R s bound) rs (all-weaken (has_sort_at s MarkSort) (λ x. has_sort MarkSort (rule_value R s bound x)) (rule-sorted R s h bound MarkSort) rs f), q)

-- ---- each unbound string has one character of its own

abbrev pub letter_spare : Solution → ℕ → Sort → CellValue
letter_spare σ r TermSort = a_term (common r)
letter_spare σ r MarkSort = a_mark (g_spare_mark r)
letter_spare σ r StringSort = a_string (g_spare_mark r ∷ [])

pub letter-alike : (σ τ : Solution) (r : ℕ) (sort : Sort) → letter_spare σ r sort ≡ letter_spare τ r sort
letter-alike σ τ r TermSort = refl
letter-alike σ τ r MarkSort = refl
letter-alike σ τ r StringSort = refl

pub letter-sorted : (σ : Solution) (r : ℕ) (sort : Sort) → IsTrue (has_sort sort (letter_spare σ r sort))
letter-sorted σ r TermSort = refl
letter-sorted σ r MarkSort = refl
letter-sorted σ r StringSort = refl

letter-is-spare : (σ : Solution) (r : ℕ) (sort : Sort) (v : CellValue) → v ≡ letter_spare σ r sort → IsSpareValue sort r v
letter-is-spare σ r TermSort v e = inl e
letter-is-spare σ r MarkSort v e = e
letter-is-spare σ r StringSort v e = e

abbrev pub letters : SpareRule
letters = record { spare = letter_spare; needs = λ r sort. []; alike = λ σ τ r sort h. letter-alike σ τ r sort; sorted = letter-sorted }

-- ranks of a store are ranks for it
pub ranked-letters : (s : Store) (rank : ℕ → ℕ) (bound : ℕ) → IsRanked s rank bound → IsRankedBy letters s rank bound
ranked-letters s rank bound h = record { falls = λ r k c e p. h.falls r k c e (by r k c p); below = h.below }
  where
    by : (r k : ℕ) (c : Cell) → IsPart k (needed letters r c) → IsPart k (parts_of c)
    by r k (variable sort None) p = p
    by r k (variable sort (Some j)) p = p
    by r k (fun_cell f rs) p = p
    by r k (eigen_cell x rs) p = p
    by r k (new_cell x rs) p = p
    by r k (string_cell rs) p = p

pub letters-distinct : (In : ℕ → Type 0) (s : Store) (rank : ℕ → ℕ) (bound : ℕ) → IsTrue (is_store s) → IsRanked s rank bound → ((r k : ℕ) (c : Cell) → In r → slice_get s.cells r ≡ Some c → IsPart k (parts_of c) → In k) → AreDistinct In s (rule_value letters s bound) (λ r. r)
letters-distinct In s rank bound h ranked names = record {
  solves = rule-solves letters s rank bound h (ranked-letters s rank bound ranked);
  spares = λ v sort i e. letter-is-spare (rule_value letters s bound) v sort (rule_value letters s bound v) (rule-fixed letters s rank bound (ranked-letters s rank bound ranked) v (variable sort None) e);
  apart = λ v w sort i j e f q. q;
  strings = λ v w i j e f q. differ v w e f q;
  names = names;
}
  where
    differ : (v w : ℕ) → slice_get s.cells v ≡ Some (variable StringSort None) → slice_get s.cells w ≡ Some (variable MarkSort None) → ¬ (v ≡ w)
    differ v w e f q = let z : Some (variable StringSort None) ≡ Some (variable MarkSort None) = sym e ∙ ap (slice_get s.cells) q ∙ f in cc z

-- ---- each unbound term variable has a spare of its home

-- `home` tells for each unbound term variable the label of its home
abbrev pub AreHomes : Store → List GammaCell → (ℕ → List ℕ) → Type 0
AreHomes s gammas home = (v : ℕ) → slice_get s.cells v ≡ Some (variable TermSort None) → (σ : Solution) → Solves s σ → IsHome s σ v gammas (label_by σ (home v))

-- where each cell is above those that it needs, with homes, there are own spares
pub own-by_homes : (s : Store) (gammas : List GammaCell) (home : ℕ → List ℕ) (rank : ℕ → ℕ) (bound : ℕ) → IsTrue (is_store s) → IsRankedBy (homes home) s rank bound → AreHomes s gammas home → AreOwnSpares false s gammas (rule_value (homes home) s bound) (λ r. r)
own-by_homes s gammas home rank bound h ranked is_home = record {
  solves = solves;
  spares = λ v sort e. by v sort e (rule-fixed (homes home) s rank bound ranked v (variable sort None) e);
  apart = λ v w sort e f q. q;
}
  where
    solves : Solves s (rule_value (homes home) s bound)
    solves = rule-solves (homes home) s rank bound h ranked

    by : (v : ℕ) (sort : Sort) → slice_get s.cells v ≡ Some (variable sort None) → rule_value (homes home) s bound v ≡ home_spare home (rule_value (homes home) s bound) v sort → IsOwnSpare false s gammas (rule_value (homes home) s bound) sort v v
    by v TermSort e q = (label_by (rule_value (homes home) s bound) (home v), is_home v e (rule_value (homes home) s bound) solves, q)
    by v MarkSort e q = q
    by v StringSort e q = q
