-- Own spares: the ground solution of a store without cycles that gives each unbound variable a value of its own, and that it is the most
-- general one: what it makes equal, each solution makes equal.
use Rattle.std.proofs.Common.{◌≡◌, ℕ, zero, suc, ◌<◌, List, [], ◌∷◌, ◌++◌, Bool, true, false, ◌||◌, IsTrue, refl, sym, ◌∙◌, ap, ap₂, subst, Option, Some, None, option_map, slice_get, arith}
use Rattle.std.specs.List.{list_all}
use Rattle.std.specs.Option.{option_map_or}
use Rattle.std.proofs.lemmas.Bool.{false≢true, and_parts}
use Rattle.plain_laws.proofs.Every.{all-at, all-weaken}
use Rattle.calculus.specs.declared.sort.Sort.{Sort}
use Rattle.calculus.specs.declared.sort.Sort.TheVariants.{TermSort, MarkSort, StringSort}
use Rattle.calculus.specs.Ground.{g_fun, g_eigen, common, more_g_terms, g_new_mark, g_spare_mark, more_values, values_tree}
use Rattle.calculus.specs.Equality.{sort_eq}
use Rattle.store_theory.specs.Stores.{Cell, variable, fun_cell, eigen_cell, new_cell, string_cell, Store, parts_of, sort_of, has_sort_at, has_value_sort_at, parts_fit, is_store, trail_fits, CellValue, a_term, a_mark, a_string, has_sort, Solution, cons_term, terms_at, cons_value, values_at, cons_mark, marks_at, CellHolds, Solves, GammaCell, IsOwnSpare, AreOwnSpares}
use Rattle.store_theory.specs.Templates.{as_term, as_value, as_label}
use Rattle.search_theory.specs.States.{terms_by, label_by, values_by}
use Rattle.search_theory.specs.CellsIn.{IsPart}
use Rattle.search_theory.specs.SpareRules.{label-alike}

-- ---- ranks: each cell is above what it is bound to and above its parts

pub record IsRanked (s : Store) (rank : ℕ → ℕ) (bound : ℕ) : Type 0 where
  pub falls : (r k : ℕ) (c : Cell) → slice_get s.cells r ≡ Some c → IsPart k (parts_of c) → rank k < rank r
  pub below : (r : ℕ) → rank r < bound

-- ---- own spares as a function

abbrev pub spare_of : Sort → ℕ → CellValue
spare_of TermSort r = a_term (common r)
spare_of MarkSort r = a_mark (g_spare_mark r)
spare_of StringSort r = a_string []

abbrev pub own_cell : Solution → ℕ → Cell → CellValue
own_cell σ r (variable sort None) = spare_of sort r
own_cell σ r (variable sort (Some k)) = σ k
own_cell σ r (fun_cell f rs) = a_term (g_fun f (terms_by σ rs))
own_cell σ r (eigen_cell p rs) = a_term (g_eigen p (values_tree (values_by σ rs)))
own_cell σ r (new_cell p rs) = a_mark (g_new_mark p (values_tree (values_by σ rs)))
own_cell σ r (string_cell rs) = a_string (label_by σ rs)

abbrev pub own_at : Solution → ℕ → Option Cell → CellValue
own_at σ r None = a_term (common 0)
own_at σ r (Some c) = own_cell σ r c

abbrev pub spare_at : ℕ → Option Cell → CellValue
spare_at r None = a_term (common 0)
spare_at r (Some c) = spare_of (sort_of c) r

-- the value of the cell r, followed through n cells
abbrev pub own_value : Store → ℕ → Solution
own_value s zero r = spare_at r (slice_get s.cells r)
own_value s (suc n) r = own_at (own_value s n) r (slice_get s.cells r)

-- ---- it does not matter how far cells are followed beyond their rank

pub terms-alike : (σ τ : Solution) (rs : List ℕ) → ((k : ℕ) → IsPart k rs → σ k ≡ τ k) → terms_by σ rs ≡ terms_by τ rs
terms-alike σ τ [] h = refl
terms-alike σ τ (r ∷ rs) h = ap₂ (λ v ts. more_g_terms (as_term v) ts) (h r (0, refl)) (terms-alike σ τ rs (λ k p. h k (suc p.0, p.1)))

pub values-alike : (σ τ : Solution) (rs : List ℕ) → ((k : ℕ) → IsPart k rs → σ k ≡ τ k) → values_by σ rs ≡ values_by τ rs
values-alike σ τ [] h = refl
values-alike σ τ (r ∷ rs) h = ap₂ (λ v vs. as_value v ∷ vs) (h r (0, refl)) (values-alike σ τ rs (λ k p. h k (suc p.0, p.1)))

pub cell-alike : (σ τ : Solution) (r : ℕ) (c : Cell) → ((k : ℕ) → IsPart k (parts_of c) → σ k ≡ τ k) → own_cell σ r c ≡ own_cell τ r c
cell-alike σ τ r (variable sort None) h = refl
cell-alike σ τ r (variable sort (Some k)) h = h k (0, refl)
cell-alike σ τ r (fun_cell f rs) h = ap (λ ts. a_term (g_fun f ts)) (terms-alike σ τ rs h)
cell-alike σ τ r (eigen_cell p rs) h = ap (λ vs. a_term (g_eigen p (values_tree vs))) (values-alike σ τ rs h)
cell-alike σ τ r (new_cell p rs) h = ap (λ vs. a_mark (g_new_mark p (values_tree vs))) (values-alike σ τ rs h)
cell-alike σ τ r (string_cell rs) h = ap a_string (label-alike σ τ rs h)

stable : (s : Store) (rank : ℕ → ℕ) (bound : ℕ) → IsRanked s rank bound → (n r : ℕ) → rank r < n → own_value s (suc n) r ≡ own_value s n r
stable s rank bound h zero r l = absurd (omega (arith, l))
stable s rank bound h (suc n) r l = by (slice_get s.cells r) refl (λ k m. stable s rank bound h n k m)
  where
    by : (o : Option Cell) → slice_get s.cells r ≡ o → ((k : ℕ) → rank k < n → own_value s (suc n) k ≡ own_value s n k) → own_at (own_value s (suc n)) r o ≡ own_at (own_value s n) r o
    by None e ih = refl
    by (Some c) e ih = cell-alike (own_value s (suc n)) (own_value s n) r c (λ k p. ih k (let f = h.falls r k c e p in omega (arith, f, l)))

-- ---- sorts

abbrev pub has_cell_sort : Store → Sort → ℕ → Type 0
has_cell_sort s sort r = (c : Cell) × (slice_get s.cells r ≡ Some c) × IsTrue (sort_eq sort (sort_of c))

pub cell-sorted : (s : Store) (sort : Sort) (r : ℕ) → IsTrue (has_sort_at s sort r) → has_cell_sort s sort r
cell-sorted s sort r h = by (slice_get s.cells r) refl h
  where
    by : (o : Option Cell) → slice_get s.cells r ≡ o → IsTrue (option_map_or (sort_eq sort) (option_map sort_of o) false) → has_cell_sort s sort r
    by None e k = absurd (false≢true k)
    by (Some c) e k = (c, e, k)

pub sort-same : (a b : Sort) → IsTrue (sort_eq a b) → a ≡ b
sort-same TermSort TermSort h = refl
sort-same MarkSort MarkSort h = refl
sort-same StringSort StringSort h = refl
sort-same TermSort MarkSort h = absurd (false≢true h)
sort-same TermSort StringSort h = absurd (false≢true h)
sort-same MarkSort TermSort h = absurd (false≢true h)
sort-same MarkSort StringSort h = absurd (false≢true h)
sort-same StringSort TermSort h = absurd (false≢true h)
sort-same StringSort MarkSort h = absurd (false≢true h)

pub spare-sort : (sort : Sort) (r : ℕ) → IsTrue (has_sort sort (spare_of sort r))
spare-sort TermSort r = refl
spare-sort MarkSort r = refl
spare-sort StringSort r = refl

pub cell-fits : (s : Store) → IsTrue (is_store s) → (r : ℕ) (c : Cell) → slice_get s.cells r ≡ Some c → IsTrue (parts_fit s c)
cell-fits s h r c e = all-at (parts_fit s) s.cells r c (and_parts (list_all (parts_fit s) s.cells) (trail_fits s) h).0 e

pub own-sort : (s : Store) → IsTrue (is_store s) → (n r : ℕ) (c : Cell) → slice_get s.cells r ≡ Some c → IsTrue (has_sort (sort_of c) (own_value s n r))
own-sort s h zero r c e = rw e (spare-sort (sort_of c) r)
own-sort s h (suc n) r c e = rw e (by c (cell-fits s h r c e) (λ k d f. own-sort s h n k d f))
  where
    by : (d : Cell) → IsTrue (parts_fit s d) → ((k : ℕ) (b : Cell) → slice_get s.cells k ≡ Some b → IsTrue (has_sort (sort_of b) (own_value s n k))) → IsTrue (has_sort (sort_of d) (own_cell (own_value s n) r d))
    by (variable sort None) f ih = spare-sort sort r
    by (variable sort (Some k)) f ih =
        let t = cell-sorted s sort k f in
        subst (λ x. IsTrue (has_sort x (own_value s n k))) (sym (sort-same sort (sort_of t.0) t.2)) (ih k t.0 t.1)
    by (fun_cell g rs) f ih = refl
    by (eigen_cell p rs) f ih = refl
    by (new_cell p rs) f ih = refl
    by (string_cell rs) f ih = refl

-- a cell of a sort has a value of the sort
pub own-sorted : (s : Store) → IsTrue (is_store s) → (n : ℕ) (sort : Sort) (r : ℕ) → IsTrue (has_sort_at s sort r) → IsTrue (has_sort sort (own_value s n r))
own-sorted s h n sort r k =
    let t = cell-sorted s sort r k in
    subst (λ x. IsTrue (has_sort x (own_value s n r))) (sym (sort-same sort (sort_of t.0) t.2)) (own-sort s h n r t.0 t.1)

-- ---- own spares solve the store

pub terms-there : (σ : Solution) (rs : List ℕ) → IsTrue (list_all (λ r. has_sort TermSort (σ r)) rs) → terms_at σ rs ≡ Some (terms_by σ rs)
terms-there σ [] h = refl
terms-there σ (r ∷ rs) h =
    let p = and_parts (has_sort TermSort (σ r)) (list_all (λ k. has_sort TermSort (σ k)) rs) h in
    ap (cons_term (σ r)) (terms-there σ rs p.1) ∙ one (σ r) p.0
  where
    one : (v : CellValue) → IsTrue (has_sort TermSort v) → cons_term v (Some (terms_by σ rs)) ≡ Some (more_g_terms (as_term v) (terms_by σ rs))
    one (a_term t) k = refl
    one (a_mark m) k = absurd (false≢true k)
    one (a_string w) k = absurd (false≢true k)

pub values-there : (σ : Solution) (rs : List ℕ) → IsTrue (list_all (λ r. has_sort TermSort (σ r) || has_sort StringSort (σ r)) rs) → values_at σ rs ≡ Some (values_tree (values_by σ rs))
values-there σ [] h = refl
values-there σ (r ∷ rs) h =
    let p = and_parts (has_sort TermSort (σ r) || has_sort StringSort (σ r)) (list_all (λ k. has_sort TermSort (σ k) || has_sort StringSort (σ k)) rs) h in
    ap (cons_value (σ r)) (values-there σ rs p.1) ∙ one (σ r) p.0
  where
    one : (v : CellValue) → IsTrue (has_sort TermSort v || has_sort StringSort v) → cons_value v (Some (values_tree (values_by σ rs))) ≡ Some (more_values (as_value v) (values_tree (values_by σ rs)))
    one (a_term t) k = refl
    one (a_mark m) k = absurd (false≢true k)
    one (a_string w) k = refl

pub marks-there : (σ : Solution) (rs : List ℕ) → IsTrue (list_all (λ r. has_sort MarkSort (σ r)) rs) → marks_at σ rs ≡ Some (label_by σ rs)
marks-there σ [] h = refl
marks-there σ (r ∷ rs) h =
    let p = and_parts (has_sort MarkSort (σ r)) (list_all (λ k. has_sort MarkSort (σ k)) rs) h in
    ap (cons_mark (σ r)) (marks-there σ rs p.1) ∙ one (σ r) p.0
  where
    one : (v : CellValue) → IsTrue (has_sort MarkSort v) → cons_mark v (Some (label_by σ rs)) ≡ Some (as_label v ++ label_by σ rs)
    one (a_term t) k = absurd (false≢true k)
    one (a_mark m) k = refl
    one (a_string w) k = absurd (false≢true k)

pub or-both : (a b c d : Bool) → (IsTrue a → IsTrue c) → (IsTrue b → IsTrue d) → IsTrue (a || b) → IsTrue (c || d)
or-both true b c d f g h = rw (f refl) refl
or-both false b true d f g h = refl
or-both false b false d f g h = g h

pub own-fixed : (s : Store) (rank : ℕ → ℕ) (bound : ℕ) → IsRanked s rank bound → (r : ℕ) (c : Cell) → slice_get s.cells r ≡ Some c → own_value s bound r ≡ own_cell (own_value s bound) r c
own-fixed s rank bound h r c e = sym (stable s rank bound h bound r (h.below r)) ∙ ap (own_at (own_value s bound) r) e

pub own-solves : (s : Store) (rank : ℕ → ℕ) (bound : ℕ) → IsTrue (is_store s) → IsRanked s rank bound → Solves s (own_value s bound)
own-solves s rank bound h k r c e = by c (cell-fits s h r c e) (own-fixed s rank bound k r c e) (own-sort s h bound r c e)
  where
    own : Solution
    own = own_value s bound

    by : (d : Cell) → IsTrue (parts_fit s d) → own_value s bound r ≡ own_cell (own_value s bound) r d → IsTrue (has_sort (sort_of d) (own_value s bound r)) → CellHolds (own_value s bound) r d
    by (variable sort None) f q t = t
    by (variable sort (Some j)) f q t = (t, q)
    by (fun_cell g rs) f q t = (terms_by (own_value s bound) rs, terms-there (own_value s bound) rs (all-weaken (has_sort_at s TermSort) (λ x. has_sort TermSort (own_value s bound x)) (own-sorted s h bound TermSort) rs f), q)
    by (eigen_cell p rs) f q t = (values_tree (values_by (own_value s bound) rs), values-there (own_value s bound) rs (all-weaken (has_value_sort_at s) (λ x. has_sort TermSort (own_value s bound x) || has_sort StringSort (own_value s bound x)) (λ x. or-both (has_sort_at s TermSort x) (has_sort_at s StringSort x) (has_sort TermSort (own_value s bound x)) (has_sort StringSort (own_value s bound x)) (own-sorted s h bound TermSort x) (own-sorted s h bound StringSort x)) rs f), q)
    by (new_cell p rs) f q t = (values_tree (values_by (own_value s bound) rs), values-there (own_value s bound) rs (all-weaken (has_value_sort_at s) (λ x. has_sort TermSort (own_value s bound x) || has_sort StringSort (own_value s bound x)) (λ x. or-both (has_sort_at s TermSort x) (has_sort_at s StringSort x) (has_sort TermSort (own_value s bound x)) (has_sort StringSort (own_value s bound x)) (own-sorted s h bound TermSort x) (own-sorted s h bound StringSort x)) rs f), q)
    by (string_cell rs) f q t = (label_by (own_value s bound) rs, marks-there (own_value s bound) rs (all-weaken (has_sort_at s MarkSort) (λ x. has_sort MarkSort (own_value s bound x)) (own-sorted s h bound MarkSort) rs f), q)

-- where common spares exist, each unbound variable has its own number
pub own-apart : (s : Store) (rank : ℕ → ℕ) (bound : ℕ) (gammas : List GammaCell) → IsTrue (is_store s) → IsRanked s rank bound → AreOwnSpares true s gammas (own_value s bound) (λ r. r)
own-apart s rank bound gammas h k = record {
  solves = own-solves s rank bound h k;
  spares = λ v sort e. by v sort (own-fixed s rank bound k v (variable sort None) e);
  apart = λ v w sort e f same. same;
}
  where
    by : (v : ℕ) (sort : Sort) → own_value s bound v ≡ spare_of sort v → IsOwnSpare true s gammas (own_value s bound) sort v v
    by v TermSort q = q
    by v MarkSort q = q
    by v StringSort q = q
