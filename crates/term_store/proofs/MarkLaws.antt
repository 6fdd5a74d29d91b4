-- New mark variables and the string of them.
use Rattle.std.proofs.Common.{List, ◌≡◌, ◌+◌, ◌++◌, ◌∷◌, [], None, Some, IsTrue, length, ℕ, zero, suc, refl, ap, ◌∙◌, arith, replicate, take, get_or, ◌<◌}
use Rattle.std.proofs.lemmas.List.{length-replicate}
use Rattle.std.specs.Prelude.{slice_get}
use Rattle.std.specs.List.{list_all}
use Rattle.std.proofs.lemmas.Bool.{and_from}
use Rattle.plain_laws.proofs.Places.{get-end}
use Rattle.calculus.specs.declared.sort.Sort.{Sort}
use Rattle.calculus.specs.declared.sort.Sort.TheVariants.{MarkSort}
use Rattle.store_theory.specs.Stores.{variable, Store, has_sort_at}
use Rattle.store_theory.specs.Bindings.{with_cell, with_variables_of, places_from}
use Rattle.store_theory.proofs.PatternLaws.{Grows-variables, grown-cell, length-variables}
use Rattle.store_theory.proofs.BindingLaws.{has_sort-from}

-- one variable more
pub variables-last : (sorts : List Sort) (sort : Sort) (s : Store) → with_cell (variable sort None) (with_variables_of sorts s) ≡ with_variables_of (sorts ++ sort ∷ []) s
variables-last [] sort s = refl
variables-last (b ∷ sorts) sort s = variables-last sorts sort (with_cell (variable b None) s)

replicate-last : (n : ℕ) (sort : Sort) → replicate n sort ++ sort ∷ [] ≡ replicate (n + 1) sort
replicate-last zero sort = refl
replicate-last (suc n) sort = ap (λ xs. sort ∷ xs) (replicate-last n sort) ∙ ap (λ k. replicate k sort) (let q : suc (n + 1) ≡ suc n + 1 = omega arith in q)

pub more-variables : (n : ℕ) (sort : Sort) (s : Store) → with_cell (variable sort None) (with_variables_of (replicate n sort) s) ≡ with_variables_of (replicate (n + 1) sort) s
more-variables n sort s = variables-last (replicate n sort) sort s ∙ ap (λ xs. with_variables_of xs s) (replicate-last n sort)

pub more-places : (first n : ℕ) → places_from first n ++ (first + n) ∷ [] ≡ places_from first (n + 1)
more-places first zero = ap (λ k. k ∷ []) (let e : first + 0 ≡ first = omega arith in e)
more-places first (suc n) = ap (λ xs. first ∷ xs) (ap (λ k. places_from (suc first) n ++ k ∷ []) (let e : first + suc n ≡ suc first + n = omega arith in e) ∙ more-places (suc first) n) ∙ ap (places_from first) (let q : suc (n + 1) ≡ suc n + 1 = omega arith in q)

pub variables-fit : (n : ℕ) (sort : Sort) (s : Store) (first : ℕ) → first ≡ length s.cells → IsTrue (list_all (has_sort_at (with_variables_of (replicate n sort) s) sort) (places_from first n))
variables-fit zero sort s first e = refl
variables-fit (suc n) sort s first e =
    let c = variable sort None in
    let t = with_cell c s in
    let u = with_variables_of (replicate n sort) t in
    let at : slice_get t.cells first ≡ Some c = ap (slice_get t.cells) e ∙ get-end s.cells c in
    let long = length-variables (sort ∷ []) s in
    and_from (has_sort_at u sort first) (list_all (has_sort_at u sort) (places_from (suc first) n))
    (has_sort-from u sort first c (grown-cell t u first c (Grows-variables (replicate n sort) t) at) refl)
    (variables-fit n sort t (suc first) (omega (arith, e, long)))

pub length-marks : (n : ℕ) (s : Store) → length (with_variables_of (replicate n MarkSort) s).cells ≡ length s.cells + n
length-marks n s = length-variables (replicate n MarkSort) s ∙ ap (λ k. length s.cells + k) (length-replicate n MarkSort)

pub take-more : (xs : List Sort) (i : ℕ) (x d : Sort) → i < length xs → x ≡ get_or xs i d → take i xs ++ x ∷ [] ≡ take (i + 1) xs
take-more [] i x d l e = absurd (omega arith)
take-more (y ∷ xs) zero x d l e = ap (λ z. z ∷ []) e
take-more (y ∷ xs) (suc i) x d l e = ap (λ zs. y ∷ zs) (take-more xs i x d (omega arith) e) ∙ ap (λ k. take k (y ∷ xs)) (let q : suc (i + 1) ≡ suc i + 1 = omega arith in q)
