-- Cells and sorts that stay when cells come or are bound, and the unbound strings among a search's own cells, which its system names.
use Rattle.std.proofs.Common.{◌≡◌, ◌⊎◌, ◌≤◌, ℕ, suc, List, [], ◌∷◌, ◌++◌, length, true, false, refl, sym, ◌∙◌, ap, Option, None, Some, option_map, slice_get, arith, inl, inr}
use Rattle.plain_laws.proofs.Places.{get-front, get-within, get-there}
use Rattle.store_theory.specs.Bindings.{AddsBuilt, BindsOnly, is_variable, nothing_more, one_more, places_from, with_cell, with_variables_of}
use Rattle.store_theory.specs.Stores.{Cell, EndsAt, Store, goes_on, sort_of, stays, variable}
use Rattle.store_theory.specs.Systems.{IsOpenString}
use Rattle.calculus.specs.declared.sort.Sort.{Sort}
use Rattle.calculus.specs.declared.sort.Sort.TheVariants.{TermSort, MarkSort, StringSort}
use Rattle.search_theory.specs.StateSystems.{string_cells}
use Rattle.search_theory.proofs.BuildingLaws.{get-more, length-plus, variables-front}
use Rattle.search_theory.specs.CellsIn.{IsPart}
use Rattle.search_tree.proofs.KeptLaws.{KeepsSorts}

-- ---- cells that stay

abbrev pub KeepsCells : Store → Store → Type 0
KeepsCells old new = (r : ℕ) (c : Cell) → slice_get old.cells r ≡ Some c → slice_get new.cells r ≡ Some c

pub cells-built : (s t : Store) → AddsBuilt s t → KeepsCells s t
cells-built s _ nothing_more r c e = e
cells-built s t (one_more b i f v rest) r c e = cells-built (with_cell b s) t rest r c (get-front s.cells (b ∷ []) r c e)

pub cells-copied : (sorts : List Sort) (s t : Store) → AddsBuilt (with_variables_of sorts s) t → KeepsCells s t
cells-copied sorts s t built r c e = cells-built (with_variables_of sorts s) t built r c (variables-front sorts s r c e)

pub sorts-of_cells : (old new : Store) → KeepsCells old new → KeepsSorts old new
sorts-of_cells old new k r sort e = by (slice_get old.cells r) refl e
  where
    by : (o : Option Cell) → slice_get old.cells r ≡ o → option_map sort_of o ≡ Some sort → option_map sort_of (slice_get new.cells r) ≡ Some sort
    by None q h = let z : None ≡ Some sort = h in absurd (cc z)
    by (Some c) q h = ap (option_map sort_of) (k r c q) ∙ h

-- unification keeps sorts
pub sorts-of_bound : (old new : Store) → BindsOnly old new → KeepsSorts old new
sorts-of_bound old new b r sort e = by (slice_get old.cells r) refl e
  where
    by : (o : Option Cell) → slice_get old.cells r ≡ o → option_map sort_of o ≡ Some sort → option_map sort_of (slice_get new.cells r) ≡ Some sort
    by None q k = let z : None ≡ Some sort = k in absurd (cc z)
    by (Some c) q k = elim (b.cells r c q) [
      | inl same ↦ ap (option_map sort_of) same ∙ k
      | inr bound ↦ ap (option_map sort_of) bound.3 ∙ ap (λ x. Some (sort_of x)) (sym bound.2) ∙ k
    ]

pub sorts-both : (s t u : Store) → KeepsSorts s t → KeepsSorts t u → KeepsSorts s u
sorts-both s t u h k r sort e = k r sort (h r sort e)

-- ---- unbound strings

-- bindings of one of the strings end at each unbound string from the number `base` on
abbrev pub AreNamed : ℕ → Store → List ℕ → Type 0
AreNamed base s strings = (v : ℕ) → base ≤ v → IsOpenString s v → (i : ℕ) × (r : ℕ) × (slice_get strings i ≡ Some r) × EndsAt s r v

ends-kept : (s t : Store) → KeepsCells s t → (r v : ℕ) → EndsAt s r v → EndsAt t r v
ends-kept s t k r v (stays {c = c} e n) = stays (k r c e) n
ends-kept s t k r v (goes_on {k = m} {sort = sort} e rest) = goes_on (k r (variable sort (Some m)) e) (ends-kept s t k m v rest)

-- what is still unbound is still the end
ends-bound : (s t : Store) → BindsOnly s t → (r v : ℕ) → IsOpenString t v → EndsAt s r v → EndsAt t r v
ends-bound s t b r v f (stays e n) = stays f refl
ends-bound s t b r v f (goes_on {k = m} {sort = sort} e rest) = elim (b.cells r (variable sort (Some m)) e) [
  | inl same ↦ goes_on same (ends-bound s t b m v f rest)
  | inr bound ↦ let z : variable sort (Some m) ≡ variable bound.0 None = bound.2 in absurd (cc z)
]

open-bound : (s t : Store) → BindsOnly s t → (v : ℕ) → IsOpenString t v → IsOpenString s v
open-bound s t b v e =
    let l = get-within t.cells v (variable StringSort None) e in
    let n = b.same_length in
    let (c, f) = get-there s.cells v (omega (arith, l, n)) in
    elim (b.cells v c f) [
      | inl same ↦ (let z : Some c ≡ Some (variable StringSort None) = sym same ∙ e in f ∙ z)
      | inr bound ↦ (let z : Some (variable bound.0 (Some bound.1)) ≡ Some (variable StringSort None) = sym bound.3 ∙ e in absurd (cc z))
    ]

pub named-bound : (base : ℕ) (s t : Store) (strings : List ℕ) → BindsOnly s t → AreNamed base s strings → AreNamed base t strings
named-bound base s t strings b h v l e = let (i, r, at, ends) = h v l (open-bound s t b v e) in (i, r, at, ends-bound s t b r v e ends)

open-built : (s t : Store) → AddsBuilt s t → (v : ℕ) → IsOpenString t v → IsOpenString s v
open-built s _ nothing_more v e = e
open-built s t (one_more c i f b rest) v e = elim (get-more s.cells c v (variable StringSort None) (open-built (with_cell c s) t rest v e)) [
  | inl old ↦ old
  | inr new ↦ let z : true ≡ false = sym (ap is_variable new.1) ∙ b in absurd (cc z)
]

pub named-built : (base : ℕ) (s t : Store) (strings : List ℕ) → AddsBuilt s t → AreNamed base s strings → AreNamed base t strings
named-built base s t strings built h v l e = let (i, r, at, ends) = h v l (open-built s t built v e) in (i, r, at, ends-kept s t (cells-built s t built) r v ends)

-- an unbound string is an old one, or one of the new variables
open-variables : (sorts : List Sort) (s : Store) (n v : ℕ) → n ≡ length s.cells → IsOpenString (with_variables_of sorts s) v → IsOpenString s v ⊎ IsPart v (string_cells sorts (places_from n (length sorts)))
open-variables [] s n v q e = inl e
open-variables (sort ∷ sorts) s n v q e =
    let long = length-plus (variable sort None) s in
    elim (open-variables sorts (with_cell (variable sort None) s) (suc n) v (omega (arith, q, long)) e) [
      | inl there ↦ elim (get-more s.cells (variable sort None) v (variable StringSort None) there) [
        | inl old ↦ inl old
        | inr new ↦ (let z : sort ≡ StringSort = cc new.1 in let here : n ≡ v = q ∙ sym new.0 in inr (first sort z here))
      ]
      | inr part ↦ inr (later sort part)
    ]
  where
    first : (x : Sort) → x ≡ StringSort → n ≡ v → IsPart v (string_cells (x ∷ sorts) (n ∷ places_from (suc n) (length sorts)))
    first TermSort z here = absurd (cc z)
    first MarkSort z here = absurd (cc z)
    first StringSort z here = (0, ap Some here)

    later : (x : Sort) → IsPart v (string_cells sorts (places_from (suc n) (length sorts))) → IsPart v (string_cells (x ∷ sorts) (n ∷ places_from (suc n) (length sorts)))
    later TermSort p = p
    later MarkSort p = p
    later StringSort p = (suc p.0, p.1)

get-behind : {A : Type 0} (xs ys : List A) (i : ℕ) (y : A) → slice_get ys i ≡ Some y → (j : ℕ) × (slice_get (xs ++ ys) j ≡ Some y)
get-behind [] ys i y e = (i, e)
get-behind (x ∷ xs) ys i y e = let (j, f) = get-behind xs ys i y e in (suc j, f)

pub named-variables : (base : ℕ) (sorts : List Sort) (s : Store) (strings vs : List ℕ) → vs ≡ places_from (length s.cells) (length sorts) → AreNamed base s strings → AreNamed base (with_variables_of sorts s) (strings ++ string_cells sorts vs)
named-variables base sorts s strings vs are h v l e = elim (open-variables sorts s (length s.cells) v refl e) [
  | inl old ↦ (let (i, r, at, ends) = h v l old in (i, r, get-front strings (string_cells sorts vs) i r at, ends-kept s (with_variables_of sorts s) (variables-front sorts s) r v ends))
  | inr part ↦ (let (j, f) = get-behind strings (string_cells sorts vs) part.0 v (ap (λ xs. slice_get (string_cells sorts xs) part.0) are ∙ part.1) in (j, v, f, stays e refl))
]

pub named-none : (s : Store) → AreNamed (length s.cells) s []
named-none s v l e = let k = get-within s.cells v (variable StringSort None) e in absurd (omega (arith, l, k))
