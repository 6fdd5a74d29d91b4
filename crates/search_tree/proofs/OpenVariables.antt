-- The unbound variables among a search's own cells: each is one of a clause that was copied.
use Rattle.std.proofs.Common.{◌≡◌, ◌⊎◌, ℕ, suc, List, [], ◌∷◌, ◌++◌, length, true, false, sym, ◌∙◌, ap, refl, None, Some, slice_get, arith, inl, inr}
use Rattle.plain_laws.proofs.Places.{get-within, get-there}
use Rattle.store_theory.specs.Bindings.{AddsBuilt, BindsOnly, is_variable, nothing_more, one_more, places_from, with_cell, with_variables_of}
use Rattle.store_theory.specs.Stores.{Store, variable}
use Rattle.calculus.specs.Choices.{start, reduction, extension}
use Rattle.calculus.specs.declared.sort.Sort.{Sort}
use Rattle.search_theory.specs.Exploring.{IsIn}
use Rattle.search_theory.specs.Jumps.{IsValueOf, NamesVariables}
use Rattle.search_theory.specs.States.{CellChoice, CellClause}
use Rattle.search_theory.proofs.BuildingLaws.{get-more, length-plus}

-- ---- values of clauses

value-more : (v : ℕ) (cs : List CellChoice) (c : CellChoice) → IsValueOf v cs → IsValueOf v (cs ++ c ∷ [])
value-more v [] c h = absurd h
value-more v (start i ∷ cs) c (inl h) = inl h
value-more v (start i ∷ cs) c (inr h) = inr (value-more v cs c h)
value-more v (reduction up ∷ cs) c h = value-more v cs c h
value-more v (extension i place ∷ cs) c (inl h) = inl h
value-more v (extension i place ∷ cs) c (inr h) = inr (value-more v cs c h)

value-last : (v : ℕ) (cs : List CellChoice) (i : CellClause) (place : ℕ) → IsIn v i.values → IsValueOf v (cs ++ extension i place ∷ [])
value-last v [] i place h = inl h
value-last v (start j ∷ cs) i place h = inr (value-last v cs i place h)
value-last v (reduction up ∷ cs) i place h = value-last v cs i place h
value-last v (extension j k ∷ cs) i place h = inr (value-last v cs i place h)

-- ---- what is unbound was so before

abbrev IsUnbound : Store → ℕ → Sort → Type 0
IsUnbound s v sort = slice_get s.cells v ≡ Some (variable sort None)

unbound-bound : (s t : Store) → BindsOnly s t → (v : ℕ) (sort : Sort) → IsUnbound t v sort → IsUnbound s v sort
unbound-bound s t b v sort e =
    let l = get-within t.cells v (variable sort None) e in
    let n = b.same_length in
    let (c, f) = get-there s.cells v (omega (arith, l, n)) in
    elim (b.cells v c f) [
      | inl same ↦ (let z : Some c ≡ Some (variable sort None) = sym same ∙ e in f ∙ z)
      | inr bound ↦ (let z : Some (variable bound.0 (Some bound.1)) ≡ Some (variable sort None) = sym bound.3 ∙ e in absurd (cc z))
    ]

unbound-built : (s t : Store) → AddsBuilt s t → (v : ℕ) (sort : Sort) → IsUnbound t v sort → IsUnbound s v sort
unbound-built s _ nothing_more v sort e = e
unbound-built s t (one_more c i f b rest) v sort e = elim (get-more s.cells c v (variable sort None) (unbound-built (with_cell c s) t rest v sort e)) [
  | inl old ↦ old
  | inr new ↦ let z : true ≡ false = sym (ap is_variable new.1) ∙ b in absurd (cc z)
]

-- or it is one of the new variables
unbound-variables : (sorts : List Sort) (s : Store) (n v : ℕ) (sort : Sort) → n ≡ length s.cells → IsUnbound (with_variables_of sorts s) v sort → IsUnbound s v sort ⊎ IsIn v (places_from n (length sorts))
unbound-variables [] s n v sort q e = inl e
unbound-variables (x ∷ sorts) s n v sort q e =
    let long = length-plus (variable x None) s in
    elim (unbound-variables sorts (with_cell (variable x None) s) (suc n) v sort (omega (arith, q, long)) e) [
      | inl there ↦ elim (get-more s.cells (variable x None) v (variable sort None) there) [
        | inl old ↦ inl old
        | inr new ↦ (let here : n ≡ v = q ∙ sym new.0 in inr (0, ap Some here))
      ]
      | inr part ↦ inr (suc part.0, part.1)
    ]

-- ---- the steps of a search

pub variables-reduced : (base : ℕ) (s t : Store) (cs : List CellChoice) (up : ℕ) → BindsOnly s t → NamesVariables base s cs → NamesVariables base t (cs ++ reduction up ∷ [])
variables-reduced base s t cs up b h v sort l e = value-more v cs (reduction up) (h v sort l (unbound-bound s t b v sort e))

-- a clause is copied: its connected literal, which is unified, and the others
pub variables-extended : (base : ℕ) (old mid met new : Store) (cs : List CellChoice) (sorts : List Sort) (i : CellClause) (place : ℕ) → i.values ≡ places_from (length old.cells) (length sorts) → AddsBuilt (with_variables_of sorts old) mid → BindsOnly mid met → AddsBuilt met new → NamesVariables base old cs → NamesVariables base new (cs ++ extension i place ∷ [])
variables-extended base old mid met new cs sorts i place are head binds rest h v sort l e =
    elim (unbound-variables sorts old (length old.cells) v sort refl (unbound-built (with_variables_of sorts old) mid head v sort (unbound-bound mid met binds v sort (unbound-built met new rest v sort e)))) [
      | inl there ↦ value-more v cs (extension i place) (h v sort l there)
      | inr part ↦ value-last v cs i place (part.0, ap (λ xs. slice_get xs part.0) are ∙ part.1)
    ]

pub variables-started : (old new : Store) (sorts : List Sort) (i : CellClause) → i.values ≡ places_from (length old.cells) (length sorts) → AddsBuilt (with_variables_of sorts old) new → NamesVariables (length old.cells) new (start i ∷ [])
variables-started old new sorts i are built v sort l e =
    elim (unbound-variables sorts old (length old.cells) v sort refl (unbound-built (with_variables_of sorts old) new built v sort e)) [
      | inl there ↦ (let k = get-within old.cells v (variable sort None) there in absurd (omega (arith, l, k)))
      | inr part ↦ inl (part.0, ap (λ xs. slice_get xs part.0) are ∙ part.1)
    ]
