-- A cell that is a term stays one under bindings.
use Rattle.std.proofs.Common.{◌≡◌, ℕ, false, IsTrue, sym, ◌∙◌, ap, Some, option_map, slice_get, inl, inr}
use Rattle.std.specs.Option.{option_map_or}
use Rattle.calculus.specs.declared.sort.Sort.TheVariants.{TermSort}
use Rattle.calculus.specs.Equality.{sort_eq}
use Rattle.store_theory.specs.Stores.{Cell, variable, Store, sort_of, has_sort_at}
use Rattle.store_theory.specs.Bindings.{BindsOnly}
use Rattle.search_theory.proofs.SpareLaws.{cell-sorted}

-- a cell that is a term stays one
abbrev pub KeepsTerms : Store → Store → Type 0
KeepsTerms old new = (r : ℕ) → IsTrue (has_sort_at old TermSort r) → IsTrue (has_sort_at new TermSort r)

-- ---- unification keeps a classical store

sort-there : (s : Store) (r : ℕ) (c : Cell) → slice_get s.cells r ≡ Some c → has_sort_at s TermSort r ≡ sort_eq TermSort (sort_of c)
sort-there s r c e = ap (λ o. option_map_or (sort_eq TermSort) (option_map sort_of o) false) e

pub terms-binds : (before after : Store) → BindsOnly before after → KeepsTerms before after
terms-binds before after b r h =
    let t = cell-sorted before TermSort r h in
    let is = sort-there before r t.0 t.1 in
    elim (b.cells r t.0 t.1) [
      | inl same ↦ sort-there after r t.0 same ∙ t.2
      | inr bound ↦ sort-there after r (variable bound.0 (Some bound.1)) bound.3 ∙ sym (ap (λ c. sort_eq TermSort (sort_of c)) bound.2) ∙ t.2
    ]
