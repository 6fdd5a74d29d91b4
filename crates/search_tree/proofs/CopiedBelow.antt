-- What was there before a copy names none of the copy.
use Rattle.std.proofs.Common.{◌≡◌, ◌<◌, ◌∙◌, ℕ, List, length, Some, slice_get, sym, ap, arith}
use Rattle.plain_laws.proofs.Places.{get-there}
use Rattle.calculus.specs.declared.sort.Sort.{Sort}
use Rattle.store_theory.specs.Bindings.{AddsBuilt, IsWellFormed, with_variables_of}
use Rattle.store_theory.specs.Stores.{Cell, Store, parts_of}
use Rattle.store_theory.proofs.BindingLaws.{kept, parts-within}
use Rattle.store_theory.proofs.PatternLaws.{Grows-built, grown-cell}
use Rattle.search_theory.proofs.BuildingLaws.{variables-front}
use Rattle.term_unify.specs.Closed.{IsClosedBelow}

-- what was there before a copy was made names none of the copy
pub closed-copied : (sorts : List Sort) (old new : Store) (n : ℕ) → n ≡ length old.cells → IsWellFormed old → AddsBuilt (with_variables_of sorts old) new → IsClosedBelow n new
closed-copied sorts old new n en w h r k i c l e p =
    let (d, at) = get-there old.cells r (omega (arith, l, en)) in
    let there = grown-cell (with_variables_of sorts old) new r d (Grows-built (with_variables_of sorts old) new h) (variables-front sorts old r d at) in
    let same : c ≡ d = let q : Some c ≡ Some d = sym e ∙ there in cc q in
    let within = inside old d i k r w at (ap (λ x. slice_get (parts_of x) i) (sym same) ∙ p) in
    omega (arith, within, en)
  where
    inside : (s : Store) (d : Cell) (i k r : ℕ) → IsWellFormed s → slice_get s.cells r ≡ Some d → slice_get (parts_of d) i ≡ Some k → k < length s.cells
    inside s d i k r w at p = parts-within s d i k ((kept s w.fits).fits r d at) p
