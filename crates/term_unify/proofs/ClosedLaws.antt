-- Cells that name no newer ones have no newer variable in them.
use Rattle.std.proofs.Common.{◌≡◌, ◌⊎◌, ◌≤◌, ◌<◌, ◌∙◌, ℕ, [], None, Some, slice_get, sym, ap, arith, inl, inr, option_map}
use Rattle.calculus.specs.declared.sort.Sort.{Sort}
use Rattle.store_theory.specs.Bindings.{bind_at, bound_to, with_binding}
use Rattle.store_theory.specs.Stores.{OccursIn, Store, here, in_part, variable}
use Rattle.store_theory.proofs.BindingLaws.{get-bound, get-unbound, same_place, bound-part}
use Rattle.term_unify.specs.Closed.{IsClosedBelow}

-- no cell has a number below 0
pub closed-none : (s : Store) → IsClosedBelow 0 s
closed-none s r k i c l e p = absurd (omega (arith, l))

-- what occurs in a cell whose number is below n has such a number
pub below-occurs : (n : ℕ) (s : Store) (v r : ℕ) → IsClosedBelow n s → r < n → OccursIn s v r → v < n
below-occurs n s v r h l here = l
below-occurs n s v r h l (in_part i {k = k} {c = c} e p o) = below-occurs n s v k h (h r k i c l e p) o

-- a variable whose number is not below n does not
pub newer-apart : (n : ℕ) (s : Store) (v r : ℕ) → IsClosedBelow n s → r < n → n ≤ v → ¬ OccursIn s v r
newer-apart n s v r h l m o = let k = below-occurs n s v r h l o in absurd (omega (arith, k, m))

-- the binding of a newer variable, or to an older cell, keeps this
pub closed-bound : (n : ℕ) (s : Store) (v r : ℕ) (sort : Sort) → slice_get s.cells v ≡ Some (variable sort None) → (n ≤ v) ⊎ (r < n) → IsClosedBelow n s → IsClosedBelow n (with_binding v r s)
closed-bound n s v r sort o w h q k i c m e p = elim (same_place v q) [
  | inl same ↦
      let at : slice_get (bind_at v r s.cells) v ≡ Some (variable sort (Some r)) = get-bound v r s.cells ∙ ap (option_map (bound_to r)) o in
      let there : slice_get (bind_at v r s.cells) v ≡ Some c = ap (slice_get (bind_at v r s.cells)) same ∙ e in
      let is : c ≡ variable sort (Some r) = let z : Some c ≡ Some (variable sort (Some r)) = sym there ∙ at in cc z in
      let to : k ≡ r = bound-part sort r i k c is p in
      elim w [ inl newer ↦ absurd (omega (arith, newer, same, m)) | inr older ↦ omega (arith, older, to) ]
  | inr other ↦ h q k i c m (sym (get-unbound v r q s.cells other) ∙ e) p
]
