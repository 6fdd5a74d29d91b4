-- Turns that are awaited, one after the other.
use Rattle.std.proofs.Common.{◌≡◌, ◌⊎◌, ◌↔◌, ℕ, zero, suc, ◌+◌, ◌≤◌, ◌<◌, List, [], ◌∷◌, length, take, Bool, true, false, IsTrue, Some, Contains, refl, sym, ◌∙◌, ap, subst, inl, inr, slice_get, slice_index_or, add-one, arith}
use Rattle.std.proofs.lemmas.Bool.{false≢true}
use Rattle.std.proofs.lemmas.List.{take_all}
use Rattle.std.proofs.lemmas.Option.{slice_get-get_or}
use Rattle.plain_laws.proofs.Options.{some_injective}
use Rattle.calculus.proofs.Members.{Among, among-contains, contains-among, contains-at}
use Rattle.sequent_convert.specs.State.{Basis, IsAwaitedBy}

pub not-there : (b : Bool) (Q : Type 0) → b ≡ false → IsTrue b ↔ Q → Q → ⊥
not-there b Q e h q = false≢true (sym e ∙ h.1 q)

pub item-in : (w : List ℕ) (i : ℕ) → i < length w → Contains w (slice_index_or w i 0)
item-in w i lt = contains-at w i (slice_index_or w i 0) (slice_get-get_or w i 0 lt)

among-take : (xs : List ℕ) (i j : ℕ) → Among (take (suc i) xs) j → Among (take i xs) j ⊎ (slice_get xs i ≡ Some j)
among-take [] i j h = elim h [ ]
among-take (x ∷ xs) zero j (inl e) = inr (ap Some e)
among-take (x ∷ xs) zero j (inr h) = elim h [ ]
among-take (x ∷ xs) (suc i) j (inl e) = inl (inl e)
among-take (x ∷ xs) (suc i) j (inr h) = elim (among-take xs i j h) [ inl k ↦ inl (inr k) | inr e ↦ inr e ]

-- one more of them is done
pub waits-step : (done w : List ℕ) (i : ℕ) → i < length w → ((j : ℕ) → Contains (take i w) j → Contains done j) → Contains done (slice_index_or w i 0) → (j : ℕ) → Contains (take (i + 1) w) j → Contains done j
waits-step done w i lt h here j c = elim (among-take w i j (among-contains (take (suc i) w) j (subst (λ n. Contains (take n w) j) (add-one i) c))) [
  | inl k ↦ h j (contains-among (take i w) j k)
  | inr e ↦ subst (Contains done) (some_injective (slice_index_or w i 0) (sym (slice_get-get_or w i 0 lt) ∙ e)) here
]

-- all are done
pub awaits-all : (B : Basis) (done w : List ℕ) (k i : ℕ) → slice_get B.named.waits k ≡ Some w → length w ≤ i → ((j : ℕ) → slice_get B.named.parents k ≡ Some (Some j) → Contains done j) → ((j : ℕ) → Contains (take i w) j → Contains done j) → (j : ℕ) → IsAwaitedBy B k j → Contains done j
awaits-all B done w k i at le parents waits j (inl up) = parents j up
awaits-all B done w k i at le parents waits j (inr r) = waits j (subst (λ us. Contains us j) (some_injective r.0 (sym r.1 ∙ at) ∙ sym (take_all i w le)) r.2)
