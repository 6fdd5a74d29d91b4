-- Where what is bound names cells from a place on alone, and so does what it is bound to, cells from there on still name only such.
use Rattle.std.proofs.Common.{◌≡◌, ◌≤◌, ℕ, refl, sym, ◌∙◌, ap, subst, None, Some, IsTrue, inl, inr, arith, ◌⊎◌, nat_le, true, le-leb, leb-true}
use Rattle.std.specs.Prelude.{slice_get}
use Rattle.std.specs.List.{list_all}
use Rattle.std.proofs.lemmas.Bool.{and_from}
use Rattle.plain_laws.proofs.Every.{all-at}
use Rattle.plain_laws.proofs.Places.{get-there, get-within}
use Rattle.plain_laws.proofs.Options.{same-some}
use Rattle.calculus.specs.declared.sort.Sort.{Sort}
use Rattle.store_theory.specs.Stores.{Cell, variable, Store, parts_of, OccursIn, here, in_part}
use Rattle.store_theory.specs.Bindings.{BindsOnly, BindsWithin, NamesFrom}

-- a cell of the new store was there before, or is a variable that was bound
pub data BoundCell (old : Store) (n : ℕ) (c : Cell) : Type 0 where
  stayed : slice_get old.cells n ≡ Some c → BoundCell old n c
  was_bound : (sort : Sort) (r : ℕ) → slice_get old.cells n ≡ Some (variable sort None) → c ≡ variable sort (Some r) → BoundCell old n c

bound-cell : (old new : Store) (n : ℕ) (c : Cell) → BindsOnly old new → slice_get new.cells n ≡ Some c → BoundCell old n c
bound-cell old new n c b e =
    let (d, f) = get-there old.cells n (let l = get-within new.cells n c e in let s = b.same_length in omega (arith, l, s)) in
    elim (b.cells n d f) [
      | inl g ↦ stayed (f ∙ ap Some (same-some (slice_get new.cells n) d c g e))
      | inr (sort, r, q, g) ↦ was_bound sort r (f ∙ ap Some q) (sym (same-some (slice_get new.cells n) (variable sort (Some r)) c g e))
    ]

-- what occurs in a cell from `base` on is from `base` on
pub occurs-from : (base : ℕ) (s : Store) → NamesFrom base s → (v r : ℕ) → OccursIn s v r → base ≤ r → base ≤ v
occurs-from base s h v r here l = l
occurs-from base s h v r (in_part i {k = k} {c = c} e p more) l = occurs-from base s h v k more (leb-true base k (all-at (nat_le base) (parts_of c) i k (h r c l e) p))

either : (P : Type 0) (A B : Type 0) → A ⊎ B → (A → P) → (B → P) → P
either P A B (inl x) f g = f x
either P A B (inr x) f g = g x

-- cells from `base` on still name cells from there on
pub names-within : (base a b : ℕ) (old new : Store) → BindsOnly old new → BindsWithin a b old new → NamesFrom base old → base ≤ a → base ≤ b → NamesFrom base new
names-within base a b old new binds within h low_a low_b n c low e = by (bound-cell old new n c binds e)
  where
    by : BoundCell old n c → IsTrue (list_all (nat_le base) (parts_of c))
    by (stayed f) = h n c low f
    by (was_bound sort r f q) =
        let at : slice_get new.cells n ≡ Some (variable sort (Some r)) = e ∙ ap Some q in
        let l : base ≤ r = either (base ≤ r) (OccursIn old r a) (OccursIn old r b) (within.target n r sort f at) (λ o. occurs-from base old h r a o low_a) (λ o. occurs-from base old h r b o low_b) in
        subst (λ d. IsTrue (list_all (nat_le base) (parts_of d))) (sym q) (and_from (nat_le base r) true (le-leb base r l) refl)
