-- Turns that are awaited stand before those that await them, and a turn whose awaited turns are done can come.
use Rattle.std.proofs.Common.{◌≡◌, ◌⊎◌, ℕ, ◌<◌, List, [], length, Option, Some, Contains, sym, ◌∙◌, ap, subst, inl, inr, slice_get, arith}
use Rattle.std.specs.List.{AllByRecursion}
use Rattle.plain_laws.proofs.Places.{get-there}
use Rattle.calculus.specs.Instances.{Turn}
use Rattle.calculus.proofs.Members.{Among}
use Rattle.conversion_theory.proofs.BranchLaws.{IsComplete}
use Rattle.conversion_theory.proofs.LedLaws.{CanCome}
use Rattle.name_order.proofs.Coming.{parent-before, waits-before, can-come}
use Rattle.sequent_convert.specs.State.{Basis, IsBasis, turn_at, turns_at, IsAwaitedBy, ComesNext}
use Rattle.sequent_convert.proofs.TurnPlaces.{turn-in, turn-is, turn-done, done-turn}
use Rattle.sequent_convert.proofs.Moving.{Coming}

module _ (B : Basis) (basis : IsBasis B) where
  above : (k : ℕ) → k < length B.named.agenda → (p : Option ℕ) × (slice_get B.named.parents k ≡ Some p)
  above k lt = get-there B.named.parents k (let n = basis.parents.count in omega (arith, n, lt))

  waited : (k : ℕ) → k < length B.named.agenda → (w : List ℕ) × (slice_get B.named.waits k ≡ Some w)
  waited k lt = get-there B.named.waits k (let n = basis.waits.count in omega (arith, n, lt))

  pub awaited-before : (k j : ℕ) → k < length B.named.agenda → IsAwaitedBy B k j → j < k
  awaited-before k j lt (inl up) = parent-before B.problem B.tableau B.named.agenda basis.agenda B.named.parents basis.parents k j (turn_at B k) (turn-in B k lt) up
  awaited-before k j lt (inr w) = let p = above k lt in waits-before B.problem B.tableau B.named.agenda basis.agenda B.named.parents basis.parents B.named.waits basis.waits k j (turn_at B k) p.0 w.0 (turn-in B k lt) p.1 w.1 w.2

  pub coming-here : Coming B
  coming-here done k all complete next =
      let lt = next.within in
      let p = above k lt in
      let w = waited k lt in
      can-come B.problem B.tableau B.named.agenda basis.agenda B.named.parents basis.parents B.named.waits basis.waits (turns_at B done) complete k (turn_at B k) p.0 w.0 (turn-in B k lt) p.1 w.1
      (λ m. next.new (turn-done B basis done k all lt m))
      (λ j y e at. subst (Among (turns_at B done)) (turn-is B j y at) (done-turn B basis done j (next.awaited j (inl (p.1 ∙ ap Some e)))))
      (λ j y c at. subst (Among (turns_at B done)) (turn-is B j y at) (done-turn B basis done j (next.awaited j (inr (w.0, w.1, c)))))
