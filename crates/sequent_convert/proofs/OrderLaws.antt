-- The turns of an instance, and what closes a literal.
use Rattle.std.proofs.Common.{◌≡◌, ℕ, zero, suc, ◌<◌, List, [], ◌∷◌, ◌++◌, map, length, drop, true, false, Some, refl, sym, ◌∙◌, ap, slice_get, arith}
use Rattle.std.proofs.lemmas.List.{length-map}
use Rattle.calculus.specs.Instances.{ClauseInstance}
use Rattle.calculus.specs.Tableaux.{Closings, instances, instances_of_all}
use Rattle.conversion_theory.specs.Turns.{turns_of_instance}
use Rattle.conversion_theory.specs.Leading.{End}
use Rattle.sequent_convert.specs.AheadView.{IsExtended, IsNotExtended, ends_instances}
use Rattle.sequent_convert.specs.Pairs.{connected_at}
use Rattle.sequent_convert.specs.State.{Basis, IsBasis, State, IsOpenRun, IsLiteralAhead}
use Rattle.sequent_convert.proofs.ComingLaws.{coming-here}
use Rattle.sequent_convert.proofs.EndsAhead.{axiom-stands, ends-stand}

pub order-length : (B : Basis) → IsBasis B → length B.named.order ≡ length (instances B.tableau)
order-length B basis =
    sym (length-map B.named.order (map (slice_get B.named.agenda)))
    ∙ ap length basis.order
    ∙ length-map (instances B.tableau) (λ i. map Some (turns_of_instance B.problem i))

pub start-ordered : (B : Basis) → IsBasis B → 0 < length B.named.order
start-ordered B basis = let n = order-length B basis in omega (arith, n)

drop-some : (xs : List ClauseInstance) (n : ℕ) (y : ClauseInstance) (ys : List ClauseInstance) → drop n xs ≡ y ∷ ys → n < length xs
drop-some [] zero y ys e = absurd (nil_cons e)
  where
    nil_cons : {A : Type 0} {a : A} {l : List A} → [] ≡ a ∷ l → ⊥
    nil_cons q = cc
drop-some [] (suc n) y ys e = absurd (nil_cons e)
  where
    nil_cons : {A : Type 0} {a : A} {l : List A} → [] ≡ a ∷ l → ⊥
    nil_cons q = cc
drop-some (x ∷ xs) zero y ys e = omega arith
drop-some (x ∷ xs) (suc n) y ys e = let lt = drop-some xs n y ys e in omega (arith, lt)

-- an extension's instance has its turns in the order
pub extension-ordered : (B : Basis) → IsBasis B → (s : State) → IsOpenRun B s → (place : ℕ) (goals : Closings) → IsExtended s.ahead.ends place goals → s.ahead.instance < length B.named.order
extension-ordered B basis s h place goals x =
    let row : drop s.ahead.instance (instances B.tableau) ≡ x.instance ∷ ((instances_of_all goals ++ ends_instances x.rest) ++ h.ahead.rest) = h.ahead.row ∙ ap (λ es. ends_instances es ++ h.ahead.rest) x.first in
    let lt = drop-some (instances B.tableau) s.ahead.instance x.instance ((instances_of_all goals ++ ends_instances x.rest) ++ h.ahead.rest) row in
    let n = order-length B basis in
    omega (arith, lt, n)

-- where the first end is no extension, some pair is an axiom
pub now-stands : (B : Basis) → IsBasis B → (s : State) → IsOpenRun B s → s.is_open ≡ true → IsLiteralAhead B s → IsNotExtended s.ahead.ends → ((j m : ℕ) → j < length s.items → m < length s.items → connected_at B.named.names s.items j m ≡ false) → ⊥
now-stands B basis s h o d now none = by_ends s.ahead.ends refl now
  where
    by_ends : (es : List End) → s.ahead.ends ≡ es → IsNotExtended es → ⊥
    by_ends [] e n = ends-stand B basis (coming-here B basis) s h o d.turn d.turns d.item d.own d.made d.shape e
    by_ends (x ∷ es) e n = axiom-stands B basis (coming-here B basis) s h o d.turn d.turns d.item d.own d.made d.shape x es e n none

pub ruleset orders = (start-ordered, extension-ordered, now-stands)
