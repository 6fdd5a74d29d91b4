-- What the functions of the loop ask of its state.
use Rattle.std.proofs.Common.{◌≡◌, ℕ, zero, suc, ◌+◌, ◌≤◌, ◌<◌, List, [], ◌∷◌, length, get_or, take, Some, true, false, if◌then◌else◌, refl, sym, ◌∙◌, ap, subst, slice_get, slice_index_or, inl, Bool, add-one, arith}
use Rattle.std.specs.List.{AllByRecursion}
use Rattle.std.proofs.lemmas.List.{length-map}
use Rattle.conversion_theory.specs.Leading.{is_literal_position, literals_among}
use Rattle.calculus.proofs.Members.{contains-at}
use Rattle.conversion_theory.proofs.RunLaws.{branch}
use Rattle.conversion_theory.proofs.LoopMeasures.{leads-turns}
use Rattle.sequent_convert.specs.State.{Basis, IsBasis, State, turn_at, turns_at, IsOpenRun, IsFirst}
use Rattle.sequent_convert.proofs.TurnPlaces.{turn-in}
use Rattle.sequent_convert.proofs.ComingLaws.{awaited-before}

-- ---- what is ahead

pub some-ahead : (B : Basis) (s : State) → IsOpenRun B s → 0 < length s.ahead.turns
some-ahead B s h =
    let n = leads-turns B.problem B.limit B.tableau B.named.names (branch s.items (turns_at B s.done)) (turns_at B s.ahead.turns) s.ahead.ends h.leading.kept.0.leads in
    let m = length-map s.ahead.turns (turn_at B) in
    omega (arith, n, m)

pub head-of : (xs : List ℕ) (x : ℕ) → 0 < length xs → x ≡ get_or xs 0 x → (ks : List ℕ) × (xs ≡ x ∷ ks)
head-of [] x lt e = absurd (omega (arith, lt))
head-of (y ∷ ys) x lt e = (ys, λ i. sym e i ∷ ys)

pub first-ahead : (B : Basis) (s : State) → IsOpenRun B s → IsFirst s (slice_index_or s.ahead.turns 0 0)
first-ahead B s h = let lt = some-ahead B s h in of_list s.ahead.turns lt
  where
    of_list : (xs : List ℕ) → 0 < length xs → (ks : List ℕ) × (xs ≡ slice_index_or xs 0 0 ∷ ks)
    of_list [] lt = absurd (omega (arith, lt))
    of_list (y ∷ ys) lt = (ys, refl)

pub head-within : (B : Basis) (s : State) → IsOpenRun B s → (k : ℕ) (ks : List ℕ) → s.ahead.turns ≡ k ∷ ks → k < length B.named.agenda
head-within B s h k ks e = (subst (AllByRecursion (λ j. j < length B.named.agenda)) e h.ahead.within).0

pub first-within : (B : Basis) (s : State) → IsOpenRun B s → (k : ℕ) → IsFirst s k → k < length B.named.agenda
first-within B s h k f = head-within B s h k f.0 f.1

-- ---- the tables

pub parents-within : (B : Basis) → IsBasis B → (k : ℕ) → k < length B.named.agenda → k < length B.named.parents
parents-within B basis k lt = let n = basis.parents.count in omega (arith, n, lt)

pub waits-within : (B : Basis) → IsBasis B → (k : ℕ) → k < length B.named.agenda → k < length B.named.waits
waits-within B basis k lt = let n = basis.waits.count in omega (arith, n, lt)

pub parent-within : (B : Basis) → IsBasis B → (k j : ℕ) → k < length B.named.agenda → slice_get B.named.parents k ≡ Some (Some j) → j < length B.named.agenda
parent-within B basis k j lt up = let n = awaited-before B basis k j lt (inl up) in omega (arith, n, lt)

pub atoms-within : (B : Basis) → IsBasis B → (k : ℕ) → k < length B.named.agenda → slice_get B.atoms (turn_at B k).position ≡ Some (is_literal_position B.problem (turn_at B k).position)
atoms-within B basis k lt = basis.atoms (turn_at B k) (contains-at B.named.agenda k (turn_at B k) (turn-in B k lt))

-- one more turn
literals-next : (B : Basis) (ks : List ℕ) (i k : ℕ) → i < length ks → k ≡ get_or ks i 0 → literals_among B.problem (turns_at B (take (suc i) ks)) ≡ literals_among B.problem (turns_at B (take i ks)) + (if is_literal_position B.problem (turn_at B k).position then 1 else 0)
literals-next B [] i k lt e = absurd (omega (arith, lt))
literals-next B (x ∷ xs) zero k lt e = let same : (if is_literal_position B.problem (turn_at B x).position then 1 else 0) ≡ (if is_literal_position B.problem (turn_at B k).position then 1 else 0) = ap {B = ℕ} (λ j. if is_literal_position B.problem (turn_at B j).position then 1 else 0) (sym e) in omega (arith, same)
literals-next B (x ∷ xs) (suc i) k lt e = let r = literals-next B xs i k (omega (arith, lt)) e in omega (arith, r)

pub literals-step : (B : Basis) (ks : List ℕ) (i k : ℕ) → i < length ks → k ≡ get_or ks i 0 → literals_among B.problem (turns_at B (take (i + 1) ks)) ≡ literals_among B.problem (turns_at B (take i ks)) + (if is_literal_position B.problem (turn_at B k).position then 1 else 0)
literals-step B ks i k lt e = ap (λ n. literals_among B.problem (turns_at B (take n ks))) (add-one i) ∙ literals-next B ks i k lt e

-- the count of the literals so far
pub count-step : (B : Basis) (ks : List ℕ) (i k count more : ℕ) → i < length ks → k ≡ get_or ks i 0 → count ≡ literals_among B.problem (turns_at B (take i ks)) → count ≤ i → more ≡ (if is_literal_position B.problem (turn_at B k).position then 1 else 0) → (count + more ≡ literals_among B.problem (turns_at B (take (i + 1) ks))) × (count + more ≤ i + 1)
count-step B ks i k count more lt e c le m =
    let s = literals-step B ks i k lt e in
    let one = at_most (is_literal_position B.problem (turn_at B k).position) in
    (omega (arith, s, c, m), omega (arith, le, m, one))
  where
    at_most : (b : Bool) → (if b then 1 else 0) ≤ 1
    at_most true = omega arith
    at_most false = omega arith

pub item-within : (ks : List ℕ) (n i : ℕ) → AllByRecursion (λ k. k < n) ks → i < length ks → get_or ks i 0 < n
item-within [] n i h lt = absurd (omega (arith, lt))
item-within (k ∷ ks) n zero h lt = h.0
item-within (k ∷ ks) n (suc i) h lt = item-within ks n i h.1 (omega (arith, lt))
