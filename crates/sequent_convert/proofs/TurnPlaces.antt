-- Turns by their places in the agenda.
use Rattle.std.proofs.Common.{◌≡◌, ◌⊎◌, ℕ, zero, suc, ◌+◌, ◌≤◌, ◌<◌, List, [], ◌∷◌, ◌++◌, map, length, take, drop, Some, None, Contains, refl, sym, ◌∙◌, ap, subst, inl, inr, slice_get, arith}
use Rattle.std.specs.List.{AllByRecursion}
use Rattle.std.proofs.lemmas.List.{map_push, take-map}
use Rattle.std.proofs.lemmas.Option.{slice_get-get_or, get_or_from_slice_get, slice_get_within}
use Rattle.plain_laws.proofs.Options.{none_some, some_injective}
use Rattle.calculus.specs.Instances.{Turn, ClauseInstance}
use Rattle.calculus.specs.Tableaux.{instances}
use Rattle.conversion_theory.specs.Turns.{turns_of, turns_of_instance}
use Rattle.calculus.proofs.Members.{Among, among-contains, contains-at, contains-among, at-contains, at-among, among-at, among-all, all-among, among-append}
use Rattle.conversion_theory.proofs.AgendaLaws.{TurnOf}
use Rattle.sequent_convert.specs.State.{Basis, IsBasis, no_turn, turn_at, turns_at}

-- ---- lists

pub all-take : {A : Type 0} (Q : A → Type 0) (n : ℕ) (xs : List A) → AllByRecursion Q xs → AllByRecursion Q (take n xs)
all-take Q zero xs h = tt
all-take Q (suc n) [] h = tt
all-take Q (suc n) (x ∷ xs) h = (h.0, all-take Q n xs h.1)

pub all-drop : {A : Type 0} (Q : A → Type 0) (n : ℕ) (xs : List A) → AllByRecursion Q xs → AllByRecursion Q (drop n xs)
all-drop Q zero xs h = h
all-drop Q (suc n) [] h = tt
all-drop Q (suc n) (x ∷ xs) h = all-drop Q n xs h.1

pub among-map : {A C : Type 0} (f : A → C) (xs : List A) (x : A) → Among xs x → Among (map f xs) (f x)
among-map f [] x h = elim h [ ]
among-map {A} {C} f (y ∷ ys) x (inl e) = inl (ap f e)
among-map f (y ∷ ys) x (inr h) = inr (among-map f ys x h)

pub map-among : {A C : Type 0} (f : A → C) (xs : List A) (z : C) → Among (map f xs) z → (x : A) × Among xs x × (f x ≡ z)
map-among f [] z h = elim h [ ]
map-among f (y ∷ ys) z (inl e) = (y, inl refl, e)
map-among f (y ∷ ys) z (inr h) = let r = map-among f ys z h in (r.0, inr r.1, r.2)

-- ---- places

module _ (B : Basis) where
  pub turn-in : (k : ℕ) → k < length B.named.agenda → slice_get B.named.agenda k ≡ Some (turn_at B k)
  turn-in k lt = slice_get-get_or B.named.agenda k no_turn lt

  pub turn-is : (k : ℕ) (x : Turn) → slice_get B.named.agenda k ≡ Some x → turn_at B k ≡ x
  turn-is k x e = get_or_from_slice_get B.named.agenda k x no_turn e

  pub turns-push : (ks : List ℕ) (k : ℕ) → turns_at B (ks ++ k ∷ []) ≡ turns_at B ks ++ turn_at B k ∷ []
  turns-push ks k = map_push (turn_at B) ks k

  -- places whose turns are these
  pub turns-are : (ks : List ℕ) (xs : List Turn) → map (slice_get B.named.agenda) ks ≡ map Some xs → (turns_at B ks ≡ xs) × AllByRecursion (λ k. k < length B.named.agenda) ks
  turns-are [] [] e = (refl, tt)
  turns-are [] (x ∷ xs) e = absurd (nil_cons e)
    where
      nil_cons : {A : Type 0} {a : A} {l : List A} → [] ≡ a ∷ l → ⊥
      nil_cons q = cc
  turns-are (k ∷ ks) [] e = absurd (cons_nil e)
    where
      cons_nil : {A : Type 0} {a : A} {l : List A} → a ∷ l ≡ [] → ⊥
      cons_nil q = cc
  turns-are (k ∷ ks) (x ∷ xs) e =
      let head : slice_get B.named.agenda k ≡ Some x = cc in
      let tail : map (slice_get B.named.agenda) ks ≡ map Some xs = cc in
      let r = turns-are ks xs tail in
      let first = turn-is k x head in
      ((λ i. first i ∷ r.0 i), (slice_get_within B.named.agenda k x head, r.1))

  module _ (basis : IsBasis B) where
    pub turn-of : (k : ℕ) → k < length B.named.agenda → TurnOf B.problem B.tableau (turn_at B k)
    turn-of k lt = among-contains (turns_of B.problem B.tableau) (turn_at B k) ((basis.agenda.all (turn_at B k)).1 (contains-at B.named.agenda k (turn_at B k) (turn-in k lt)))

    pub listed : (k : ℕ) → k < length B.named.agenda → Among B.named.agenda (turn_at B k)
    listed k lt = among-at B.named.agenda k (turn_at B k) (turn-in k lt)

    -- one place for each turn
    pub same-place : (j k : ℕ) → j < length B.named.agenda → k < length B.named.agenda → turn_at B j ≡ turn_at B k → j ≡ k
    same-place j k lj lk e = basis.agenda.once j k (turn_at B j) (turn-in j lj) (turn-in k lk ∙ ap Some (sym e))

    pub done-turn : (done : List ℕ) (k : ℕ) → Contains done k → Among (turns_at B done) (turn_at B k)
    done-turn done k h = among-map (turn_at B) done k (among-contains done k h)

    pub turn-done : (done : List ℕ) (k : ℕ) → AllByRecursion (λ j. j < length B.named.agenda) done → k < length B.named.agenda → Among (turns_at B done) (turn_at B k) → Contains done k
    turn-done done k all lt h =
        let r = map-among (turn_at B) done (turn_at B k) h in
        contains-among done k (subst (Among done) (same-place r.0 k (among-all (λ j. j < length B.named.agenda) done r.0 all r.1) lt r.2) r.1)
