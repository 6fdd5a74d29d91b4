-- Turns that are found by their keys are those of the agenda: so the places are right.
use Rattle.std.proofs.Common.{◌≡◌, ℕ, ◌<◌, List, [], ◌∷◌, ◌++◌, length, map, Bool, true, false, nat_lt, IsSome, Some, position, slice_get, get_or, arith, refl, sym, ◌∙◌, ap, subst, inl, inr, append-nil, append_assoc}
use Rattle.std.specs.List.{AllByRecursion, IsDistinct, position_or_len, list_any}
use Rattle.std.proofs.lemmas.Bool.{true≢false}
use Rattle.std.proofs.lemmas.Bool.Decides.{nat_tests}
use Rattle.std.proofs.lemmas.List.Quantifiers.{position-Some}
use Rattle.std.proofs.lemmas.Option.{slice_get-get_or}
use Rattle.std.proofs.lemmas.Map.Keys.{IsDistinct-head, IsDistinct-tail}
use Rattle.calculus.specs.Instances.{Turn}
use Rattle.calculus.proofs.Members.{Among, among-all, among-append, joined-among, all-among}
use Rattle.name_order.specs.Arranged.{joined}
use Rattle.name_order.specs.Found.{find_in}
use Rattle.name_order.specs.Keeping.{keep_all, turn_eq}
use Rattle.name_order.specs.Words.{words_eq, words_of_turn}
use Rattle.name_order.proofs.Arranging.{turn_eq-tells}
use Rattle.name_order.proofs.KeepingLaws.{any-among}
use Rattle.name_order.proofs.NumberOrder.{at-map}
use Rattle.name_order.proofs.WordLaws.{words_eq-tells, words_of_turn-inj}

-- ---- positions in a list

at-get : {A : Type 0} (xs : List A) (i : ℕ) (d : A) → i < length xs → slice_get xs i ≡ Some (get_or xs i d)
at-get xs i d h = slice_get-get_or xs i d h

position-at : {A : Type 0} (p : A → Bool) (xs : List A) (i : ℕ) (d : A) → position p xs ≡ Some i → (x : A) × (slice_get xs i ≡ Some x) × (p x ≡ true)
position-at p xs i d e = let r = position-Some p xs i d e in (get_or xs i d, at-get xs i d r.0, r.1)

before-step : {A : Type 0} (p : A → Bool) (y : A) (ys : List A) (b : Bool) → p y ≡ b → position_or_len p ys < length ys → position_or_len p (y ∷ ys) < length (y ∷ ys)
before-step p y ys true t r = rw t (omega arith)
before-step p y ys false t r = rw t (omega (arith, r))

before-end : {A : Type 0} (p : A → Bool) (xs : List A) (x : A) → Among xs x → p x ≡ true → position_or_len p xs < length xs
before-end p [] x h e = elim h [ ]
before-end p (y ∷ ys) x (inl s) e = let t : p y ≡ true = ap p s ∙ e in rw t (omega arith)
before-end p (y ∷ ys) x (inr h) e = before-step p y ys (p y) refl (before-end p ys x h e)

position-found : {A : Type 0} (p : A → Bool) (xs : List A) (x : A) → Among xs x → p x ≡ true → (i : ℕ) × (position p xs ≡ Some i)
position-found p xs x h e = let lt = before-end p xs x h e in let t : nat_lt (position_or_len p xs) (length xs) ≡ true = grind (arith, nat_tests) in (position_or_len p xs, rw t refl)

-- ---- the keys of an agenda

pub found-at : (agenda : List Turn) (keys : List (List ℕ)) → keys ≡ map words_of_turn agenda → (x : Turn) (i : ℕ) → find_in keys x ≡ Some i → slice_get agenda i ≡ Some x
found-at agenda keys k x i e =
    let r = position-at (words_eq (words_of_turn x)) keys i [] e in
    let same : words_of_turn x ≡ r.0 = (words_eq-tells (words_of_turn x) r.0).0 r.2 in
    let m = at-map words_of_turn agenda i r.0 (subst (λ ks. slice_get ks i ≡ Some r.0) k r.1) in
    m.1 ∙ ap Some (words_of_turn-inj m.0 x (m.2 ∙ sym same))

among-map : {A B : Type 0} (f : A → B) (xs : List A) (x : A) → Among xs x → Among (map f xs) (f x)
among-map f [] x h = elim h [ ]
among-map f (y ∷ ys) x (inl e) = inl (ap f e)
among-map f (y ∷ ys) x (inr h) = inr (among-map f ys x h)

pub found-some : (agenda : List Turn) (keys : List (List ℕ)) → keys ≡ map words_of_turn agenda → (x : Turn) → Among agenda x → (i : ℕ) × (find_in keys x ≡ Some i)
found-some agenda keys k x h = position-found (words_eq (words_of_turn x)) keys (words_of_turn x) (subst (λ ks. Among ks (words_of_turn x)) (sym k) (among-map words_of_turn agenda x h)) ((words_eq-tells (words_of_turn x) (words_of_turn x)).1 refl)

-- turns once each keep their order
pub kept-all : (ks xs : List Turn) → IsDistinct turn_eq xs → ((x : Turn) → Among xs x → Among ks x → ⊥) → keep_all turn_eq ks xs ≡ ks ++ xs
kept-all ks [] d h = sym (append-nil ks)
kept-all ks (x ∷ xs) d h = by (list_any (turn_eq x) ks) refl (kept-all (ks ++ x ∷ []) xs (IsDistinct-tail turn_eq x xs d) apart)
  where
    apart : (y : Turn) → Among xs y → Among (ks ++ x ∷ []) y → ⊥
    apart y i j = elim (among-append ks (x ∷ []) y j) [
      | inl k ↦ h y (inr i) k
      | inr k ↦ elim k [
        | inl e ↦ true≢false (sym ((turn_eq-tells x y).1 e) ∙ among-all (λ z. turn_eq x z ≡ false) xs y (IsDistinct-head turn_eq x xs d) i)
        | inr n ↦ n
      ]
    ]

    by : (b : Bool) → list_any (turn_eq x) ks ≡ b → keep_all turn_eq (ks ++ x ∷ []) xs ≡ (ks ++ x ∷ []) ++ xs → keep_all turn_eq ks (x ∷ xs) ≡ ks ++ x ∷ xs
    by true e r = absurd (h x (inl refl) (any-among turn_eq turn_eq-tells ks x e))
    by false e r = rw e (r ∙ append_assoc ks (x ∷ []) xs)

-- ---- the order

pub all-known : (agenda : List Turn) (keys : List (List ℕ)) (lists : List (List Turn)) → keys ≡ map words_of_turn agenda → ((x : Turn) → Among (joined lists) x → Among agenda x) → AllByRecursion (λ ts. AllByRecursion (λ x. IsSome (find_in keys x)) ts) lists
all-known agenda keys lists k h = all-among (λ ts. AllByRecursion (λ x. IsSome (find_in keys x)) ts) lists (λ ts i. all-among (λ x. IsSome (find_in keys x)) ts (λ x j. let r = found-some agenda keys k x (h x (joined-among (λ us. us) lists ts x i j)) in subst IsSome (sym r.1) refl))

found-list : (agenda : List Turn) (keys : List (List ℕ)) → keys ≡ map words_of_turn agenda → (xs : List Turn) (ns : List ℕ) → map (find_in keys) xs ≡ map Some ns → map (slice_get agenda) ns ≡ map Some xs
found-list agenda keys k [] [] e = refl
found-list agenda keys k [] (n ∷ ns) e = absurd cc
found-list agenda keys k (x ∷ xs) [] e = absurd cc
found-list agenda keys k (x ∷ xs) (n ∷ ns) e =
    let here : find_in keys x ≡ Some n = cc in
    let rest : map (find_in keys) xs ≡ map Some ns = cc in
    let a = found-at agenda keys k x n here in
    let b = found-list agenda keys k xs ns rest in
    rw (a, b) refl

pub found-lists : (agenda : List Turn) (keys : List (List ℕ)) → keys ≡ map words_of_turn agenda → (lists : List (List Turn)) (order : List (List ℕ)) → map (map (find_in keys)) lists ≡ map (map Some) order → map (map (slice_get agenda)) order ≡ map (map Some) lists
found-lists agenda keys k [] [] e = refl
found-lists agenda keys k [] (n ∷ ns) e = absurd cc
found-lists agenda keys k (x ∷ xs) [] e = absurd cc
found-lists agenda keys k (x ∷ xs) (n ∷ ns) e =
    let here : map (find_in keys) x ≡ map Some n = cc in
    let rest : map (map (find_in keys)) xs ≡ map (map Some) ns = cc in
    let a = found-list agenda keys k x n here in
    let b = found-lists agenda keys k xs ns rest in
    rw (a, b) refl
