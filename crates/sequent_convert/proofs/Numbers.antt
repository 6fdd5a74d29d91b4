-- A number of each member.
use Rattle.std.proofs.Common.{◌≡◌, ◌≢◌, ◌↔◌, ◌⊎◌, ℕ, zero, suc, None, eq-eqb, ◌+◌, ◌-◌, ◌≤◌, ◌<◌, List, [], ◌∷◌, ◌++◌, length, length-append, take, true, false, IsTrue, Some, Contains, nat_eq, refl, sym, ◌∙◌, ap, subst, inl, inr, slice_get, slice_index, arith}
use Rattle.std.proofs.lemmas.Bool.{false≢true, eqb-true}
use Rattle.std.proofs.lemmas.Option.{slice_get_within, slice_get-get_or, get_or_from_slice_get}
use Rattle.plain_laws.proofs.Options.{some-eq}
use Rattle.calculus.proofs.Members.{Among, at-contains, contains-at}
use Rattle.sequent_convert.specs.Numbers.{KeepsNumbers}

-- the number of a member
pub member-number : (numbers members : List ℕ) (k : ℕ) → KeepsNumbers numbers members → Contains members k → (i : ℕ) × (i < length members) × (slice_get members i ≡ Some k) × (slice_index numbers k ≡ suc i)
member-number numbers members k h c = let r = at-contains members k c in (r.0, slice_get_within members r.0 k r.1, r.1, h r.0 k r.1)

-- no number, or one past the end, is no member's
pub no-number : (numbers members : List ℕ) (k n : ℕ) → KeepsNumbers numbers members → n ≡ slice_index numbers k → n ≡ 0 → IsTrue false ↔ Contains members k
no-number numbers members k n h e z = (λ q. absurd (false≢true q), λ c. let r = member-number numbers members k h c in let s = r.3 in absurd (omega (arith, e, z, s)))

pub past-number : (numbers members : List ℕ) (k n : ℕ) → KeepsNumbers numbers members → n ≡ slice_index numbers k → length members < n → IsTrue false ↔ Contains members k
past-number numbers members k n h e lt = (λ q. absurd (false≢true q), λ c. let r = member-number numbers members k h c in let s = r.3 in let w = r.1 in absurd (omega (arith, e, lt, s, w)))

-- else the member at its place decides
pub number-tells : (numbers members : List ℕ) (k n x : ℕ) → KeepsNumbers numbers members → n ≡ slice_index numbers k → n ≢ 0 → slice_get members (n - 1) ≡ Some x → IsTrue (nat_eq x k) ↔ Contains members k
number-tells numbers members k n x h e some at = (
  λ q. contains-at members (n - 1) k (at ∙ ap Some (eqb-true x k q)),
  λ c.
      let r = member-number numbers members k h c in
      let s = r.3 in
      let place : n - 1 ≡ r.0 = omega (arith, e, s) in
      let same : x ≡ k = some-eq x k (sym at ∙ ap (slice_get members) place ∙ r.2) in
      subst (λ y. nat_eq x y ≡ true) same (eq-eqb x x refl),
)

-- one more member
pub numbers-push : (old new members : List ℕ) (k n : ℕ) → KeepsNumbers old members → (Contains members k → ⊥) → n ≡ length members + 1 → slice_index new k ≡ n → ((p : ℕ) → p ≢ k → slice_index new p ≡ slice_index old p) → KeepsNumbers new (members ++ k ∷ [])
numbers-push old new members k n h fresh count here others i j at = elim (where-is members i j at) [
  | inl m ↦ others j (λ e. fresh (contains-at members i k (m ∙ ap Some e))) ∙ h i j m
  | inr m ↦ ap (slice_index new) m.1 ∙ here ∙ count ∙ (let z = m.0 in omega (arith, z))
]
  where
    where-is : (xs : List ℕ) (m x : ℕ) → slice_get (xs ++ k ∷ []) m ≡ Some x → (slice_get xs m ≡ Some x) ⊎ ((m ≡ length xs) × (x ≡ k))
    where-is [] zero x q = inr (refl, sym (some-eq k x q))
    where-is [] (suc m) x q = absurd (none-some q)
      where
        none-some : {A : Type 0} {a : A} → None ≡ Some a → ⊥
        none-some z = cc
    where-is (y ∷ ys) zero x q = inl q
    where-is (y ∷ ys) (suc m) x q = elim (where-is ys m x q) [ inl r ↦ inl r | inr r ↦ inr (ap suc r.0, r.1) ]

-- numbers that change at one that is no member, or not at all
pub numbers-other : (old new members : List ℕ) (k : ℕ) → KeepsNumbers old members → (Contains members k → ⊥) → ((p : ℕ) → p ≢ k → slice_index new p ≡ slice_index old p) → KeepsNumbers new members
numbers-other old new members k h fresh others i j at = others j (λ e. fresh (contains-at members i k (at ∙ ap Some e))) ∙ h i j at

pub numbers-same : (old new members : List ℕ) → KeepsNumbers old members → ((p : ℕ) → slice_index new p ≡ slice_index old p) → KeepsNumbers new members
numbers-same old new members h same i j at = same j ∙ h i j at

-- the first members keep theirs
pub numbers-take : (numbers members : List ℕ) (n : ℕ) → KeepsNumbers numbers members → KeepsNumbers numbers (take n members)
numbers-take numbers members n h i k at = h i k (taken n members i at)
  where
    taken : (m : ℕ) (xs : List ℕ) (j : ℕ) → slice_get (take m xs) j ≡ Some k → slice_get xs j ≡ Some k
    taken zero xs j q = absurd (none-some q)
      where
        none-some : {A : Type 0} {a : A} → None ≡ Some a → ⊥
        none-some z = cc
    taken (suc m) [] j q = q
    taken (suc m) (x ∷ xs) zero q = q
    taken (suc m) (x ∷ xs) (suc j) q = taken m xs j q

pub ruleset numbering = (no-number, past-number, number-tells, numbers-push, numbers-other, numbers-same, numbers-take)
