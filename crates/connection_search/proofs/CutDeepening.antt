-- The loop over the limits of the search that does not return to solved goals.
use Rattle.std.proofs.Common.{◌≡◌, ◌⊎◌, ◌+◌, ◌-◌, ◌<◌, ◌≤◌, ℕ, suc, List, [], ◌++◌, length, Bool, false, sym, subst, arith, inl, inr}
use Rattle.std.specs.List.{AllByRecursion}
use Rattle.std.proofs.lemmas.Bool.{cases_lt}
use Rattle.std.proofs.lemmas.List.{length-append}
use Rattle.plain_laws.proofs.Every.{each-append, each-weaken}
use Rattle.calculus.specs.Counting.{AtLeastMany, IsRisingListOf, MoreThan}
use Rattle.calculus.specs.Cut.{HasCut}
use Rattle.calculus.specs.Space.{IsMember, Member, limit_of, member_cmp}
use Rattle.calculus.specs.Syntax.{Problem}
use Rattle.search_theory.specs.Cutting.{IsToldOf}
use Rattle.search_theory.specs.Exploring.{IsMemberAt}
use Rattle.search_theory.proofs.DeepenLaws.{SpentTo, limits-join, member-more, spent-none}
use Rattle.connection_search.specs.CutOutcomes.{HasNoCutBefore, IsCutLimit}
use Rattle.connection_search.specs.Cutting.{IsCountedAt}

-- the limits up to d were searched and have no cut, with the count of steps at `first` before and at `used` now
pub record CutTo (P : Problem) (d first used : ℕ) : Type 0 where
  pub none : (e : ℕ) → 1 ≤ e → e ≤ d → ¬ HasCut P e
  pub spent : List Member
  pub are_spent : SpentTo P d spent
  pub enough : used ≤ first + length spent
  pub rises : first ≤ used

pub cut-to-none : (P : Problem) (used : ℕ) → CutTo P 0 used used
cut-to-none P used = record { none = λ e a b. absurd (omega (arith, a, b)); spent = []; are_spent = spent-none P; enough = omega arith; rises = omega arith }

-- members of the next limit come behind
spent-joined : (P : Problem) (d : ℕ) (spent xs : List Member) → SpentTo P d spent → IsRisingListOf member_cmp (IsMemberAt P (d + 1)) xs → SpentTo P (d + 1) (spent ++ xs)
spent-joined P d spent xs h k = record {
  rising = limits-join d spent xs h.rising k.rising (each-weaken (IsMember P d) (λ m. limit_of m ≤ d) (λ m q. q.up_to) spent h.members) (each-weaken (IsMemberAt P (d + 1)) (λ m. d < limit_of m) (λ m q. let e = q.limit in omega (arith, e)) xs k.members);
  members = each-append (IsMember P (d + 1)) spent xs (each-weaken (IsMember P d) (IsMember P (d + 1)) (λ m q. member-more P d (d + 1) m (omega arith) q) spent h.members) (each-weaken (IsMemberAt P (d + 1)) (IsMember P (d + 1)) (λ m q. q.member) xs k.members);
}

pub cut-to-more : (P : Problem) (d first used after : ℕ) → CutTo P d first used → ¬ HasCut P (d + 1) → IsCountedAt P (d + 1) used after → CutTo P (d + 1) first after
cut-to-more P d first used after h none (rises, (xs, are, many)) = record {
  none = λ e a b. elim (cases_lt e (d + 1)) [
    | inl less ↦ h.none e a (omega (arith, less))
    | inr far ↦ (let q : d + 1 ≡ e = omega (arith, far, b) in subst (λ k. ¬ HasCut P k) q none)
  ];
  spent = h.spent ++ xs;
  are_spent = spent-joined P d h.spent xs h.are_spent are;
  enough = let e = length-append h.spent xs in let l = h.enough in omega (arith, e, l, many, rises);
  rises = let l = h.rises in omega (arith, l, rises);
}

-- the least limit with a cut is none of these, nor is it the greatest one
limit-beyond : (P : Problem) (d m e : ℕ) → ((k : ℕ) → 1 ≤ k → k ≤ d → ¬ HasCut P k) → d < m → IsCutLimit P m e → d + 1 ≤ e
limit-beyond P d m e none l h = elim (cases_lt d e) [
  | inl less ↦ omega (arith, less)
  | inr far ↦ elim h.last [
    | inl c ↦ absurd (none e h.from_one far c)
    | inr q ↦ absurd (omega (arith, q, far, l))
  ]
]

all-more : (P : Problem) (d e : ℕ) (xs : List Member) → d ≤ e → AllByRecursion (IsMember P d) xs → AllByRecursion (IsMember P e) xs
all-more P d e xs l h = each-weaken (IsMember P d) (IsMember P e) (λ m q. member-more P d e m l q) xs h

-- a limit was searched, whatever it came to
pub cut-to-counted : (P : Problem) (d m e first used after : ℕ) → CutTo P d first used → d < m → IsCutLimit P m e → IsCountedAt P (d + 1) used after → AtLeastMany member_cmp (IsMember P e) (after - first)
cut-to-counted P d m e first used after h l k (rises, (xs, are, many)) =
    let s = spent-joined P d h.spent xs h.are_spent are in
    let q = length-append h.spent xs in
    let n = h.enough in
    (h.spent ++ xs, record { rising = s.rising; members = all-more P (d + 1) e (h.spent ++ xs) (limit-beyond P d m e h.none l k) s.members }, omega (arith, q, n, many, rises))

-- the budget ended there
pub cut-to-steps : (P : Problem) (d m e first used budget : ℕ) → CutTo P d first used → d < m → IsCutLimit P m e → MoreThan member_cmp (IsMemberAt P (d + 1)) (budget - used) → MoreThan member_cmp (IsMember P e) (budget - first)
cut-to-steps P d m e first used budget h l k (xs, are, many) =
    let s = spent-joined P d h.spent xs h.are_spent are in
    let q = length-append h.spent xs in
    let n = h.enough in
    (h.spent ++ xs, record { rising = s.rising; members = all-more P (d + 1) e (h.spent ++ xs) (limit-beyond P d m e h.none l k) s.members }, omega (arith, q, n, many))

-- all limits were searched
pub cut-to-all : (P : Problem) (m e first used : ℕ) → CutTo P m first used → IsCutLimit P m e → AtLeastMany member_cmp (IsMember P e) (used - first)
cut-to-all P m e first used h k =
    let same : e ≡ m = elim k.last [
      | inl c ↦ absurd (h.none e k.from_one k.up_to c)
      | inr q ↦ q
    ] in
    let n = h.enough in
    (h.spent, record { rising = h.are_spent.rising; members = subst (λ i. AllByRecursion (IsMember P i) h.spent) (sym same) h.are_spent.members }, omega (arith, n))

-- no limit before the next one has a cut
pub none-before : (P : Problem) (d first used : ℕ) → CutTo P d first used → HasNoCutBefore P (d + 1)
none-before P d first used h e a b = h.none e a (omega (arith, b))

-- no limit at all has one, where the next one is searched and nothing shows that it is left
pub none-beyond : (P : Problem) (d e first used : ℕ) (left : Bool) → CutTo P d first used → left ≡ false → ((k : ℕ) → IsToldOf (d + 1) left k → ¬ HasCut P k) → 1 ≤ e → ¬ HasCut P e
none-beyond P d e first used left h not none a = elim (cases_lt e (d + 1)) [
  | inl less ↦ h.none e a (omega (arith, less))
  | inr far ↦ none e (inr (far, not))
]
