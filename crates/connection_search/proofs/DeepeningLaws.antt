-- The loop over the path limits.
use Rattle.std.proofs.Common.{◌≡◌, ◌+◌, ◌-◌, ◌<◌, ◌≤◌, ℕ, suc, List, [], ◌++◌, length, sym, subst, arith, inl, inr}
use Rattle.std.proofs.lemmas.List.{length-append}
use Rattle.plain_laws.proofs.Every.{each-append, each-weaken}
use Rattle.calculus.specs.Syntax.{Problem}
use Rattle.calculus.specs.Tableaux.{HasClosed}
use Rattle.calculus.specs.Choices.{IsLeft}
use Rattle.calculus.specs.Counting.{AtLeastMany, MoreThan}
use Rattle.calculus.specs.Space.{ComesNoLater, IsAnswer, IsEarly, IsMember, Member, derived, exhausted, limit_of, member_cmp, no_tableau}
use Rattle.calculus.proofs.LimitLaws.{none-beyond}
use Rattle.search_theory.proofs.DeepenLaws.{PassedTo, SpentTo, answer-derived, answer-exhausted, answer-no_tableau, limits-join, member-more, passed-more, spent-none}
use Rattle.connection_search.specs.Outcomes.{IsPassed}

-- the limits up to d were searched, with the count of steps at `first` before and at `used` now
pub record DeepenedTo (P : Problem) (d first used : ℕ) : Type 0 where
  pub passed : PassedTo P d
  pub spent : List Member
  pub are_spent : SpentTo P d spent
  pub enough : used ≤ first + length spent
  pub rises : first ≤ used

pub deepened-none : (P : Problem) (used : ℕ) → DeepenedTo P 0 used used
deepened-none P used = record {
  passed = record { none = λ e a b. absurd (omega (arith, a, b)); left = λ e a b. absurd (omega (arith, a, b)) };
  spent = [];
  are_spent = spent-none P;
  enough = omega arith;
  rises = omega arith;
}

-- one limit more was searched, and is left
pub deepened-more : (P : Problem) (d first used then : ℕ) → DeepenedTo P d first used → ¬ HasClosed P (d + 1) → IsLeft P (d + 1) → used ≤ then → AtLeastMany member_cmp (IsEarly P (d + 1)) (then - used) → DeepenedTo P (d + 1) first then
deepened-more P d first used then h none left rises (xs, early, many) = record {
  passed = subst (PassedTo P) (sym next) (passed-more P d h.passed (subst (λ e. ¬ HasClosed P e) next none) (subst (IsLeft P) next left));
  spent = h.spent ++ xs;
  are_spent = record {
    rising = limits-join d h.spent xs h.are_spent.rising early.rising (each-weaken (IsMember P d) (λ m. limit_of m ≤ d) (λ m q. q.up_to) h.spent h.are_spent.members) (each-weaken (IsEarly P (d + 1)) (λ m. d < limit_of m) (λ m q. let e = q.limit in omega (arith, e)) xs early.members);
    members = each-append (IsMember P (d + 1)) h.spent xs (each-weaken (IsMember P d) (IsMember P (d + 1)) (λ m q. member-more P d (d + 1) m (omega arith) q) h.spent h.are_spent.members) (each-weaken (IsEarly P (d + 1)) (IsMember P (d + 1)) (λ m q. q.member) xs early.members);
  };
  enough = let e = length-append h.spent xs in let l = h.enough in omega (arith, e, l, many, rises);
  rises = let l = h.rises in omega (arith, l, rises);
}
  where
    next : d + 1 ≡ suc d
    next = omega arith

-- the budget ends at the next limit
pub deepened-steps : (P : Problem) (d first used budget : ℕ) → DeepenedTo P d first used → MoreThan member_cmp (IsEarly P (d + 1)) (budget - used) → IsPassed P d × MoreThan member_cmp (ComesNoLater P d) (budget - first)
deepened-steps P d first used budget h (xs, early, many) = (
  record { left = h.passed.left; none = h.passed.none },
  (
    h.spent ++ xs,
    record {
      rising = limits-join d h.spent xs h.are_spent.rising early.rising (each-weaken (IsMember P d) (λ m. limit_of m ≤ d) (λ m q. q.up_to) h.spent h.are_spent.members) (each-weaken (IsEarly P (d + 1)) (λ m. d < limit_of m) (λ m q. let e = q.limit in omega (arith, e)) xs early.members);
      members = each-append (ComesNoLater P d) h.spent xs (each-weaken (IsMember P d) (ComesNoLater P d) (λ m q. inl q) h.spent h.are_spent.members) (each-weaken (IsEarly P (d + 1)) (ComesNoLater P d) (λ m q. inr q) xs early.members);
    },
    (let e = length-append h.spent xs in let l = h.enough in omega (arith, e, l, many)),
  ),
)

pub deepened-derived : (P : Problem) (m d first used : ℕ) → DeepenedTo P d first used → d < m → HasClosed P (d + 1) → IsAnswer P m (derived (d + 1))
deepened-derived P m d first used h l c =
    let next : d + 1 ≡ suc d = omega arith in
    subst (λ e. IsAnswer P m (derived e)) (sym next) (answer-derived P m d h.passed (omega (arith, l)) (subst (HasClosed P) next c))

pub deepened-no_tableau : (P : Problem) (m d first used : ℕ) → DeepenedTo P d first used → d < m → ¬ HasClosed P (d + 1) → ¬ IsLeft P (d + 1) → IsAnswer P m (no_tableau (d + 1)) × ((e : ℕ) → ¬ HasClosed P e)
deepened-no_tableau P m d first used h l none not_left =
    let next : d + 1 ≡ suc d = omega arith in
    (subst (λ e. IsAnswer P m (no_tableau e)) (sym next) (answer-no_tableau P m d h.passed (omega (arith, l)) (subst (λ e. ¬ HasClosed P e) next none) (subst (λ e. ¬ IsLeft P e) next not_left)), none-beyond P (d + 1) not_left none)

pub deepened-exhausted : (P : Problem) (m d first used : ℕ) → DeepenedTo P d first used → 1 ≤ m → d ≡ m → IsAnswer P m (exhausted m)
deepened-exhausted P m d first used h l e = answer-exhausted P m l (subst (PassedTo P) e h.passed)
