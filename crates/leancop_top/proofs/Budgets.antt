-- A budget of as many steps as the space has members, up to the limit of the answer, is not used up.
use Rattle.std.proofs.Common.{ℕ, ◌+◌, ◌<◌, ◌≤◌, List, [], ◌∷◌, inl, inr, arith}
use Rattle.std.specs.List.{AllByRecursion}
use Rattle.std.proofs.lemmas.Bool.{cases_lt}
use Rattle.calculus.specs.Syntax.{Problem}
use Rattle.calculus.specs.Choices.{IsLeft}
use Rattle.calculus.specs.Counting.{AtMostMany}
use Rattle.calculus.specs.Space.{Answer, derived, exhausted, no_tableau, IsAnswer, Member, IsMember}
use Rattle.calculus.specs.Space.{ComesNoLater, member_cmp}
use Rattle.calculus.specs.Tableaux.{HasClosed}
use Rattle.calculus.proofs.AnswerLaws.{closed-mono}
use Rattle.command_line.specs.CommandLine.{Bounds}
use Rattle.leancop_top.specs.TableauSearch.{IsStepsEnded, limit_of}

-- ---- members up to a limit are members up to a greater one

member-up : (P : Problem) (d e : ℕ) (m : Member) → d ≤ e → IsMember P d m → IsMember P e m
member-up P d e m le h = record { from_one = h.from_one; up_to = omega (arith, h.up_to); reached = h.reached }

no_later-member : (P : Problem) (d e : ℕ) (m : Member) → d + 1 ≤ e → ComesNoLater P d m → IsMember P e m
no_later-member P d e m le (inl h) = member-up P d e m (omega arith) h
no_later-member P d e m le (inr h) = member-up P (d + 1) e m le h.member

all-members : (P : Problem) (d e : ℕ) (ms : List Member) → d + 1 ≤ e → AllByRecursion (ComesNoLater P d) ms → AllByRecursion (IsMember P e) ms
all-members P d e [] le h = tt
all-members P d e (m ∷ ms) le h = (no_later-member P d e m le h.0, all-members P d e ms le h.1)

-- ---- the limit of the answer is behind the limits that were passed

record IsPassed (P : Problem) (d : ℕ) : Type 0 where
  left : (e : ℕ) → 1 ≤ e → e ≤ d → IsLeft P e
  none : ¬ HasClosed P d

behind : (P : Problem) (m d : ℕ) → d < m → IsPassed P d → (a : Answer) → IsAnswer P m a → d + 1 ≤ limit_of a
behind P m d less p (derived e) h = elim (cases_lt d e) [
  | inl after ↦ omega arith
  | inr before ↦ absurd (p.none (closed-mono P e d before h.2))
]
behind P m d less p (exhausted e) h = omega (arith, h.0)
behind P m d less p (no_tableau e) h = elim (cases_lt d e) [
  | inl after ↦ omega arith
  | inr before ↦ absurd (h.3 (p.left e h.0 before))
]

pub not_steps_ended : (P : Problem) (b : Bounds) (d steps : ℕ) (a : Answer) → IsAnswer P b.limit a → AtMostMany member_cmp (IsMember P (limit_of a)) b.steps → IsStepsEnded P b d steps → ⊥
not_steps_ended P b d steps a h enough s =
    let le = behind P b.limit d s.below (record { left = s.left; none = s.unclosed.none }) a h in
    let many = s.more in
    let most = enough many.0 (record { rising = many.1.rising; members = all-members P d (limit_of a) many.0 le many.1.members }) in
    absurd (omega (arith, most, many.2, s.budget))
