-- What the answers of a search and of deepening say.
use Rattle.std.specs.Prelude.{◌≡◌, ℕ, ◌<◌, ◌≤◌, true, ⊤, IsTrue}
use Rattle.calculus.specs.Syntax.{Problem}
use Rattle.calculus.specs.Tableaux.{HasClosed, is_closed}
use Rattle.calculus.specs.Choices.{IsLeft}
use Rattle.calculus.specs.Counting.{MoreThan}
use Rattle.calculus.specs.Space.{IsAnswer, ComesNoLater, derived, exhausted, no_tableau, member_cmp}
use Rattle.tableau_core.specs.Numbered.TableauView.{the_tableau}
use Rattle.connection_search.specs.declared.deepening.Answer.{Answer}
use Rattle.connection_search.specs.declared.deepening.Answer.TheVariants as answer
use Rattle.connection_search.specs.declared.searching.Outcome.{Outcome}
use Rattle.connection_search.specs.declared.searching.Outcome.TheVariants as outcome

-- a search at the limit d answers a tableau that is closed within it, or that there is none and whether the limit is left
abbrev pub IsOutcome : Problem → ℕ → Outcome → Type 0
IsOutcome P d (outcome.Closed t) = IsTrue (is_closed P d (the_tableau t))
IsOutcome P d (outcome.Empty left) = (¬ HasClosed P d) × (left ≡ true → IsLeft P d) × (IsLeft P d → left ≡ true)
IsOutcome P d outcome.Steps = ⊤

-- each limit from 1 to d is left, and no tableau is closed within any of them
pub record IsPassed (P : Problem) (d : ℕ) : Type 0 where
  pub left : (e : ℕ) → 1 ≤ e → e ≤ d → IsLeft P e
  pub none : (e : ℕ) → 1 ≤ e → e ≤ d → ¬ HasClosed P e

-- deepening up to the limit m answers as the definition of answers says; a limit that is not left ends the matter; and where the
-- budget ended, all limits up to the one that is named were searched, and `steps` are fewer than the members of the space up to the
-- next limit that come no later than any closed tableau
abbrev pub IsDeepAnswer : Problem → ℕ → ℕ → Answer → Type 0
IsDeepAnswer P m steps (answer.Closed d t) = IsAnswer P m (derived d) × IsTrue (is_closed P d (the_tableau t))
IsDeepAnswer P m steps (answer.Exhausted d) = IsAnswer P m (exhausted d)
IsDeepAnswer P m steps (answer.NoTableau d) = IsAnswer P m (no_tableau d) × ((e : ℕ) → ¬ HasClosed P e)
IsDeepAnswer P m steps (answer.Steps d) = (d < m) × IsPassed P d × MoreThan member_cmp (ComesNoLater P d) steps

-- where the budget ended
abbrev pub IfSteps : Outcome → Type 0 → Type 0
IfSteps (outcome.Closed t) Q = ⊤
IfSteps (outcome.Empty left) Q = ⊤
IfSteps outcome.Steps Q = Q

abbrev pub IfEnded : Answer → Type 0 → Type 0
IfEnded (answer.Closed d t) Q = ⊤
IfEnded (answer.Exhausted d) Q = ⊤
IfEnded (answer.NoTableau d) Q = ⊤
IfEnded (answer.Steps d) Q = Q
