-- What the search that does not return to solved goals answers over the limits.
use Rattle.std.specs.Prelude.{◌≡◌, ◌⊎◌, ℕ, ◌<◌, ◌≤◌, List, ⊤}
use Rattle.calculus.specs.Choices.{Choice}
use Rattle.calculus.specs.Counting.{MoreThan}
use Rattle.calculus.specs.Cut.{HasCut, IsCut}
use Rattle.calculus.specs.Space.{IsMember, member_cmp}
use Rattle.calculus.specs.Syntax.{Problem}
use Rattle.calculus.specs.declared.sign.Side.{Side}
use Rattle.tableau_core.specs.Numbered.TableauView.{the_tableau}
use Rattle.connection_search.specs.declared.cutting.CutAnswer.{CutAnswer}
use Rattle.connection_search.specs.declared.cutting.CutAnswer.TheVariants as answer

-- no limit before d has a cut
abbrev pub HasNoCutBefore : Problem → ℕ → Type 0
HasNoCutBefore P d = (e : ℕ) → 1 ≤ e → e < d → ¬ HasCut P e

-- e is the least limit up to m that has a cut, or m where none has one
pub record IsCutLimit (P : Problem) (m e : ℕ) : Type 0 where
  pub from_one : 1 ≤ e
  pub up_to : e ≤ m
  pub before : HasNoCutBefore P e
  pub last : HasCut P e ⊎ (e ≡ m)

-- the least limit with a cut and its tableau, or none up to m has one; where the budget ended, the space up to that limit has more
-- members than these steps
abbrev pub IsCutAnswer : Problem → ℕ → ℕ → CutAnswer → Type 0
IsCutAnswer P m steps (answer.Closed d t) = (1 ≤ d) × (d ≤ m) × HasNoCutBefore P d × ((c : List Choice) × (sides : List Side) × IsCut P d c sides (the_tableau t))
IsCutAnswer P m steps answer.Open = (e : ℕ) → 1 ≤ e → e ≤ m → ¬ HasCut P e
IsCutAnswer P m steps answer.Steps = (e : ℕ) → IsCutLimit P m e → MoreThan member_cmp (IsMember P e) steps

abbrev pub IfCutEnded : CutAnswer → Type 0 → Type 0
IfCutEnded (answer.Closed d t) Q = ⊤
IfCutEnded answer.Open Q = ⊤
IfCutEnded answer.Steps Q = Q
