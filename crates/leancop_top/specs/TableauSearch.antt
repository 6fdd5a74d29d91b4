-- How a search for a closed tableau ends.
use Rattle.std.specs.Prelude.{◌≡◌, ◌<◌, ◌≤◌, ℕ, IsTrue, Some}
use Rattle.calculus.specs.Syntax.{Problem}
use Rattle.calculus.specs.Tableaux.{HasClosed, Tableau, is_closed}
use Rattle.calculus.specs.Choices.{IsLeft}
use Rattle.calculus.specs.Counting.{AtMostMany, MoreThan}
use Rattle.calculus.specs.Cut.{HasCut}
use Rattle.calculus.specs.Space.{Answer, IsAnswer, ComesNoLater, IsMember, member_cmp}
use Rattle.calculus.specs.Space as space
use Rattle.command_line.specs.CommandLine.{Bounds}
use Rattle.matrix_build.specs.Fits.{FitsMatrix}
use Rattle.tableau_core.specs.Numbered.TableauView.{the_tableau}
use Rattle.leancop_top.specs.Unclosed.{IsNeverClosed, IsUnclosed}
use Rattle.leancop_top.specs.declared.tableau_search.Searched as program
use Rattle.leancop_top.specs.declared.tableau_search.Searched.TheVariants.{Found, Fruitless}
use Rattle.leancop_top.specs.declared.status.Status.{Status}
use Rattle.leancop_top.specs.declared.status.Status.TheVariants as status

-- what deepening on the path limit answers, up to the greatest limit that was asked for; a problem
-- has no other answer
pub record IsOnlyAnswer (P : Problem) (b : Bounds) (answer : Answer) : Type 0 where
  pub answers : IsAnswer P b.limit answer
  pub unique : (other : Answer) → IsAnswer P b.limit other → other ≡ answer

-- some tableau is closed within the limit, and none within a smaller one
pub record IsLeast (P : Problem) (b : Bounds) (limit : ℕ) : Type 0 where
  pub fits : FitsMatrix P
  pub answer : IsOnlyAnswer P b (space.derived limit)
  pub least : (e : ℕ) → e < limit → ¬ HasClosed P e

-- the search that does not return to solved goals was asked for, and the limit is the least one with
-- a cut, up to the greatest limit of that search and to that of all
pub record IsLeastCut (P : Problem) (b : Bounds) (limit : ℕ) : Type 0 where
  pub greatest : ℕ
  pub asked : b.cut ≡ Some greatest
  pub from_one : 1 ≤ limit
  pub up_to : limit ≤ greatest
  pub within : limit ≤ b.limit
  pub has : HasCut P limit
  pub before : (e : ℕ) → 1 ≤ e → e < limit → ¬ HasCut P e

-- where there is such a limit, the budget ended that search: the space up to it has more members
abbrev pub IsCutMissed : Problem → Bounds → Type 0
IsCutMissed P b = (e : ℕ) → IsLeastCut P b e → MoreThan member_cmp (IsMember P e) b.steps

-- why the limit of a tableau is this one; where no search that does not return to solved goals is
-- asked for, there is no limit of the second kind
pub data IsLimit (P : Problem) (b : Bounds) (limit : ℕ) : Type 0 where
  least : IsLeast P b limit → IsCutMissed P b → IsLimit P b limit
  cut : FitsMatrix P → IsLeastCut P b limit → IsLimit P b limit

-- no tableau is closed within the greatest limit, and each limit up to it is left
pub record IsExhausted (P : Problem) (b : Bounds) (limit : ℕ) : Type 0 where
  pub fits : FitsMatrix P
  pub answer : IsOnlyAnswer P b (space.exhausted limit)
  pub unclosed : IsUnclosed P limit

-- the limit is the least one that is not left, and no tableau is closed within any limit at all
pub record IsNoTableau (P : Problem) (b : Bounds) (limit : ℕ) : Type 0 where
  pub fits : FitsMatrix P
  pub answer : IsOnlyAnswer P b (space.no_tableau limit)
  pub never : IsNeverClosed P

-- the budget was `steps`; each limit up to this one is left, and no tableau is closed within it;
-- and more than `steps` members of the space up to the next limit come no later in the search than
-- any closed tableau
pub record IsStepsEnded (P : Problem) (b : Bounds) (limit steps : ℕ) : Type 0 where
  pub fits : FitsMatrix P
  pub budget : steps ≡ b.steps
  pub below : limit < b.limit
  pub left : (e : ℕ) → 1 ≤ e → e ≤ limit → IsLeft P e
  pub unclosed : IsUnclosed P limit
  pub more : MoreThan member_cmp (ComesNoLater P limit) steps
  pub missed : IsCutMissed P b

-- why a search ends without a tableau
pub data SearchEnds (P : Problem) (b : Bounds) : Status → Type 0 where
  exhausted : (limit : ℕ) → IsExhausted P b limit → SearchEnds P b (status.Exhausted limit)
  no_tableau : (limit : ℕ) → IsNoTableau P b limit → SearchEnds P b (status.NoTableau limit)
  steps_ended : (limit steps : ℕ) → IsStepsEnded P b limit steps
      → SearchEnds P b (status.StepsEnded limit steps)
  too_large : ¬ FitsMatrix P → SearchEnds P b status.MatrixTooLarge

-- a tableau that is closed within the limit, and why the limit is this one
pub record IsFound (P : Problem) (b : Bounds) (limit : ℕ) (t : Tableau) : Type 0 where
  pub limit_is : IsLimit P b limit
  pub closed : IsTrue (is_closed P limit t)

-- what a search answers
abbrev pub IsSearched : Problem → Bounds → program.Searched → Type 0
IsSearched P b (Found limit tableau) = IsFound P b limit (the_tableau tableau)
IsSearched P b (Fruitless s) = SearchEnds P b s

-- ---- bounds that suffice

-- the limit at which the search is decided
abbrev pub limit_of : Answer → ℕ
limit_of (space.derived d) = d
limit_of (space.exhausted d) = d
limit_of (space.no_tableau d) = d

-- the matrix is small enough, and the budget is at least the number of members of the space up to
-- the limit of the answer
pub record Suffices (P : Problem) (b : Bounds) : Type 0 where
  pub fits : FitsMatrix P
  pub answer : Answer
  pub answers : IsAnswer P b.limit answer
  pub enough : AtMostMany member_cmp (IsMember P (limit_of answer)) b.steps

-- the matrix is small enough, and for the search that does not return to solved goals the budget is
-- at least the number of members of the space up to the least limit with a cut
pub record SufficesForCut (P : Problem) (b : Bounds) (limit : ℕ) : Type 0 where
  pub fits : FitsMatrix P
  pub least : IsLeastCut P b limit
  pub enough : AtMostMany member_cmp (IsMember P limit) b.steps
