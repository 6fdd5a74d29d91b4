-- The invariant of the search's loop at one limit.
use Rattle.std.specs.Prelude.{◌≡◌, ℕ, List, Bool, true, false}
use Rattle.calculus.specs.Syntax.{Problem}
use Rattle.calculus.specs.Choices.{Choice, IsLeft}
use Rattle.calculus.specs.Space.{Member}
use Rattle.search_theory.specs.Exploring.{Covers, IsLeftList, Explores}

-- steps were spent for these members, these lists are pending, and `left` tells whether the limit is known to be left: where it is not,
-- each tree that shows it has a list behind a pending one
pub record IsSearch (P : Problem) (d : ℕ) (spent : List Member) (pending : List (List Choice)) (left : Bool) : Type 0 where
  pub explores : Explores P d spent pending
  pub is_left : left ≡ true → IsLeft P d
  pub not_left : left ≡ false → Covers (IsLeftList P d) pending
