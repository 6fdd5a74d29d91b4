-- What is found.
use Rattle.std.specs.Prelude.{ℕ, List}
use Rattle.calculus.specs.Syntax.{Problem}
use Rattle.calculus.specs.Tableaux.{Tableau}
use Rattle.calculus.specs.TableauText.{IsClosedText}

-- the bytes are the text of a tableau of the problem that is closed within the limit that they state
pub record IsFoundText (P : Problem) (bytes : List ℕ) : Type 0 where
  pub tableau : Tableau
  pub limit : ℕ
  pub text : IsClosedText P tableau limit bytes
