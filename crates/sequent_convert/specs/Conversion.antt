-- What the conversion of a closed tableau answers.
use Rattle.std.specs.Prelude.{◌≡◌, ℕ, IsTrue}
use Rattle.calculus.specs.Syntax.{Problem}
use Rattle.calculus.specs.Derivations.{Derivation}
use Rattle.calculus.specs.Calculus.{Derives}
use Rattle.calculus.specs.DerivationText.{is_printable}

-- the derivation derives the problem, can be printed and carries the limit
pub record IsConverted (P : Problem) (limit : ℕ) (d : Derivation) : Type 0 where
  pub derives : Derives P d
  pub printable : IsTrue (is_printable P d)
  pub carries : d.limit ≡ limit
