-- Steps are read in one way.
use Rattle.std.specs.Prelude.{◌≡◌, List}
use Rattle.calculus.specs.Syntax.{Problem}
use Rattle.calculus.specs.Derivations.{Sequent, Names, Step}
use Rattle.calculus.specs.Calculus.{Closes}

-- a list of steps is read as a derivation of a sequent in at most one way: two readings use up the same steps and leave the same rest
abbrev pub AtMostOneReading : Problem → Names → Type 0
AtMostOneReading P names = (s : Sequent) (steps rest other : List Step) → Closes P names s steps rest → Closes P names s steps other → rest ≡ other
