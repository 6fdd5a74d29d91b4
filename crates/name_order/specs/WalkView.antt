-- What the program's walk gives, by the turns that it adds and the sides and values that it leaves.
use Rattle.std.specs.Prelude.{ℕ, List}
use Rattle.calculus.specs.Ground.{Value}
use Rattle.calculus.specs.Instances.{Turn}

abbrev pub the_turn_at : ℕ → List Value → Turn
the_turn_at p vs = record { position = p; values = vs }
