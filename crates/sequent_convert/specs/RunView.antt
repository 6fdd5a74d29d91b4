-- The state of a conversion as the program has it.
use Rattle.std.specs.Prelude.{ℕ, List, length, drop}
use Rattle.calculus.specs.Ground.{Value}
use Rattle.conversion_theory.specs.Branches.{Item}
use Rattle.sequent_convert.specs.State.{Basis, turn_at}

-- the own values of a turn at an item
abbrev pub own_values : Basis → ℕ → Item → List Value
own_values B k i = drop (length i.spot.taken) (turn_at B k).values
