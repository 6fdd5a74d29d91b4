-- Ways that are followed by values of which so many are taken.
use Rattle.std.specs.Prelude.{ℕ, List, [], ◌∷◌, take, drop}
use Rattle.calculus.specs.Ground.{GroundMark, Value}
use Rattle.calculus.specs.Positions.{Node}
use Rattle.calculus.specs.Skolem.{Reached}

-- the label reached when k of the values are taken
abbrev pub reach : List GroundMark → List Value → ℕ → Reached
reach w vs k = record { label = w; taken = take k vs; rest = drop k vs }

-- a way after its first position
abbrev pub rest_of : List Node → List Node
rest_of [] = []
rest_of (n ∷ ns) = ns
