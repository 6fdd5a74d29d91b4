-- What a turn works on, told without a tableau.
use Rattle.std.specs.Prelude.{◌≡◌, ◌≤◌, ℕ, List, length, take, false}
use Rattle.calculus.specs.Ground.{Value}
use Rattle.calculus.specs.Instances.{Turn}
use Rattle.conversion_theory.specs.Branches.{Item}

-- the values begin with those that were taken
abbrev pub IsFront : List Value → List Value → Type 0
IsFront taken values = take (length taken) values ≡ taken

pub record IsOn (x : Turn) (i : Item) : Type 0 where
  pub fresh : i.past ≡ false
  pub position : i.spot.position ≡ x.position
  pub values : IsFront i.spot.taken x.values
