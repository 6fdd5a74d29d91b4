-- What a turn waits for.
use Rattle.std.specs.Prelude.{◌↔◌, ℕ, List, drop, Contains}
use Rattle.calculus.specs.Instances.{Turn}
use Rattle.calculus.specs.Syntax.{Problem}
use Rattle.name_order.specs.Found.{before_in, introducers_in}
use Rattle.name_order.specs.Mentioned.{mentioned_in}
use Rattle.name_order.specs.Places.{Place}

-- the places are those of the turns that introduce what the turn mentions by its own values
abbrev pub WaitFor : Problem → List Place → List (List ℕ) → Turn → List ℕ → Type 0
WaitFor P ps ks x w = (k : ℕ) → Contains w k ↔ Contains (introducers_in ps ks (mentioned_in P (drop (before_in ps x) x.values))) k
