-- Places of a block, each empty or written.
use Rattle.std.specs.Prelude.{◌≡◌, ℕ, List, [], ◌∷◌, get_or, ⊤, Option, Some, None}

module _ {X : Type 0} where
  -- what is written, in order
  abbrev pub somes : List (Option X) → List X
  somes [] = []
  somes (None ∷ cs) = somes cs
  somes (Some x ∷ cs) = x ∷ somes cs

  -- the place with this number is written
  abbrev pub IsWritten : List (Option X) → ℕ → Type 0
  IsWritten cs i = (x : X) × (get_or cs i None ≡ Some x)

  -- past an empty place nothing is written
  abbrev pub IsFront : List (Option X) → Type 0
  IsFront [] = ⊤
  IsFront (None ∷ cs) = somes cs ≡ []
  IsFront (Some x ∷ cs) = IsFront cs
