-- What went out of a sink.
use Rattle.std.specs.Prelude.{◌≡◌, ◌≤◌, ⊤, ◌++◌, ◌∷◌, [], ℕ, List, Option, length}
use Rattle.std.specs.Option.{option_map}

-- what is written once these bytes are added
abbrev pub with_bytes : Option (List ℕ) → List ℕ → Option (List ℕ)
with_bytes told bytes = option_map (λ written. written ++ bytes) told

-- the bytes of the pieces, of which the last one stands first
abbrev pub joined : List (List ℕ) → List ℕ
joined [] = []
joined (piece ∷ earlier) = joined earlier ++ piece

-- each piece has so many bytes
abbrev pub AreFull : ℕ → List (List ℕ) → Type 0
AreFull size [] = ⊤
AreFull size (piece ∷ earlier) = (length piece ≡ size) × AreFull size earlier

-- the last piece, which stands first, has at most so many bytes, and each earlier one has so many
abbrev pub ArePieces : ℕ → List (List ℕ) → Type 0
ArePieces size [] = ⊤
ArePieces size (last ∷ earlier) = (length last ≤ size) × AreFull size earlier

-- what went out between two moments went out in such pieces
pub record WentOutInPieces (size : ℕ) (before after : List (List ℕ)) : Type 0 where
  pub pieces : List (List ℕ)
  pub went_out : after ≡ pieces ++ before
  pub are_pieces : ArePieces size pieces

-- there is a writer, and bytes of which it may take none
abbrev pub MayRefuse : {W : Type 0} → (W → List ℕ → Type 0) → Type 0
MayRefuse {W = W} refuses = (writer : W) × (rest : List ℕ) × refuses writer rest
