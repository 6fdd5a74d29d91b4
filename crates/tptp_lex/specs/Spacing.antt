-- What may stand between tokens and means nothing: white space and comments.
use Rattle.std.specs.Prelude.{◌≡◌, ◌≢◌, ⊤, ℕ, List, [], ◌∷◌, ◌++◌, Bool, not, ◌==◌, IsTrue}
use Rattle.std.specs.List.{list_all}
use Rattle.calculus.specs.Text.{is_space}

abbrev pub is_in_line : ℕ → Bool
is_in_line b = not (b == 10)

-- the end of the text, or a line feed
abbrev pub EndsLine : List ℕ → Type 0
EndsLine [] = ⊤
EndsLine (b ∷ bs) = b ≡ 10

-- `*/` stands nowhere in the bytes
abbrev pub StaysOpen : List ℕ → Type 0
StaysOpen bs = (front back : List ℕ) → bs ≢ front ++ 42 ∷ 47 ∷ back

-- The bytes begin with a byte of white space or a whole comment, and the rest is after it. A comment runs from `%` to the
-- next line feed or the end of the text, or from `/*` to the first `*/` after it.
pub data SkipsOne : List ℕ → List ℕ → Type 0 where
  a_space : (b : ℕ) (rest : List ℕ) → IsTrue (is_space b) → SkipsOne (b ∷ rest) rest
  a_line : (bs rest : List ℕ) → IsTrue (list_all is_in_line bs) → EndsLine rest → SkipsOne (37 ∷ (bs ++ rest)) rest
  a_block : (bs rest : List ℕ) → StaysOpen bs → SkipsOne (47 ∷ 42 ∷ (bs ++ 42 ∷ 47 ∷ rest)) rest

-- the rest is after any number of these
pub data Skips : List ℕ → List ℕ → Type 0 where
  done : (rest : List ℕ) → Skips rest rest
  more : (bytes between rest : List ℕ) → SkipsOne bytes between → Skips between rest → Skips bytes rest
