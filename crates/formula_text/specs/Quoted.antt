-- What stands after the first quote of a quoted name.
use Rattle.std.specs.Prelude.{◌≡◌, ◌≢◌, ℕ, List, [], ◌∷◌, ◌++◌, Bool, true, false, ◌||◌, ◌==◌, Option, Some, None, if◌then◌else◌}
use Rattle.calculus.specs.Problems.{is_name_byte}
use Rattle.calculus.specs.Text.{StopsAt, is_lower, is_lower_word, is_word_byte}
use Rattle.formula_text.specs.declared.name_reader.ByteKind.{ByteKind}
use Rattle.formula_text.specs.declared.name_reader.ByteKind.TheVariants.{Character, Escape, Close, Wrong}

abbrev pub is_special : ℕ → Bool
is_special b = b == 39 || b == 92

-- what a byte of a quoted name is. The Bool tells whether a `\` stands before it
abbrev pub byte_kind : Bool → ℕ → ByteKind
byte_kind true b = if is_special b then Character else Wrong
byte_kind false b = if b == 39 then Close else if b == 92 then Escape else if is_name_byte b then Character else Wrong

abbrev pub with_front : List ℕ → Option (List ℕ × List ℕ) → Option (List ℕ × List ℕ)
with_front front None = None
with_front front (Some p) = Some (front ++ p.0, p.1)

-- a byte of this kind, before bytes that give `escaped` after a `\` and else `plain`
abbrev pub after_byte : ByteKind → ℕ → List ℕ → Option (List ℕ × List ℕ) → Option (List ℕ × List ℕ) → Option (List ℕ × List ℕ)
after_byte Character b bs escaped plain = with_front (b ∷ []) plain
after_byte Escape b bs escaped plain = escaped
after_byte Close b bs escaped plain = Some ([], bs)
after_byte Wrong b bs escaped plain = None

-- the name up to the closing quote, and what follows it
abbrev pub quoted_at : Bool → List ℕ → Option (List ℕ × List ℕ)
quoted_at pending [] = None
quoted_at pending (b ∷ bs) = after_byte (byte_kind pending b) b bs (quoted_at true bs) (quoted_at false bs)

abbrev pub begins_lower : List ℕ → Bool
begins_lower [] = false
begins_lower (b ∷ bs) = is_lower b

-- characters that are a name in quotes: they are some, they need the quotes, and the name ends there
abbrev pub IsWhole : List ℕ → List ℕ → Type 0
IsWhole name rest = (name ≢ []) × (is_lower_word name ≡ false) × StopsAt is_word_byte rest
