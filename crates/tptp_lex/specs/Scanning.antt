-- The code's way over the bytes: what is left behind white space, a comment or a token at the front. It is no definition
-- to believe: `Tokens` and `Spacing` say what these are, and the proofs tie this way to them.
use Rattle.std.specs.Prelude.{ℕ, List, [], ◌∷◌, Bool, true, false, ◌&&◌, ◌||◌, ◌==◌, Option, None, Some, if◌then◌else◌}
use Rattle.std.specs.Option.{option_map, unwrap_or}
use Rattle.calculus.specs.Problems.{is_name_byte}
use Rattle.calculus.specs.Text.{is_digit, is_lower, is_space, is_upper, is_word_byte}
use Rattle.tptp_lex.specs.declared.tokens.TokenKind.{TokenKind}
use Rattle.tptp_lex.specs.declared.tokens.TokenKind.TheVariants.{Lower, Upper, Dollar, Hash, Quoted, Distinct, Number, Sign}
use Rattle.tptp_lex.specs.Spacing.{is_in_line}

-- behind the bytes at the front that pass
abbrev pub after_run : (ℕ → Bool) → List ℕ → List ℕ
after_run p [] = []
after_run p (b ∷ bs) = if p b then after_run p bs else b ∷ bs

-- behind this byte, where it stands at the front
abbrev pub after_byte : ℕ → List ℕ → List ℕ
after_byte c [] = []
after_byte c (b ∷ bs) = if b == c then bs else b ∷ bs

-- behind the first `*/`; the flag says that a `*` stands right before
abbrev pub after_block : Bool → List ℕ → Option (List ℕ)
after_block star [] = None
after_block star (b ∷ bs) = if star && b == 47 then Some bs else after_block (b == 42) bs

abbrev pub after_slash : List ℕ → Option (List ℕ)
after_slash [] = None
after_slash (b ∷ bs) = if b == 42 then after_block false bs else None

abbrev pub after_space : List ℕ → Option (List ℕ)
after_space [] = None
after_space (b ∷ bs) =
    if is_space b then Some bs
    else (if b == 37 then Some (after_run is_in_line bs)
    else (if b == 47 then after_slash bs
    else None))

abbrev pub after_lower : List ℕ → Option (List ℕ)
after_lower [] = None
after_lower (b ∷ bs) = if is_lower b then Some (after_run is_word_byte bs) else None

abbrev pub after_digits : List ℕ → Option (List ℕ)
after_digits [] = None
after_digits (b ∷ bs) = if is_digit b then Some (after_run is_digit bs) else None

-- behind the closing quote; the flag says that a `\` that begins a pair stands right before
abbrev pub after_quoted : ℕ → Bool → List ℕ → Option (List ℕ)
after_quoted quote escaped [] = None
after_quoted quote true (b ∷ bs) = if b == quote || b == 92 then after_quoted quote false bs else None
after_quoted quote false (b ∷ bs) =
    if b == quote then Some bs
    else (if b == 92 then after_quoted quote true bs
    else (if is_name_byte b then after_quoted quote false bs
    else None))

-- behind a quoted name with at least one character
abbrev pub after_name : List ℕ → Option (List ℕ)
after_name [] = None
after_name (b ∷ bs) = if b == 39 then None else after_quoted 39 false (b ∷ bs)

abbrev pub is_number_sign : ℕ → Bool
is_number_sign b = b == 43 || b == 45

abbrev pub after_number_sign : List ℕ → List ℕ
after_number_sign [] = []
after_number_sign (b ∷ bs) = if is_number_sign b then bs else b ∷ bs

-- behind this byte and digits, where they stand at the front
abbrev pub after_part : ℕ → List ℕ → List ℕ
after_part c [] = []
after_part c (b ∷ bs) = if b == c then unwrap_or (after_digits bs) (b ∷ bs) else b ∷ bs

abbrev pub after_exponent : List ℕ → List ℕ
after_exponent [] = []
after_exponent (b ∷ bs) = if b == 101 || b == 69 then unwrap_or (after_digits (after_number_sign bs)) (b ∷ bs) else b ∷ bs

abbrev pub begins_with : ℕ → List ℕ → Bool
begins_with c [] = false
begins_with c (b ∷ bs) = b == c

-- what follows the first digits of a number
abbrev pub after_number_end : List ℕ → List ℕ
after_number_end bs = if begins_with 47 bs then after_part 47 bs else after_exponent (after_part 46 bs)

-- behind a number that has no sign
abbrev pub after_number : List ℕ → Option (List ℕ)
after_number bs = option_map after_number_end (after_digits bs)

-- the signs of one byte with which no longer sign begins
abbrev pub is_single : ℕ → Bool
is_single b = b == 40 || b == 41 || b == 91 || b == 93 || b == 44 || b == 46 || b == 58 || b == 63 || b == 38 || b == 124

-- behind `~`: `|` or `&`, where one stands there
abbrev pub after_tilde : List ℕ → List ℕ
after_tilde [] = []
after_tilde (b ∷ bs) = if b == 124 || b == 38 then bs else b ∷ bs

abbrev pub after_close : List ℕ → Option (List ℕ)
after_close [] = None
after_close (b ∷ bs) = if b == 62 then Some bs else None

-- behind `<`: `=`, `=>` or `~>`
abbrev pub after_less : List ℕ → Option (List ℕ)
after_less [] = None
after_less (b ∷ bs) = if b == 61 then Some (after_byte 62 bs) else (if b == 126 then after_close bs else None)

abbrev pub after_sign : ℕ → List ℕ → Option (List ℕ)
after_sign b bs =
    if is_single b then Some bs
    else (if b == 61 then Some (after_byte 62 bs)
    else (if b == 33 then Some (after_byte 61 bs)
    else (if b == 126 then Some (after_tilde bs)
    else (if b == 60 then after_less bs
    else None))))

-- the kind of the token that may begin with the byte
abbrev pub kind_at : ℕ → TokenKind
kind_at b =
    if is_lower b then Lower
    else (if is_upper b then Upper
    else (if is_digit b || is_number_sign b then Number
    else (if b == 36 then Dollar
    else (if b == 35 then Hash
    else (if b == 39 then Quoted
    else (if b == 34 then Distinct
    else Sign))))))

-- behind the token of this kind that begins with the byte b
abbrev pub after_kind : TokenKind → ℕ → List ℕ → Option (List ℕ)
after_kind Lower b bs = Some (after_run is_word_byte bs)
after_kind Upper b bs = Some (after_run is_word_byte bs)
after_kind Dollar b bs = after_lower (after_byte 36 bs)
after_kind Hash b bs = after_lower bs
after_kind Quoted b bs = after_name bs
after_kind Distinct b bs = after_quoted 34 false bs
after_kind Number b bs = after_number (after_number_sign (b ∷ bs))
after_kind Sign b bs = after_sign b bs

-- the kind of the longest token at the front, and what is behind it
abbrev pub after_token : List ℕ → Option (TokenKind × List ℕ)
after_token [] = None
after_token (b ∷ bs) = option_map (λ rest. (kind_at b, rest)) (after_kind (kind_at b) b bs)
