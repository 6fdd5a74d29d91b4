-- The tokens of TPTP: which lists of bytes are a token of each kind.
use Rattle.std.specs.Prelude.{◌≢◌, ℕ, List, [], ◌∷◌, ◌++◌, Bool, false, ◌&&◌, IsTrue, codes}
use Rattle.std.specs.List.{list_all}
use Rattle.calculus.specs.Problems.{is_name_byte}
use Rattle.calculus.specs.Text.{is_digit, is_lower_word, is_upper, is_word_byte}
use Rattle.tptp_lex.specs.declared.tokens.TokenKind.{TokenKind}
use Rattle.tptp_lex.specs.declared.tokens.TokenKind.TheVariants.{Lower, Upper, Dollar, Hash, Quoted, Distinct, Number, Sign}

-- an upper-case letter, then letters, digits and `_`
abbrev pub is_upper_word : List ℕ → Bool
is_upper_word [] = false
is_upper_word (b ∷ bs) = is_upper b && list_all is_word_byte bs

-- one digit or more
abbrev pub is_digits : List ℕ → Bool
is_digits [] = false
is_digits (b ∷ bs) = is_digit b && list_all is_digit bs

-- What may stand between two quotes: the bytes of names, from 32 on and not 127, other than the quote and `\`, and pairs of `\` and one of these.
pub data IsQuotable (quote : ℕ) : List ℕ → Type 0 where
  nothing : IsQuotable quote []
  a_byte : (b : ℕ) (bs : List ℕ) → b ≢ quote → b ≢ 92 → IsTrue (is_name_byte b) → IsQuotable quote bs → IsQuotable quote (b ∷ bs)
  a_quote : (bs : List ℕ) → IsQuotable quote bs → IsQuotable quote (92 ∷ quote ∷ bs)
  a_backslash : (bs : List ℕ) → IsQuotable quote bs → IsQuotable quote (92 ∷ 92 ∷ bs)

-- `+`, `-` or nothing
pub data IsNumberSign : List ℕ → Type 0 where
  no_sign : IsNumberSign []
  plus : IsNumberSign (43 ∷ [])
  minus : IsNumberSign (45 ∷ [])

-- `e` or `E`, a sign or none, and digits
pub data IsExponent : List ℕ → Type 0 where
  small : (s ds : List ℕ) → IsNumberSign s → IsTrue (is_digits ds) → IsExponent (101 ∷ (s ++ ds))
  capital : (s ds : List ℕ) → IsNumberSign s → IsTrue (is_digits ds) → IsExponent (69 ∷ (s ++ ds))

-- what stands after the first digits of a number: nothing, `/` and digits, or `.` and digits; after nothing and after
-- `.` and digits there may be an exponent
pub data IsNumberEnd : List ℕ → Type 0 where
  whole : IsNumberEnd []
  rational : (ds : List ℕ) → IsTrue (is_digits ds) → IsNumberEnd (47 ∷ ds)
  decimal : (ds : List ℕ) → IsTrue (is_digits ds) → IsNumberEnd (46 ∷ ds)
  whole_exponent : (e : List ℕ) → IsExponent e → IsNumberEnd e
  decimal_exponent : (ds e : List ℕ) → IsTrue (is_digits ds) → IsExponent e → IsNumberEnd (46 ∷ (ds ++ e))

pub data IsSign : List ℕ → Type 0 where
  open_round : IsSign (codes "(")
  close_round : IsSign (codes ")")
  open_square : IsSign (codes "[")
  close_square : IsSign (codes "]")
  comma : IsSign (codes ",")
  dot : IsSign (codes ".")
  colon : IsSign (codes ":")
  tilde : IsSign (codes "~")
  exclamation : IsSign (codes "!")
  question : IsSign (codes "?")
  ampersand : IsSign (codes "&")
  bar : IsSign (codes "|")
  implies : IsSign (codes "=>")
  implied : IsSign (codes "<=")
  equivalent : IsSign (codes "<=>")
  inequivalent : IsSign (codes "<~>")
  nor : IsSign (codes "~|")
  nand : IsSign (codes "~&")
  equal : IsSign (codes "=")
  unequal : IsSign (codes "!=")

-- the tokens of each kind
pub data IsToken : TokenKind → List ℕ → Type 0 where
  lower : (w : List ℕ) → IsTrue (is_lower_word w) → IsToken Lower w
  upper : (w : List ℕ) → IsTrue (is_upper_word w) → IsToken Upper w
  -- `$` or `$$`, and a Lower word
  dollar : (w : List ℕ) → IsTrue (is_lower_word w) → IsToken Dollar (36 ∷ w)
  two_dollars : (w : List ℕ) → IsTrue (is_lower_word w) → IsToken Dollar (36 ∷ 36 ∷ w)
  -- `#` and a Lower word
  hash : (w : List ℕ) → IsTrue (is_lower_word w) → IsToken Hash (35 ∷ w)
  -- characters between `'`, at least one
  quoted : (bs : List ℕ) → bs ≢ [] → IsQuotable 39 bs → IsToken Quoted (39 ∷ (bs ++ 39 ∷ []))
  -- characters between `"`
  distinct : (bs : List ℕ) → IsQuotable 34 bs → IsToken Distinct (34 ∷ (bs ++ 34 ∷ []))
  number : (s ds e : List ℕ) → IsNumberSign s → IsTrue (is_digits ds) → IsNumberEnd e → IsToken Number (s ++ (ds ++ e))
  sign : (w : List ℕ) → IsSign w → IsToken Sign w
