-- The tokens of a text as the grammar sees them: what each says, with its place.
use Rattle.std.specs.Prelude.{◌≡◌, ℕ, List, [], ◌∷◌, ◌++◌, codes, map, slice_range}
use Rattle.std.specs.List.{flat_map}
use Rattle.calculus.specs.Text.{escaped}
use Rattle.tptp_lex.specs.declared.tokens.Token.{Token}
use Rattle.tptp_lex.specs.declared.tokens.TokenKind.{TokenKind}
use Rattle.tptp_lex.specs.declared.tokens.TokenKind.TheVariants.{Lower, Upper, Dollar, Hash, Quoted, Distinct, Number, Sign}
use Rattle.tptp_lex.specs.Answers.{IsNext}

-- A Quoted counts as the name that it stands for; the others with bytes count as these bytes.
pub data Terminal : Type 0 where
  lower upper quoted number distinct dollar hash : List ℕ → Terminal
  open_round close_round open_square close_square comma dot colon tilde exclamation question ampersand bar : Terminal
  implies implied equivalent inequivalent nor nand equal unequal : Terminal

abbrev pub kind_of_terminal : Terminal → TokenKind
kind_of_terminal (lower w) = Lower
kind_of_terminal (upper w) = Upper
kind_of_terminal (quoted w) = Quoted
kind_of_terminal (number w) = Number
kind_of_terminal (distinct w) = Distinct
kind_of_terminal (dollar w) = Dollar
kind_of_terminal (hash w) = Hash
kind_of_terminal _ = Sign

-- in quotes there stands a `\` before each `'` and `\` of the name
abbrev pub spelling : Terminal → List ℕ
spelling (lower w) = w
spelling (upper w) = w
spelling (quoted w) = 39 ∷ (flat_map escaped w ++ 39 ∷ [])
spelling (number w) = w
spelling (distinct w) = w
spelling (dollar w) = w
spelling (hash w) = w
spelling open_round = codes "("
spelling close_round = codes ")"
spelling open_square = codes "["
spelling close_square = codes "]"
spelling comma = codes ","
spelling dot = codes "."
spelling colon = codes ":"
spelling tilde = codes "~"
spelling exclamation = codes "!"
spelling question = codes "?"
spelling ampersand = codes "&"
spelling bar = codes "|"
spelling implies = codes "=>"
spelling implied = codes "<="
spelling equivalent = codes "<=>"
spelling inequivalent = codes "<~>"
spelling nor = codes "~|"
spelling nand = codes "~&"
spelling equal = codes "="
spelling unequal = codes "!="

-- a terminal with the offset of its first byte
pub record Placed : Type 0 where
  pub at : ℕ
  pub terminal : Terminal

abbrev pub terminals : List Placed → List Terminal
terminals ps = map (λ (p : Placed). p.terminal) ps

abbrev pub offsets : List Placed → List ℕ
offsets ps = map (λ (p : Placed). p.at) ps

-- From the place `from` of the text these tokens follow one another, and `to` is the place behind the last.
pub data Follow (text : List ℕ) : ℕ → List Placed → ℕ → Type 0 where
  no_token : (from : ℕ) → Follow text from [] from
  a_token : (from to : ℕ) (token : Token) (x : Terminal) (ps : List Placed) → IsNext text from token
      → token.kind ≡ kind_of_terminal x → slice_range text token.start token.end ≡ spelling x
      → Follow text token.end ps to → Follow text from (record { at = token.start; terminal = x } ∷ ps) to
