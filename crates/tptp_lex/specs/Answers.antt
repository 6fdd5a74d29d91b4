-- The first token at or after a place of a text.
use Rattle.std.specs.Prelude.{ℕ, ◌<◌, ◌≤◌, List, [], drop, length, slice_range, Option, None, Some, Result, Ok, Err}
use Rattle.tptp_lex.specs.declared.tokens.LexFault.{LexFault}
use Rattle.tptp_lex.specs.declared.tokens.Token.{Token}
use Rattle.tptp_lex.specs.declared.tokens.TokenKind.{TokenKind}
use Rattle.tptp_lex.specs.Spacing.{Skips, SkipsOne}
use Rattle.tptp_lex.specs.Tokens.{IsToken}

-- Behind white space and comments stands the token, and it is the longest there: no token of any kind ends after it.
pub record IsNext (text : List ℕ) (from : ℕ) (token : Token) : Type 0 where
  pub onward : from ≤ token.start
  pub skipped : Skips (drop from text) (drop token.start text)
  pub not_empty : token.start < token.end
  pub within : token.end ≤ length text
  pub is_token : IsToken token.kind (slice_range text token.start token.end)
  pub longest : (kind : TokenKind) (end : ℕ) → end ≤ length text → IsToken kind (slice_range text token.start end) → end ≤ token.end

-- nothing but white space and comments stands there
abbrev pub OnlySpace : List ℕ → ℕ → Type 0
OnlySpace text from = Skips (drop from text) []

-- Behind white space and comments stands a byte at which no token begins, and neither white space nor a whole comment:
-- such as a `;`, a `$` without a word, or the first byte of a comment or of quoted text that is not closed.
pub record IsFault (text : List ℕ) (from offset : ℕ) : Type 0 where
  pub onward : from ≤ offset
  pub skipped : Skips (drop from text) (drop offset text)
  pub within : offset < length text
  pub no_space : (rest : List ℕ) → SkipsOne (drop offset text) rest → ⊥
  pub no_token : (kind : TokenKind) (end : ℕ) → IsToken kind (slice_range text offset end) → ⊥

-- what stands first at or after the place
abbrev pub IsAnswer : List ℕ → ℕ → Result (Option Token) LexFault → Type 0
IsAnswer text from (Ok (Some token)) = IsNext text from token
IsAnswer text from (Ok None) = OnlySpace text from
IsAnswer text from (Err fault) = IsFault text from fault.offset
