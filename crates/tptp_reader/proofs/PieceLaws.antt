-- A token of the program stands where the lexer found it.
use Rattle.std.proofs.Common.{◌≡◌, ℕ, List, [], ◌∷◌, sym, ◌∙◌, ap, subst, slice_range}
use Rattle.tptp_lex.specs.declared.tokens.Token.{Token}
use Rattle.tptp_lex.specs.Answers.{IsNext}
use Rattle.tptp_reader.specs.Terminals.{Terminal, Follow, no_token, a_token, kind_of_terminal}
use Rattle.tptp_reader.specs.Expecting.{terminal_of}
use Rattle.tptp_reader.proofs.PlaceLaws.{terminal_of-spelling}
use Rattle.tptp_reader.proofs.Lexing.{said}

pub piece-here : (text : List ℕ) (from : ℕ) (t : Token) (x : Terminal) → IsNext text from t → x ≡ terminal_of t.kind (slice_range text t.start t.end) → Follow text from (record { at = t.start; terminal = x } ∷ []) t.end
piece-here text from t x h e =
    let s = said h.is_token in
    let k : x ≡ s.terminal =
    e ∙ ap (λ z. terminal_of z (slice_range text t.start t.end)) s.is_kind ∙ ap (terminal_of (kind_of_terminal s.terminal)) s.is_spelled ∙ terminal_of-spelling s.terminal in
    let f : Follow text from (record { at = t.start; terminal = s.terminal } ∷ []) t.end = a_token from t.end t s.terminal [] h s.is_kind s.is_spelled (no_token t.end) in
    subst (λ z. Follow text from (record { at = t.start; terminal = z } ∷ []) t.end) (sym k) f
