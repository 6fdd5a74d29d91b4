-- Each text is a list of tokens up to its end or a lexical fault.
use Rattle.std.proofs.Common.{◌≡◌, ◌==◌, ◌||◌, ◌<◌, ◌≤◌, ◌-◌, ℕ, zero, suc, Bool, true, false, List, [], ◌∷◌, ◌++◌, Option, None, Some, Result, Ok, Err, refl, sym, ◌∙◌, ap, arith, length, drop, slice_range, flat_map, if◌then◌else◌}
use Rattle.std.proofs.lemmas.Bool.{ne_eqb}
use Rattle.calculus.specs.Text.{escaped}
use Rattle.tptp_lex.specs.declared.tokens.LexFault.{LexFault}
use Rattle.tptp_lex.specs.declared.tokens.Token.{Token}
use Rattle.tptp_lex.specs.declared.tokens.TokenKind.{TokenKind}
use Rattle.tptp_lex.specs.declared.tokens.TokenKind.TheVariants as kind
use Rattle.tptp_lex.specs.Answers.{IsNext, IsAnswer}
use Rattle.tptp_lex.specs.Scanning.{after_space, after_token}
use Rattle.tptp_lex.specs.Spacing.{Skips, done, more}
use Rattle.tptp_lex.specs.Tokens.{IsQuotable, nothing, a_byte, a_quote, a_backslash, IsSign, IsToken}
use Rattle.tptp_lex.specs.Tokens as token
use Rattle.tptp_lex.proofs.AnswerLaws.{next-is, fault-is, only-space, some-left}
use Rattle.tptp_lex.proofs.SpacingLaws.{space-split, one-shorter}
use Rattle.tptp_reader.specs.Terminals.{Terminal, lower, upper, quoted, number, distinct, dollar, hash, open_round, close_round, open_square, close_square, comma, dot, colon, tilde, exclamation, question, ampersand, bar, implies, implied, equivalent, inequivalent, nor, nand, equal, unequal, kind_of_terminal, spelling, Placed, Follow, no_token, a_token}
use Rattle.tptp_reader.specs.Expecting.{name_in}

-- ---- the next token of a place

record Skipped (bytes : List ℕ) : Type 0 where
  pub rest : List ℕ
  pub skips : Skips bytes rest
  pub stuck : after_space rest ≡ None

skipped : (n : ℕ) (bytes : List ℕ) → length bytes ≤ n → Skipped bytes
skipped zero bytes h = by (after_space bytes) refl
  where
    by : (o : Option (List ℕ)) → after_space bytes ≡ o → Skipped bytes
    by None e = record { rest = bytes; skips = done bytes; stuck = e }
    by (Some r) e = let l = one-shorter (space-split bytes r e) in absurd (omega (arith, l, h))
skipped (suc n) bytes h = by (after_space bytes) refl (λ r l. skipped n r l)
  where
    by : (o : Option (List ℕ)) → after_space bytes ≡ o → ((r : List ℕ) → length r ≤ n → Skipped r) → Skipped bytes
    by None e next = record { rest = bytes; skips = done bytes; stuck = e }
    by (Some r) e next =
        let one = space-split bytes r e in
        let l : length r < length bytes = one-shorter one in
        let s = next r (omega (arith, l, h)) in
        record { rest = s.rest; skips = more bytes r s.rest one s.skips; stuck = s.stuck }

pub record Answered (text : List ℕ) (from : ℕ) : Type 0 where
  pub answer : Result (Option Token) LexFault
  pub is_answer : IsAnswer text from answer

pub answered : (text : List ℕ) (from : ℕ) → from ≤ length text → Answered text from
answered text from h = by (length s.rest == 0) refl
  where
    s : Skipped (drop from text)
    s = skipped (length (drop from text)) (drop from text) (omega arith)

    tokened : 0 < length s.rest → (o : Option (TokenKind × List ℕ)) → after_token s.rest ≡ o → Answered text from
    tokened l None e = record { answer = Err (record { offset = length text - length s.rest }); is_answer = fault-is text from s.rest h s.skips l s.stuck e }
    tokened l (Some t) e =
        record { answer = Ok (Some (record { kind = t.0; start = length text - length s.rest; end = length text - length t.1 })); is_answer = next-is text from t.0 s.rest t.1 h s.skips e }

    by : (b : Bool) → (length s.rest == 0) ≡ b → Answered text from
    by true e = record { answer = Ok None; is_answer = only-space text from s.rest s.skips e }
    by false e = tokened (some-left s.rest e) (after_token s.rest) refl

-- ---- each token is a terminal

escaped-plain : (b : ℕ) → (b == 39) ≡ false → (b == 92) ≡ false → escaped b ≡ b ∷ []
escaped-plain b p q = ap (λ v. if v || b == 92 then 92 ∷ b ∷ [] else b ∷ []) p ∙ ap (λ v. if v then 92 ∷ b ∷ [] else b ∷ []) q

quoted-back : {bs : List ℕ} → IsQuotable 39 bs → flat_map escaped (name_in false (bs ++ 39 ∷ [])) ≡ bs
quoted-back nothing = refl
quoted-back (a_byte b bs p q n h) =
    let c : (b == 39) ≡ false = ne_eqb b 39 p in
    let d : (b == 92) ≡ false = ne_eqb b 92 q in
    let e : name_in false (b ∷ (bs ++ 39 ∷ [])) ≡ b ∷ name_in false (bs ++ 39 ∷ []) =
    ap (λ v. if v then name_in true (bs ++ 39 ∷ []) else (if b == 39 then [] else b ∷ name_in false (bs ++ 39 ∷ []))) d ∙ ap (λ v. if v then [] else b ∷ name_in false (bs ++ 39 ∷ [])) c in
    ap (flat_map escaped) e ∙ ap (λ v. v ++ flat_map escaped (name_in false (bs ++ 39 ∷ []))) (escaped-plain b c d) ∙ ap (λ t. b ∷ t) (quoted-back h)
quoted-back (a_quote bs h) = ap (λ t. 92 ∷ 39 ∷ t) (quoted-back h)
quoted-back (a_backslash bs h) = ap (λ t. 92 ∷ 92 ∷ t) (quoted-back h)

pub record Said (kind : TokenKind) (w : List ℕ) : Type 0 where
  pub terminal : Terminal
  pub is_kind : kind ≡ kind_of_terminal terminal
  pub is_spelled : w ≡ spelling terminal

sign-said : {w : List ℕ} → IsSign w → Said kind.Sign w
sign-said token.open_round = record { terminal = open_round; is_kind = refl; is_spelled = refl }
sign-said token.close_round = record { terminal = close_round; is_kind = refl; is_spelled = refl }
sign-said token.open_square = record { terminal = open_square; is_kind = refl; is_spelled = refl }
sign-said token.close_square = record { terminal = close_square; is_kind = refl; is_spelled = refl }
sign-said token.comma = record { terminal = comma; is_kind = refl; is_spelled = refl }
sign-said token.dot = record { terminal = dot; is_kind = refl; is_spelled = refl }
sign-said token.colon = record { terminal = colon; is_kind = refl; is_spelled = refl }
sign-said token.tilde = record { terminal = tilde; is_kind = refl; is_spelled = refl }
sign-said token.exclamation = record { terminal = exclamation; is_kind = refl; is_spelled = refl }
sign-said token.question = record { terminal = question; is_kind = refl; is_spelled = refl }
sign-said token.ampersand = record { terminal = ampersand; is_kind = refl; is_spelled = refl }
sign-said token.bar = record { terminal = bar; is_kind = refl; is_spelled = refl }
sign-said token.implies = record { terminal = implies; is_kind = refl; is_spelled = refl }
sign-said token.implied = record { terminal = implied; is_kind = refl; is_spelled = refl }
sign-said token.equivalent = record { terminal = equivalent; is_kind = refl; is_spelled = refl }
sign-said token.inequivalent = record { terminal = inequivalent; is_kind = refl; is_spelled = refl }
sign-said token.nor = record { terminal = nor; is_kind = refl; is_spelled = refl }
sign-said token.nand = record { terminal = nand; is_kind = refl; is_spelled = refl }
sign-said token.equal = record { terminal = equal; is_kind = refl; is_spelled = refl }
sign-said token.unequal = record { terminal = unequal; is_kind = refl; is_spelled = refl }

pub said : {k : TokenKind} {w : List ℕ} → IsToken k w → Said k w
said (token.lower w h) = record { terminal = lower w; is_kind = refl; is_spelled = refl }
said (token.upper w h) = record { terminal = upper w; is_kind = refl; is_spelled = refl }
said (token.dollar w h) = record { terminal = dollar (36 ∷ w); is_kind = refl; is_spelled = refl }
said (token.two_dollars w h) = record { terminal = dollar (36 ∷ 36 ∷ w); is_kind = refl; is_spelled = refl }
said (token.hash w h) = record { terminal = hash (35 ∷ w); is_kind = refl; is_spelled = refl }
said (token.quoted bs n h) = record { terminal = quoted (name_in false (bs ++ 39 ∷ [])); is_kind = refl; is_spelled = ap (λ t. 39 ∷ (t ++ 39 ∷ [])) (sym (quoted-back h)) }
said (token.distinct bs h) = record { terminal = distinct (34 ∷ (bs ++ 34 ∷ [])); is_kind = refl; is_spelled = refl }
said (token.number s ds e p q r) = record { terminal = number (s ++ (ds ++ e)); is_kind = refl; is_spelled = refl }
said (token.sign w h) = sign-said h

-- ---- lists of tokens

pub snoc : {text : List ℕ} {from to : ℕ} {ps : List Placed} → Follow text from ps to → (t : Token) (h : IsNext text to t) (s : Said t.kind (slice_range text t.start t.end)) → Follow text from (ps ++ record { at = t.start; terminal = s.terminal } ∷ []) t.end
snoc (no_token from) t h s = a_token from t.end t s.terminal [] h s.is_kind s.is_spelled (no_token t.end)
snoc (a_token from to u x ps n k e f) t h s = a_token from t.end u x (ps ++ record { at = t.start; terminal = s.terminal } ∷ []) n k e (snoc f t h s)
