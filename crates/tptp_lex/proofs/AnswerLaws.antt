-- The three answers are what the definition says, and the definition allows one alone.
use Rattle.std.proofs.Common.{◌≡◌, ◌==◌, false, true, ℕ, ◌+◌, ◌-◌, ◌<◌, ◌≤◌, List, [], ◌∷◌, ◌++◌, Option, None, Some, Result, Ok, Err, refl, sym, ◌∙◌, ap, append_assoc, subst, drop, length, slice_range, take, arith}
use Rattle.std.proofs.lemmas.List.{length-append, length-drop, nil_from_length, take-append-drop, take_at}
use Rattle.std.proofs.lemmas.Bool.{eqb-false, eqb-true}
use Rattle.std.proofs.lemmas.List.Folds.{drop_split}
use Rattle.plain_laws.proofs.Options.{none_some}
use Rattle.tptp_lex.specs.declared.tokens.LexFault.{LexFault}
use Rattle.tptp_lex.specs.declared.tokens.Token.{Token}
use Rattle.tptp_lex.specs.declared.tokens.TokenKind.{TokenKind}
use Rattle.tptp_lex.specs.Answers.{IsAnswer, IsFault, IsNext, OnlySpace}
use Rattle.tptp_lex.specs.Scanning.{after_space, after_token}
use Rattle.tptp_lex.specs.Spacing.{Skips}
use Rattle.tptp_lex.specs.Tokens.{IsToken}
use Rattle.tptp_lex.proofs.Runs.{end-at, some-is}
use Rattle.tptp_lex.proofs.SpacingLaws.{Ends, skips-alone, skips-ends, space-over, space-split}
use Rattle.tptp_lex.proofs.TokenLaws.{token-no-space, token-over, token-split}

-- ---- what the code answers

rest-ends : (text : List ℕ) (from : ℕ) (rest : List ℕ) → Skips (drop from text) rest → Ends text rest
rest-ends text from rest s =
    let e = skips-ends s in
    record {
      front = take from text ++ e.front;
      whole = sym (take-append-drop from text) ∙ ap (λ y. take from text ++ y) e.whole ∙ sym (append_assoc (take from text) e.front rest);
    }

pub rest-at : (text : List ℕ) (from : ℕ) (rest : List ℕ) → Skips (drop from text) rest → drop (length text - length rest) text ≡ rest
rest-at text from rest s = let e = rest-ends text from rest s in end-at e.front rest text e.whole

pub rest-within : (text : List ℕ) (from : ℕ) (rest : List ℕ) → Skips (drop from text) rest → length rest ≤ length text
rest-within text from rest s = let e = rest-ends text from rest s in omega (arith, ap length e.whole, length-append e.front rest)

rest-onward : (text : List ℕ) (from : ℕ) (rest : List ℕ) → from ≤ length text → Skips (drop from text) rest → from ≤ length text - length rest
rest-onward text from rest n s = let e = skips-ends s in omega (arith, ap length e.whole, length-append e.front rest, length-drop from text)

pub after-within : (kind : TokenKind) (bytes after : List ℕ) → after_token bytes ≡ Some (kind, after) → length after ≤ length bytes
after-within kind bytes after h = let t = token-split kind bytes after h in omega (arith, ap length t.split, length-append t.front after)

-- a token has a byte
no-empty-token : (kind : TokenKind) → IsToken kind [] → ⊥
no-empty-token kind t = none_some (token-over kind [] [] t).taken

token-length : (kind : TokenKind) (w : List ℕ) → IsToken kind w → 0 < length w
token-length kind [] t = absurd (no-empty-token kind t)
token-length kind (b ∷ bs) t = omega arith

-- no token that the bytes begin with goes further than the one that is taken
no-further : (kind k : TokenKind) (bytes after : List ℕ) (n : ℕ) → after_token bytes ≡ Some (kind, after) → IsToken k (take n bytes) → length after ≤ length bytes - n
no-further kind k bytes after n h t =
    let r = token-over k (take n bytes) (drop n bytes) t in
    let e : after ≡ r.after = ap (λ p. p.1) (some-is (sym h ∙ ap after_token (sym (take-append-drop n bytes)) ∙ r.taken)) in
    let l : length after ≡ length r.after = ap length e in
    let m : length r.after ≤ length (drop n bytes) = r.not_longer in
    omega (arith, length-drop n bytes)

pub next-is : (text : List ℕ) (from : ℕ) (kind : TokenKind) (rest after : List ℕ) → from ≤ length text → Skips (drop from text) rest → after_token rest ≡ Some (kind, after)
    → IsNext text from (record { kind = kind; start = length text - length rest; end = length text - length after })
next-is text from kind rest after starts s h =
    let at : drop (length text - length rest) text ≡ rest = rest-at text from rest s in
    let t = token-split kind rest after h in
    let some : 0 < length t.front = token-length kind t.front t.is_token in
    let sum : length rest ≡ length t.front + length after = ap length t.split ∙ length-append t.front after in
    let fits : length rest ≤ length text = rest-within text from rest s in
    let wide : length t.front ≡ (length text - length after) - (length text - length rest) = omega arith in
    record {
      onward = rest-onward text from rest starts s;
      skipped = subst (Skips (drop from text)) (sym at) s;
      not_empty = omega arith;
      within = omega arith;
      is_token = subst (IsToken kind) (sym (ap (take ((length text - length after) - (length text - length rest))) (at ∙ t.split) ∙ take_at t.front after ((length text - length after) - (length text - length rest)) (wide))) t.is_token;
      longest = λ k e inside w.
          let n : length after ≤ length rest - (e - (length text - length rest)) = no-further kind k rest after (e - (length text - length rest)) h (subst (λ x. IsToken k (take (e - (length text - length rest)) x)) at w) in
          omega arith;
    }

pub fault-is : (text : List ℕ) (from : ℕ) (rest : List ℕ) → from ≤ length text → Skips (drop from text) rest → 0 < length rest → after_space rest ≡ None → after_token rest ≡ None → IsFault text from (length text - length rest)
fault-is text from rest starts s some no_space no_token =
    let at : drop (length text - length rest) text ≡ rest = rest-at text from rest s in
    let fits : length rest ≤ length text = rest-within text from rest s in
    record {
      onward = rest-onward text from rest starts s;
      skipped = subst (Skips (drop from text)) (sym at) s;
      within = omega arith;
      no_space = λ r one. none_some (sym no_space ∙ ap after_space (sym at) ∙ space-over one);
      no_token = λ k e w.
          let r = token-over k (take (e - (length text - length rest)) rest) (drop (e - (length text - length rest)) rest) (subst (λ x. IsToken k (take (e - (length text - length rest)) x)) at w) in
          none_some (sym no_token ∙ ap after_token (sym (take-append-drop (e - (length text - length rest)) rest)) ∙ r.taken);
    }

-- ---- one answer alone

next-stuck : (text : List ℕ) (from : ℕ) (t : Token) → IsNext text from t → after_space (drop t.start text) ≡ None
next-stuck text from t h =
    let n : t.start ≤ t.end = omega (arith, h.not_empty) in
    ap after_space (drop_split text t.start t.end n) ∙ token-no-space t.kind (slice_range text t.start t.end) (drop t.end text) h.is_token

fault-stuck : (text : List ℕ) (from offset : ℕ) → IsFault text from offset → after_space (drop offset text) ≡ None
fault-stuck text from offset h = by (after_space (drop offset text)) refl
  where
    by : (o : Option (List ℕ)) → after_space (drop offset text) ≡ o → after_space (drop offset text) ≡ None
    by None e = e
    by (Some r) e = absurd (h.no_space r (space-split (drop offset text) r e))

same-place : (text : List ℕ) (a b : ℕ) → a < length text → b < length text → drop a text ≡ drop b text → a ≡ b
same-place text a b ha hb e = omega (arith, ap length e, length-drop a text, length-drop b text)

not-at-end : (text : List ℕ) (a : ℕ) → a < length text → drop a text ≡ [] → ⊥
not-at-end text a h e = let n : length (drop a text) ≡ 0 = ap length e in omega (arith, length-drop a text)

next-within : (text : List ℕ) (from : ℕ) (t : Token) → IsNext text from t → t.start < length text
next-within text from t h = omega (arith, h.not_empty, h.within)

pub next-or-none : (text : List ℕ) (from : ℕ) (t : Token) → IsNext text from t → OnlySpace text from → ⊥
next-or-none text from t h g = not-at-end text t.start (next-within text from t h) (skips-alone h.skipped g (next-stuck text from t h) refl)

pub next-or-fault : (text : List ℕ) (from : ℕ) (t : Token) (offset : ℕ) → IsNext text from t → IsFault text from offset → ⊥
next-or-fault text from t offset h g =
    let e = same-place text t.start offset (next-within text from t h) g.within (skips-alone h.skipped g.skipped (next-stuck text from t h) (fault-stuck text from offset g)) in
    g.no_token t.kind t.end (subst (λ s. IsToken t.kind (slice_range text s t.end)) e h.is_token)

pub none-or-fault : (text : List ℕ) (from offset : ℕ) → OnlySpace text from → IsFault text from offset → ⊥
none-or-fault text from offset h g = not-at-end text offset g.within (skips-alone g.skipped h (fault-stuck text from offset g) refl)

same-kind : (k l : TokenKind) (w : List ℕ) → IsToken k w → IsToken l w → k ≡ l
same-kind k l w h g = ap (λ p. p.0) (some-is (sym (token-over k w [] h).taken ∙ (token-over l w [] g).taken))

pub same-token : (text : List ℕ) (from : ℕ) (t u : Token) → IsNext text from t → IsNext text from u → t ≡ u
same-token text from t u h g =
    let s : t.start ≡ u.start = same-place text t.start u.start (next-within text from t h) (next-within text from u g) (skips-alone h.skipped g.skipped (next-stuck text from t h) (next-stuck text from u g)) in
    let a : u.end ≤ t.end = h.longest u.kind u.end g.within (subst (λ x. IsToken u.kind (slice_range text x u.end)) (sym s) g.is_token) in
    let b : t.end ≤ u.end = g.longest t.kind t.end h.within (subst (λ x. IsToken t.kind (slice_range text x t.end)) s h.is_token) in
    let e : t.end ≡ u.end = omega arith in
    let w : slice_range text t.start t.end ≡ slice_range text u.start u.end = ap (λ x. slice_range text x t.end) s ∙ ap (slice_range text u.start) e in
    let k : t.kind ≡ u.kind = same-kind t.kind u.kind (slice_range text u.start u.end) (subst (IsToken t.kind) w h.is_token) g.is_token in
    λ i. record { kind = k i; start = s i; end = e i }

same-fault : (text : List ℕ) (from : ℕ) (f g : LexFault) → IsFault text from f.offset → IsFault text from g.offset → f ≡ g
same-fault text from f g h k =
    let e : f.offset ≡ g.offset = same-place text f.offset g.offset h.within k.within (skips-alone h.skipped k.skipped (fault-stuck text from f.offset h) (fault-stuck text from g.offset k)) in
    λ i. record { offset = e i }

pub answers-alone : (text : List ℕ) (from : ℕ) (r s : Result (Option Token) LexFault) → IsAnswer text from r → IsAnswer text from s → r ≡ s
answers-alone text from (Ok (Some t)) (Ok (Some u)) h g = ap (λ x. Ok (Some x)) (same-token text from t u h g)
answers-alone text from (Ok (Some t)) (Ok None) h g = absurd (next-or-none text from t h g)
answers-alone text from (Ok (Some t)) (Err f) h g = absurd (next-or-fault text from t f.offset h g)
answers-alone text from (Ok None) (Ok (Some u)) h g = absurd (next-or-none text from u g h)
answers-alone text from (Ok None) (Ok None) h g = refl
answers-alone text from (Ok None) (Err f) h g = absurd (none-or-fault text from f.offset h g)
answers-alone text from (Err f) (Ok (Some u)) h g = absurd (next-or-fault text from u f.offset g h)
answers-alone text from (Err f) (Ok None) h g = absurd (none-or-fault text from f.offset g h)
answers-alone text from (Err f) (Err k) h g = ap Err (same-fault text from f k h g)

-- ---- over the rest that the code looks at

pub only-space : (text : List ℕ) (from : ℕ) (rest : List ℕ) → Skips (drop from text) rest → (length rest == 0) ≡ true → OnlySpace text from
only-space text from rest s e = subst (Skips (drop from text)) (nil_from_length rest (eqb-true (length rest) 0 e)) s

pub some-left : (rest : List ℕ) → (length rest == 0) ≡ false → 0 < length rest
some-left rest e = let n : length rest ≡ 0 → ⊥ = eqb-false (length rest) 0 e in omega arith
