-- From a place of a text the tokens follow one another in one way.
use Rattle.std.proofs.Common.{◌≡◌, ◌==◌, ◌||◌, ℕ, Bool, true, false, List, [], ◌∷◌, ◌++◌, Option, Some, Result, Ok, Err, refl, sym, ◌∙◌, ap, append_assoc, subst, slice_range, flat_map, if◌then◌else◌}
use Rattle.calculus.specs.Text.{escaped}
use Rattle.tptp_lex.specs.declared.tokens.LexFault.{LexFault}
use Rattle.tptp_lex.specs.declared.tokens.Token.{Token}
use Rattle.tptp_lex.specs.Answers.{IsNext, IsFault}
use Rattle.tptp_lex.proofs.AnswerLaws.{answers-alone, same-token}
use Rattle.tptp_reader.specs.Terminals.{Terminal, lower, upper, quoted, number, distinct, dollar, hash, kind_of_terminal, spelling, Placed, Follow, no_token, a_token}
use Rattle.tptp_reader.specs.Expecting.{name_in, terminal_of}

-- ---- a terminal is known by its kind and its bytes

unescaped : (b : ℕ) (rest : List ℕ) (p q : Bool) → (b == 39) ≡ p → (b == 92) ≡ q → name_in false ((if p || q then 92 ∷ b ∷ [] else b ∷ []) ++ rest) ≡ b ∷ name_in false rest
unescaped b rest true q d e = refl
unescaped b rest false true d e = refl
unescaped b rest false false d e = ap (λ v. if v then name_in true rest else (if b == 39 then [] else b ∷ name_in false rest)) e ∙ ap (λ v. if v then [] else b ∷ name_in false rest) d

name_in-escaped : (w : List ℕ) → name_in false (flat_map escaped w ++ 39 ∷ []) ≡ w
name_in-escaped [] = refl
name_in-escaped (b ∷ bs) =
    ap (name_in false) (append_assoc (escaped b) (flat_map escaped bs) (39 ∷ [])) ∙ unescaped b (flat_map escaped bs ++ 39 ∷ []) (b == 39) (b == 92) refl refl ∙ ap (λ t. b ∷ t) (name_in-escaped bs)

pub terminal_of-spelling : (x : Terminal) → terminal_of (kind_of_terminal x) (spelling x) ≡ x
terminal_of-spelling (quoted w) = ap quoted (name_in-escaped w)
terminal_of-spelling (lower w) = refl
terminal_of-spelling (upper w) = refl
terminal_of-spelling (number w) = refl
terminal_of-spelling (distinct w) = refl
terminal_of-spelling (dollar w) = refl
terminal_of-spelling (hash w) = refl
terminal_of-spelling _ = refl

-- ---- the answers of the lexer exclude one another

offset_in : Result (Option Token) LexFault → ℕ
offset_in (Err f) = f.offset
offset_in (Ok o) = 0

pub fault-alone : (text : List ℕ) (from a b : ℕ) → IsFault text from a → IsFault text from b → a ≡ b
unfolding offset_in
fault-alone text from a b h k = ap offset_in (answers-alone text from (Err (record { offset = a })) (Err (record { offset = b })) h k)

-- ---- lists of tokens

-- two lists of tokens from one place: the same, or one goes on behind the other
pub data Compared (text : List ℕ) (ps : List Placed) (to : ℕ) (qs : List Placed) (end : ℕ) : Type 0 where
  alike : ps ≡ qs → to ≡ end → Compared text ps to qs end
  longer : (q : Placed) (back : List Placed) → qs ≡ ps ++ q ∷ back → Follow text to (q ∷ back) end → Compared text ps to qs end
  shorter : (p : Placed) (back : List Placed) → ps ≡ qs ++ p ∷ back → Follow text end (p ∷ back) to → Compared text ps to qs end

same-terminal : (text : List ℕ) (t u : Token) (x y : Terminal) → t ≡ u → t.kind ≡ kind_of_terminal x → slice_range text t.start t.end ≡ spelling x → u.kind ≡ kind_of_terminal y → slice_range text u.start u.end ≡ spelling y → x ≡ y
same-terminal text t u x y e k s l r =
    sym (terminal_of-spelling x) ∙ ap (λ w. terminal_of w (spelling x)) (sym k) ∙ ap (terminal_of t.kind) (sym s)
    ∙ ap (λ (v : Token). terminal_of v.kind (slice_range text v.start v.end)) e
    ∙ ap (terminal_of u.kind) r ∙ ap (λ w. terminal_of w (spelling y)) l ∙ terminal_of-spelling y

one-more : {text : List ℕ} {p q : Placed} {ps qs : List Placed} {to end : ℕ} → p ≡ q → Compared text ps to qs end → Compared text (p ∷ ps) to (q ∷ qs) end
one-more {p = p} e (alike k l) = alike (λ i. e i ∷ k i) l
one-more {p = p} e (longer q back k f) = longer q back (λ i. sym e i ∷ k i) f
one-more {p = p} e (shorter q back k f) = shorter q back (λ i. e i ∷ k i) f

pub compared : {text : List ℕ} {from to end : ℕ} {ps qs : List Placed} → Follow text from ps to → Follow text from qs end → Compared text ps to qs end
compared (no_token from) (no_token from2) = alike refl refl
compared (no_token from) (a_token from2 end u y qs n k s f) = longer (record { at = u.start; terminal = y }) qs refl (a_token from end u y qs n k s f)
compared (a_token from to t x ps n k s f) (no_token from2) = shorter (record { at = t.start; terminal = x }) ps refl (a_token from to t x ps n k s f)
compared {text} (a_token from to t x ps n k s f) (a_token from2 end u y qs m l r h) =
    let e : t ≡ u = same-token text from t u n m in
    let c : x ≡ y = same-terminal text t u x y e k s l r in
    let h2 : Follow text t.end qs end = subst (λ (v : Token). Follow text v.end qs end) (sym e) h in
    one-more (λ i. record { at = (e i).start; terminal = c i }) (compared f h2)

-- the first token behind a place
pub next-in : {text : List ℕ} {from to : ℕ} {q : Placed} {back : List Placed} → Follow text from (q ∷ back) to → (t : Token) × IsNext text from t
next-in (a_token from to t x ps n k s f) = (t, n)
