-- Each text has a reading, and so has a formula at each place of a text.
use Rattle.std.proofs.Common.{◌≡◌, ◌<◌, ◌≤◌, ◌+◌, ◌⊎◌, ℕ, zero, suc, Bool, true, false, List, [], ◌∷◌, ◌++◌, Option, None, Some, Result, Ok, Err, inl, inr, refl, sym, ◌∙◌, append_assoc, subst, arith, length}
use Rattle.std.specs.Prelude.{nat_lt}
use Rattle.std.proofs.lemmas.Bool.{false≢true, lt-ltb, ltb-true}
use Rattle.tptp_lex.specs.declared.tokens.LexFault.{LexFault}
use Rattle.tptp_lex.specs.declared.tokens.Token.{Token}
use Rattle.tptp_lex.specs.Answers.{IsNext, OnlySpace, IsAnswer}
use Rattle.tptp_reader.specs.declared.fault.ReadCause.TheVariants.{Syntax}
use Rattle.tptp_reader.specs.Sources.{Item}
use Rattle.tptp_reader.specs.Terminals.{Terminal, Placed, terminals, offsets, Follow, no_token}
use Rattle.tptp_reader.specs.Meaning.{items_of}
use Rattle.tptp_reader.specs.Faults.{TextLanguage, FollowsAt, IsTooDeep, AreShallow, cause_at, wrong, too_deep, at_token, at_no_token, at_end, at_depth}
use Rattle.tptp_reader.specs.Reading.{Outcome, reads, fails, IsReading}
use Rattle.tptp_reader.specs.Expecting.{Expected, items, all_optional, step, run}
use Rattle.tptp_reader.proofs.FollowLaws.{text-read, no-step, nesting-alone}
use Rattle.tptp_reader.proofs.FaultLaws.{Begins, whole-begins, terminals-append}
use Rattle.tptp_reader.proofs.OneReading.{split-last}
use Rattle.tptp_reader.proofs.ExactLaws.{text-written, step-follows, ends-whole, whole-ends, text-goes-on}
use Rattle.tptp_reader.proofs.Lexing.{Answered, answered, said, snoc}
use Rattle.tptp_reader.proofs.Deciding.{RunOf, got, lost, run-of, begins-run, place-of}

-- what has been read so far can go on, and no token of it is too deep
record So_far (modal : Bool) (text : List ℕ) (front : List Placed) (to : ℕ) : Type 0 where
  pub there : Follow text 0 front to
  pub begins : Begins (TextLanguage modal) (terminals front)
  pub shallow : AreShallow (TextLanguage modal) (terminals front)

-- one token more that is not too deep
pub shallow-snoc : (modal : Bool) (ts : List Terminal) (x : Terminal) (n : ℕ) → AreShallow (TextLanguage modal) ts → FollowsAt (TextLanguage modal) ts x n → n ≤ 500 → AreShallow (TextLanguage modal) (ts ++ x ∷ [])
shallow-snoc modal ts x n s f l = λ front back y e d. by front back y d (split-last front back ts y x e)
  where
    by : (front back : List Terminal) (y : Terminal) → IsTooDeep (TextLanguage modal) front y → ((more : List Terminal) × (ts ≡ front ++ y ∷ more)) ⊎ ((ts ≡ front) × (x ≡ y)) → ⊥
    by front back y d (inl m) = s front m.0 y m.1 d
    by front back y d (inr m) =
        let g : FollowsAt (TextLanguage modal) front y n = subst (λ t. FollowsAt (TextLanguage modal) front t n) m.1 (subst (λ t. FollowsAt (TextLanguage modal) t x n) m.0 f) in
        let k : d.0 ≡ n = nesting-alone modal (TextLanguage modal) (items ∷ []) (text-read modal) front y d.0 n d.1 g in
        let h : 500 < d.0 = d.2 in
        omega (arith, k, h, l)

-- the tokens with this one begin a text
pub follows-begins : (modal : Bool) (ts : List Terminal) (x : Terminal) (n : ℕ) → FollowsAt (TextLanguage modal) ts x n → Begins (TextLanguage modal) (ts ++ x ∷ [])
follows-begins modal ts x n f = record { rest = f.0; nestings = f.1; whole = subst (λ t. TextLanguage modal t f.1) (sym (append_assoc ts (x ∷ []) f.0)) f.2 }

abbrev Reads : Bool → List ℕ → Type 0
Reads modal text = (r : Outcome (List Item)) × IsReading modal text r

next-place : (text : List ℕ) (from : ℕ) (t : Token) → IsNext text from t → (from < t.end) × (t.end ≤ length text)
next-place text from t h = (omega (arith, h.onward, h.not_empty), h.within)

not-deep : (n : ℕ) → nat_lt 500 n ≡ false → n ≤ 500
not-deep n q = omega (arith, λ (l : 500 < n). false≢true (sym q ∙ lt-ltb 500 n l))

-- what one step of reading leads to: a reading, or one token more
data Turn (modal : Bool) (text : List ℕ) (to : ℕ) : Type 0 where
  ended : Reads modal text → Turn modal text to
  onward : (front : List Placed) (next : ℕ) → to < next → next ≤ length text → So_far modal text front next → Turn modal text to

whole-turn : (modal : Bool) (text : List ℕ) (front : List Placed) (to : ℕ) → So_far modal text front to → OnlySpace text to → (before : List ℕ) (now : List Expected) → run modal (items ∷ []) (terminals front) ≡ Some (before, now) → (b : Bool) → all_optional now ≡ b → Reads modal text
whole-turn modal text front to s o before now e true h =
    let w = ends-whole modal (TextLanguage modal) (items ∷ []) (text-written modal) (terminals front) before now e h in
    (reads (items_of (offsets front) w.0), record { tokens = front; to = to; trees = w.0; there = s.there; all = o; written = w.2; fit = w.1; shallow = s.shallow; meant = refl })
whole-turn modal text front to s o before now e false h = (
  fails (wrong (length text) Syntax),
  at_end front to s.there s.shallow (text-goes-on modal (terminals front) s.begins)
      (λ w. false≢true (sym h ∙ whole-ends modal (TextLanguage modal) (items ∷ []) (text-read modal) (terminals front) before now e w)) o,
)

token-turn : (modal : Bool) (text : List ℕ) (front : List Placed) (to : ℕ) → So_far modal text front to → (t : Token) → IsNext text to t → (p : Placed) → Follow text 0 (front ++ p ∷ []) t.end → (before : List ℕ) (now : List Expected) → run modal (items ∷ []) (terminals front) ≡ Some (before, now) → Turn modal text to
token-turn modal text front to s t h p f before now e = by (step modal now p.terminal) refl
  where
    deep : (r : ℕ × List Expected) → FollowsAt (TextLanguage modal) (terminals front) p.terminal r.0 → (b : Bool) → nat_lt 500 r.0 ≡ b → Turn modal text to
    deep r g true q = ended (fails (too_deep p.at), at_depth front p t.end f s.shallow (r.0, g, ltb-true 500 r.0 q))
    deep r g false q =
        let n = next-place text to t h in
        let l : r.0 ≤ 500 = not-deep r.0 q in
        onward (front ++ p ∷ []) t.end n.0 n.1 (record {
          there = f;
          begins = subst (Begins (TextLanguage modal)) (sym (terminals-append front (p ∷ []))) (follows-begins modal (terminals front) p.terminal r.0 g);
          shallow = subst (AreShallow (TextLanguage modal)) (sym (terminals-append front (p ∷ []))) (shallow-snoc modal (terminals front) p.terminal r.0 s.shallow g l);
        })

    by : (m : Option (ℕ × List Expected)) → step modal now p.terminal ≡ m → Turn modal text to
    by (Some r) q = deep r (step-follows modal (TextLanguage modal) (items ∷ []) (text-written modal) (terminals front) p.terminal before now r e q) (nat_lt 500 r.0) refl
    by None q =
        let c = place-of modal (terminals front) in
        ended (
          fails (wrong p.at (cause_at modal c.0 p.terminal)),
          at_token front p t.end (cause_at modal c.0 p.terminal) f s.shallow (text-goes-on modal (terminals front) s.begins)
              (no-step modal (TextLanguage modal) (items ∷ []) (text-read modal) (terminals front) p.terminal before now e q) (c.0, c.1, refl),
        )

turn : (modal : Bool) (text : List ℕ) (front : List Placed) (to : ℕ) → to ≤ length text → So_far modal text front to → Turn modal text to
turn modal text front to within s = by (run-of modal (items ∷ []) (terminals front)) (answered text to within)
  where
    at : (before : List ℕ) (now : List Expected) → run modal (items ∷ []) (terminals front) ≡ Some (before, now) → (a : Result (Option Token) LexFault) → IsAnswer text to a → Turn modal text to
    at before now e (Ok None) h = ended (whole-turn modal text front to s h before now e (all_optional now) refl)
    at before now e (Ok (Some t)) h = let k = said h.is_token in token-turn modal text front to s t h (record { at = t.start; terminal = k.terminal }) (snoc s.there t h k) before now e
    at before now e (Err f) h = ended (fails (wrong f.offset Syntax), at_no_token front to f.offset s.there s.shallow (text-goes-on modal (terminals front) s.begins) h)

    by : RunOf modal (items ∷ []) (terminals front) → Answered text to → Turn modal text to
    by (got before now e) a = at before now e a.answer a.is_answer
    by (lost e) a = absurd (begins-run modal (TextLanguage modal) (items ∷ []) (text-read modal) (terminals front) e s.begins)

reading-from : (modal : Bool) (text : List ℕ) (n : ℕ) (front : List Placed) (to : ℕ) → length text ≤ to + n → to ≤ length text → So_far modal text front to → Reads modal text
reading-from modal text zero front to bound within s = by (turn modal text front to within s)
  where
    by : Turn modal text to → Reads modal text
    by (ended r) = r
    by (onward other next l k z) = absurd (omega (arith, l, k, bound))
reading-from modal text (suc n) front to bound within s = by (turn modal text front to within s) (λ other next l k z. reading-from modal text n other next (omega (arith, l, bound)) k z)
  where
    by : Turn modal text to → ((other : List Placed) (next : ℕ) → to < next → next ≤ length text → So_far modal text other next → Reads modal text) → Reads modal text
    by (ended r) on = r
    by (onward other next l k z) on = on other next l k z

-- Each text has a reading.
pub reading-of : (modal : Bool) (text : List ℕ) → (r : Outcome (List Item)) × IsReading modal text r
reading-of modal text =
    reading-from modal text (length text) [] 0 (omega arith) (omega arith) (record {
      there = no_token 0;
      begins = whole-begins (TextLanguage modal) [] [] ([], refl, refl, refl);
      shallow = λ front back x e d. none front back x e;
    })
  where
    none : (front back : List Terminal) (x : Terminal) → [] ≡ front ++ x ∷ back → ⊥
    none [] back x e = cc
    none (y ∷ ys) back x e = cc
