-- A quoted name is read in just one way.
use Rattle.std.proofs.Common.{◌≡◌, ℕ, ◌+◌, ◌≤◌, ◌<◌, List, [], ◌∷◌, ◌++◌, Bool, true, false, ◌&&◌, ◌||◌, ◌==◌, IsTrue, Option, Some, None, refl, sym, ◌∙◌, ap, subst, arith, inl, inr, ◌⊎◌, append-nil, append_assoc, eqb-true, leb-true, le-leb, nat_le, length, drop, take, zero, suc, ◌≢◌, is_some, unwrap_or, flat_map, rules}
use Rattle.std.specs.List.{list_all}
use Rattle.std.proofs.lemmas.Bool.{false≢true, cases_Bool, or_cases, and_parts, and_from}
use Rattle.std.proofs.lemmas.List.{drop-drop, length-append, length-drop, length-take-le, take-append-drop}
use Rattle.calculus.specs.DerivationText.{IsNameAt}
use Rattle.calculus.specs.Problems.{is_name, is_name_byte}
use Rattle.calculus.specs.Text.{StopsAt, escaped, is_digit, is_lower, is_upper, is_lower_word, is_word_byte, name_text}
use Rattle.calculus.proofs.TextLaws.{cons-head, cons-tail, nil-cons, bare-text}
use Rattle.formula_text.proofs.Places.{onward-drop, stands-by}
use Rattle.formula_text.specs.Quoted.{IsWhole, after_byte, begins_lower, byte_kind, is_special, quoted_at, with_front}
use Rattle.formula_text.specs.Runs.{IsRun}
use Rattle.formula_text.specs.declared.name_reader.ByteKind.{ByteKind}
use Rattle.formula_text.specs.declared.name_reader.ByteKind.TheVariants.{Character, Escape, Close, Wrong}

pub with_front-nil : (o : Option (List ℕ × List ℕ)) → with_front [] o ≡ o
with_front-nil None = refl
with_front-nil (Some p) = refl

pub with_front-push : (front : List ℕ) (b : ℕ) (o : Option (List ℕ × List ℕ)) → with_front (front ++ b ∷ []) o ≡ with_front front (with_front (b ∷ []) o)
with_front-push front b None = refl
with_front-push front b (Some p) = ap (λ l. let o : Option (List ℕ × List ℕ) = Some (l, p.1) in o) (append_assoc front (b ∷ []) p.0)

pub ruleset quoting = (with_front-nil, with_front-push, append-nil)

-- ---- a name's characters are found

find-special : (b : ℕ) (bs : List ℕ) → is_special b ≡ true → quoted_at false (92 ∷ b ∷ bs) ≡ with_front (b ∷ []) (quoted_at false bs)
find-special b bs h = rw h refl

find-plain : (b : ℕ) (bs : List ℕ) → is_special b ≡ false → IsTrue (is_name_byte b) → quoted_at false (b ∷ bs) ≡ with_front (b ∷ []) (quoted_at false bs)
find-plain b bs h k = elim (cases_Bool (b == 39)) [
  | inl p ↦ absurd (false≢true (sym h ∙ ap (λ z. z || b == 92) p))
  | inr p ↦ elim (cases_Bool (b == 92)) [
    | inl q ↦ absurd (false≢true (sym h ∙ ap (λ z. b == 39 || z) q ∙ or_true (b == 39)))
    | inr q ↦ rw (p, q, k) refl
  ]
]
  where
    or_true : (z : Bool) → (z || true) ≡ true
    or_true true = refl
    or_true false = refl

pub quoted-complete : (n r : List ℕ) → IsTrue (list_all is_name_byte n) → quoted_at false (flat_map escaped n ++ 39 ∷ r) ≡ Some (n, r)
quoted-complete [] r h = refl
quoted-complete (b ∷ n) r h =
    let parts = and_parts (is_name_byte b) (list_all is_name_byte n) h in
    let rest : with_front (b ∷ []) (quoted_at false (flat_map escaped n ++ 39 ∷ r)) ≡ Some (b ∷ n, r) = ap (with_front (b ∷ [])) (quoted-complete n r parts.1) in
    elim (cases_Bool (is_special b)) [
      | inl p ↦ rw p (find-special b (flat_map escaped n ++ 39 ∷ r) p ∙ rest)
      | inr p ↦ rw p (find-plain b (flat_map escaped n ++ 39 ∷ r) p parts.0 ∙ rest)
    ]

-- ---- what is found is the name

none-some : {p : List ℕ × List ℕ} → None ≡ Some p → ⊥
none-some {p} e = let o : Option (List ℕ × List ℕ) = Some p in false≢true (ap is_some e)

pub some-same : (p q : List ℕ × List ℕ) → Some p ≡ Some q → p ≡ q
some-same p q e = ap (λ o. unwrap_or o p) e

front-some : (b : ℕ) (o : Option (List ℕ × List ℕ)) (n r : List ℕ) → with_front (b ∷ []) o ≡ Some (n, r) → (m : List ℕ) × (o ≡ Some (m, r)) × (n ≡ b ∷ m)
front-some b None n r e = absurd (none-some e)
front-some b (Some p) n r e =
    let q = some-same (b ∷ p.0, p.1) (n, r) e in
    (p.0, ap (λ k. let o : Option (List ℕ × List ℕ) = Some (p.0, k) in o) (ap (λ z. z.1) q), sym (ap (λ z. z.0) q))

-- the Bool tells whether a `\` stands before the bytes
abbrev with_escape : Bool → List ℕ → List ℕ
with_escape true bs = 92 ∷ bs
with_escape false bs = bs

record Reads (pending : Bool) (bs n r : List ℕ) : Type 0 where
  text : with_escape pending bs ≡ flat_map escaped n ++ 39 ∷ r
  bytes : IsTrue (list_all is_name_byte n)

special-name : (b : ℕ) → is_special b ≡ true → IsTrue (is_name_byte b)
special-name b h = elim (or_cases (b == 39) (b == 92) h) [
  | inl e ↦ rw (eqb-true b 39 e) refl
  | inr e ↦ rw (eqb-true b 92 e) refl
]

lengthened : (front : List ℕ) (b : ℕ) (bs m n r : List ℕ) → escaped b ≡ front → n ≡ b ∷ m → bs ≡ flat_map escaped m ++ 39 ∷ r → front ++ bs ≡ flat_map escaped n ++ 39 ∷ r
lengthened front b bs m n r h k e = rw (k, h, e) (sym (append_assoc front (flat_map escaped m) (39 ∷ r)))

all-longer : (b : ℕ) (m n : List ℕ) → n ≡ b ∷ m → IsTrue (is_name_byte b) → IsTrue (list_all is_name_byte m) → IsTrue (list_all is_name_byte n)
all-longer b m n k h g = rw k (and_from (is_name_byte b) (list_all is_name_byte m) h g)

-- one byte
after : (k : ByteKind) (pending : Bool) (b : ℕ) (bs : List ℕ) (x : Option (List ℕ × List ℕ)) → byte_kind pending b ≡ k → quoted_at pending (b ∷ bs) ≡ x → after_byte k b bs (quoted_at true bs) (quoted_at false bs) ≡ x
after k pending b bs x h e = ap (λ j. after_byte j b bs (quoted_at true bs) (quoted_at false bs)) (sym h) ∙ e

quoted-sound : (pending : Bool) (bs n r : List ℕ) → quoted_at pending bs ≡ Some (n, r) → Reads pending bs n r
quoted-sound pending [] n r e = absurd (none-some e)
quoted-sound true (b ∷ bs) n r e = elim (cases_Bool (is_special b)) [
  | inl h ↦
      let f = front-some b (quoted_at false bs) n r (after Character true b bs (Some (n, r)) (rw h refl) e) in
      let g = quoted-sound false bs f.0 r f.1 in
      record { text = lengthened (92 ∷ b ∷ []) b bs f.0 n r (rw h refl) f.2 g.text; bytes = all-longer b f.0 n f.2 (special-name b h) g.bytes }
  | inr h ↦ absurd (none-some (after Wrong true b bs (Some (n, r)) (rw h refl) e))
]
quoted-sound false (b ∷ bs) n r e = elim (cases_Bool (b == 39)) [
  | inl h ↦
      let q = some-same ([], bs) (n, r) (after Close false b bs (Some (n, r)) (rw h refl) e) in
      let q0 : [] ≡ n = ap (λ z. z.0) q in
      let q1 : bs ≡ r = ap (λ z. z.1) q in
      let first : b ∷ bs ≡ 39 ∷ r = λ i. eqb-true b 39 h i ∷ q1 i in
      record { text = first ∙ ap (λ m. flat_map escaped m ++ 39 ∷ r) q0; bytes = subst (λ m. IsTrue (list_all is_name_byte m)) q0 refl }
  | inr h ↦ elim (cases_Bool (b == 92)) [
    | inl k ↦
        let g = quoted-sound true bs n r (after Escape false b bs (Some (n, r)) (rw (h, k) refl) e) in
        record { text = ap (λ z. z ∷ bs) (eqb-true b 92 k) ∙ g.text; bytes = g.bytes }
    | inr k ↦ elim (cases_Bool (is_name_byte b)) [
      | inl m ↦
          let f = front-some b (quoted_at false bs) n r (after Character false b bs (Some (n, r)) (rw (h, k, m) refl) e) in
          let g = quoted-sound false bs f.0 r f.1 in
          let plain : is_special b ≡ false = rw (h, k) refl in
          record { text = lengthened (b ∷ []) b bs f.0 n r (rw plain refl) f.2 g.text; bytes = all-longer b f.0 n f.2 m g.bytes }
      | inr m ↦ absurd (none-some (after Wrong false b bs (Some (n, r)) (rw (h, k, m) refl) e))
    ]
  ]
]

-- ---- names at a place

-- a quoted name that needs its quotes
pub quoted-name : (bytes : List ℕ) (from to : ℕ) (name : List ℕ) → from < length bytes → drop from bytes ≡ 39 ∷ drop (from + 1) bytes → to ≤ length bytes
    → quoted_at false (drop (from + 1) bytes) ≡ Some (name, drop to bytes) → IsWhole name (drop to bytes) → IsNameAt bytes from to name
quoted-name bytes from to name h begins k found whole =
    let g = quoted-sound false (drop (from + 1) bytes) name (drop to bytes) found in
    record {
      written = nonempty name whole.0 g.bytes;
      stands = stands-by bytes (name_text name) from to (omega arith) k
          (rw whole.1 (begins ∙ ap (λ l. 39 ∷ l) (g.text ∙ sym (append_assoc (flat_map escaped name) (39 ∷ []) (drop to bytes)))));
      ends = whole.2;
    }
  where
    nonempty : (n : List ℕ) → n ≢ [] → IsTrue (list_all is_name_byte n) → IsTrue (is_name n)
    nonempty [] h k = absurd (h refl)
    nonempty (b ∷ n) h k = k

quoted-text : (a r : List ℕ) → is_lower_word a ≡ false → name_text a ++ r ≡ 39 ∷ (flat_map escaped a ++ 39 ∷ r)
quoted-text a r h = rw h (ap (λ l. 39 ∷ l) (append_assoc (flat_map escaped a) (39 ∷ []) r))

record Found (bytes : List ℕ) (from to : ℕ) (name : List ℕ) : Type 0 where
  whole : IsWhole name (drop to bytes)
  found : quoted_at false (drop (from + 1) bytes) ≡ Some (name, drop to bytes)

name-found : (bytes : List ℕ) (from to : ℕ) (name : List ℕ) → drop from bytes ≡ 39 ∷ drop (from + 1) bytes → IsNameAt bytes from to name → Found bytes from to name
name-found bytes from to name begins h = by name h.written h.stands.there h.ends
  where
    by : (n : List ℕ) → IsTrue (is_name n) → drop from bytes ≡ name_text n ++ drop to bytes → StopsAt is_word_byte (drop to bytes) → Found bytes from to n
    by [] w t e = absurd (false≢true w)
    by (b ∷ n) w t e = elim (cases_Bool (is_lower_word (b ∷ n))) [
      | inl l ↦ let same : 39 ∷ drop (from + 1) bytes ≡ b ∷ (n ++ drop to bytes) = sym begins ∙ t ∙ bare-text (b ∷ n) (drop to bytes) l in
          absurd (false≢true (ap is_lower (cons-head same) ∙ (and_parts (is_lower b) (list_all is_word_byte n) l).0))
      | inr l ↦
          let same : 39 ∷ drop (from + 1) bytes ≡ 39 ∷ (flat_map escaped (b ∷ n) ++ 39 ∷ drop to bytes) = sym begins ∙ t ∙ quoted-text (b ∷ n) (drop to bytes) l in
          let rest = cons-tail same in
          record { whole = ((λ z. nil-cons (sym z)), l, e); found = ap (quoted_at false) rest ∙ quoted-complete (b ∷ n) (drop to bytes) w }
    ]

-- where no characters are found no name stands
pub no_characters : (bytes : List ℕ) (from : ℕ) → drop from bytes ≡ 39 ∷ drop (from + 1) bytes → quoted_at false (drop (from + 1) bytes) ≡ None → (to : ℕ) (name : List ℕ) → ¬ IsNameAt bytes from to name
no_characters bytes from begins none to name h = none-some (sym none ∙ (name-found bytes from to name begins h).found)

-- nor where the characters are no whole name
pub no_whole : (bytes : List ℕ) (from to : ℕ) (name : List ℕ) → drop from bytes ≡ 39 ∷ drop (from + 1) bytes → quoted_at false (drop (from + 1) bytes) ≡ Some (name, drop to bytes)
    → ¬ IsWhole name (drop to bytes) → (then : ℕ) (other : List ℕ) → ¬ IsNameAt bytes from then other
no_whole bytes from to name begins found not then other h =
    let f = name-found bytes from then other begins h in
    let q = some-same (other, drop then bytes) (name, drop to bytes) (sym f.found ∙ found) in
    let q0 : other ≡ name = ap (λ z. z.0) q in
    let q1 : drop then bytes ≡ drop to bytes = ap (λ z. z.1) q in
    not (subst (λ n. IsWhole n (drop to bytes)) q0 (subst (IsWhole other) q1 f.whole))

-- a bare name
word-name : (b : ℕ) → IsTrue (is_word_byte b) → IsTrue (is_name_byte b)
word-name b h = elim (or_cases (is_lower b || is_upper b || is_digit b) (b == 95) h) [
  | inr e ↦ rw (eqb-true b 95 e) refl
  | inl k ↦ elim (or_cases (is_lower b || is_upper b) (is_digit b) k) [
    | inr d ↦ let p = and_parts (nat_le 48 b) (nat_le b 57) d in let l = leb-true 48 b p.0 in let u = leb-true b 57 p.1 in in_range b (omega arith) (omega arith)
    | inl m ↦ elim (or_cases (is_lower b) (is_upper b) m) [
      | inl d ↦ let p = and_parts (nat_le 97 b) (nat_le b 122) d in let l = leb-true 97 b p.0 in let u = leb-true b 122 p.1 in in_range b (omega arith) (omega arith)
      | inr d ↦ let p = and_parts (nat_le 65 b) (nat_le b 90) d in let l = leb-true 65 b p.0 in let u = leb-true b 90 p.1 in in_range b (omega arith) (omega arith)
    ]
  ]
]
  where
    in_range : (b : ℕ) → 32 ≤ b → b ≤ 126 → IsTrue (is_name_byte b)
    in_range b l u = rw (le-leb 32 b l, le-leb b 126 u) refl

words-name : (bs : List ℕ) → IsTrue (list_all is_word_byte bs) → IsTrue (list_all is_name_byte bs)
words-name [] h = refl
words-name (b ∷ bs) h =
    let p = and_parts (is_word_byte b) (list_all is_word_byte bs) h in
    and_from (is_name_byte b) (list_all is_name_byte bs) (word-name b p.0) (words-name bs p.1)

lower-word : (b : ℕ) → IsTrue (is_lower b) → IsTrue (is_word_byte b)
lower-word b h = rw h refl

bare-run : (rest : List ℕ) (k : ℕ) → IsTrue (begins_lower rest) → IsRun is_word_byte rest k → IsTrue (is_lower_word (take k rest)) × IsTrue (is_name (take k rest))
bare-run [] k h run = absurd (false≢true h)
bare-run (b ∷ bs) zero h run = absurd (false≢true (sym run.stops ∙ lower-word b h))
bare-run (b ∷ bs) (suc k) h run =
    let p = and_parts (is_word_byte b) (list_all is_word_byte (take k bs)) run.passes in
    (and_from (is_lower b) (list_all is_word_byte (take k bs)) h p.1, words-name (b ∷ take k bs) run.passes)

pub bare-name : (bytes rest : List ℕ) (from k : ℕ) (name : List ℕ) → from < length bytes → rest ≡ drop from bytes → IsTrue (begins_lower (drop from bytes)) → IsRun is_word_byte rest k → name ≡ take k rest → IsNameAt bytes from (from + k) name
bare-name bytes rest from k name h same begins run e =
    let facts = bare-run rest k (subst (λ l. IsTrue (begins_lower l)) (sym same) begins) run in
    let onward : drop (from + k) bytes ≡ drop k rest = onward-drop bytes from k ∙ ap (drop k) (sym same) in
    rw e (record {
      written = facts.1;
      stands = record { there = rw facts.0 (sym same ∙ sym (take-append-drop k rest) ∙ ap (λ l. take k rest ++ l) (sym onward)); place = rw (facts.0, length-take-le k rest run.within) refl };
      ends = subst (StopsAt is_word_byte) (sym onward) run.stops;
    })
