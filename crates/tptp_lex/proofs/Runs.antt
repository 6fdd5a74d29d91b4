-- Runs of bytes of one kind, and small facts of lists.
use Rattle.std.proofs.Common.{◌≡◌, ℕ, ◌-◌, ◌≤◌, List, [], ◌∷◌, ◌++◌, Bool, true, false, IsTrue, None, Some, refl, ◌∙◌, ap, length, drop, if◌then◌else◌, arith}
use Rattle.std.specs.List.{list_all}
use Rattle.std.specs.Option.{unwrap_or}
use Rattle.std.proofs.lemmas.Bool.{false≢true, and_parts, and_from}
use Rattle.std.proofs.lemmas.List.{length-append, drop_at}
use Rattle.plain_laws.proofs.Options.{none_some}
use Rattle.calculus.specs.Text.{StopsAt, is_digit, is_lower, is_lower_word, is_word_byte}
use Rattle.tptp_lex.specs.Scanning.{after_digits, after_lower, after_run}
use Rattle.tptp_lex.specs.Tokens.{is_digits}

pub some-is : {A : Type 0} {a b : A} → Some a ≡ Some b → a ≡ b
some-is {A} {a} e = ap (λ o. unwrap_or o a) e

pub both-cons : {a b : ℕ} {xs ys : List ℕ} → a ≡ b → xs ≡ ys → a ∷ xs ≡ b ∷ ys
both-cons e h = λ i. e i ∷ h i

pub run-over : (p : ℕ → Bool) (w rest : List ℕ) → IsTrue (list_all p w) → after_run p (w ++ rest) ≡ after_run p rest
run-over p [] rest h = refl
run-over p (b ∷ bs) rest h = let parts = and_parts (p b) (list_all p bs) h in rw parts.0 (run-over p bs rest parts.1)

pub run-shorter : (p : ℕ → Bool) (bs : List ℕ) → length (after_run p bs) ≤ length bs
run-shorter p [] = omega arith
run-shorter p (b ∷ bs) = by (p b) (run-shorter p bs)
  where
    by : (t : Bool) → length (after_run p bs) ≤ length bs → length (if t then after_run p bs else b ∷ bs) ≤ length (b ∷ bs)
    by true h = omega arith
    by false h = omega arith

pub record RunSplit (p : ℕ → Bool) (bytes rest : List ℕ) : Type 0 where
  pub front : List ℕ
  pub whole : bytes ≡ front ++ rest
  pub all : IsTrue (list_all p front)
  pub stops : StopsAt p rest

pub run-split : (p : ℕ → Bool) (bs : List ℕ) → RunSplit p bs (after_run p bs)
run-split p [] = record { front = []; whole = refl; all = refl; stops = tt }
run-split p (b ∷ bs) = by (p b) refl (run-split p bs)
  where
    by : (t : Bool) → p b ≡ t → RunSplit p bs (after_run p bs) → RunSplit p (b ∷ bs) (if t then after_run p bs else b ∷ bs)
    by true e s = record { front = b ∷ s.front; whole = both-cons refl s.whole; all = and_from (p b) (list_all p s.front) e s.all; stops = s.stops }
    by false e s = record { front = []; whole = refl; all = refl; stops = e }

pub lower-over : (w rest : List ℕ) → IsTrue (is_lower_word w) → after_lower (w ++ rest) ≡ Some (after_run is_word_byte rest)
lower-over [] rest h = absurd (false≢true h)
lower-over (b ∷ bs) rest h =
    let parts = and_parts (is_lower b) (list_all is_word_byte bs) h in
    rw parts.0 (ap Some (run-over is_word_byte bs rest parts.1))

pub digits-over : (ds rest : List ℕ) → IsTrue (is_digits ds) → after_digits (ds ++ rest) ≡ Some (after_run is_digit rest)
digits-over [] rest h = absurd (false≢true h)
digits-over (b ∷ bs) rest h =
    let parts = and_parts (is_digit b) (list_all is_digit bs) h in
    rw parts.0 (ap Some (run-over is_digit bs rest parts.1))

-- the bytes begin with some that pass a test, and the rest is after them
pub record Begins (p : List ℕ → Bool) (bytes rest : List ℕ) : Type 0 where
  pub front : List ℕ
  pub whole : bytes ≡ front ++ rest
  pub passes : IsTrue (p front)

pub lower-split : (bs rest : List ℕ) → after_lower bs ≡ Some rest → Begins is_lower_word bs rest
lower-split [] rest h = absurd (none_some h)
lower-split (b ∷ bs) rest h = by (is_lower b) refl h
  where
    s : RunSplit is_word_byte bs (after_run is_word_byte bs)
    s = run-split is_word_byte bs

    by : (t : Bool) → is_lower b ≡ t → (if t then Some (after_run is_word_byte bs) else None) ≡ Some rest → Begins is_lower_word (b ∷ bs) rest
    by true e h = record { front = b ∷ s.front; whole = both-cons refl (s.whole ∙ ap (λ r. s.front ++ r) (some-is h)); passes = and_from (is_lower b) (list_all is_word_byte s.front) e s.all }
    by false e h = absurd (none_some h)

pub digits-split : (bs rest : List ℕ) → after_digits bs ≡ Some rest → Begins is_digits bs rest
digits-split [] rest h = absurd (none_some h)
digits-split (b ∷ bs) rest h = by (is_digit b) refl h
  where
    s : RunSplit is_digit bs (after_run is_digit bs)
    s = run-split is_digit bs

    by : (t : Bool) → is_digit b ≡ t → (if t then Some (after_run is_digit bs) else None) ≡ Some rest → Begins is_digits (b ∷ bs) rest
    by true e h = record { front = b ∷ s.front; whole = both-cons refl (s.whole ∙ ap (λ r. s.front ++ r) (some-is h)); passes = and_from (is_digit b) (list_all is_digit s.front) e s.all }
    by false e h = absurd (none_some h)

-- where a list's end begins
pub end-at : (front rest whole : List ℕ) → whole ≡ front ++ rest → drop (length whole - length rest) whole ≡ rest
end-at front rest whole e =
    let n : length front ≡ length whole - length rest = omega (arith, ap length e, length-append front rest) in
    ap (drop (length whole - length rest)) e ∙ drop_at front rest (length whole - length rest) n
