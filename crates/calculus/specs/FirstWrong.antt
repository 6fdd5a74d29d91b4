-- Texts of lines, and the first wrong line of bytes that are no text. A kind of text is given by the values that have one and by the lines
-- of it. The first lines of the bytes are right as far as some text of the kind begins with them. The first wrong line is the one behind
-- the last right one, whether it is there, unfinished or missing; those before it and, where it is finished, the line itself tell its cause.
use Rattle.std.specs.Prelude.{◌≡◌, ℕ, ◌+◌, ◌≤◌, List, [], ◌∷◌, ◌++◌, length, take, Bool, ◌==◌, Option, IsTrue, slice_get, codes, if◌then◌else◌}
use Rattle.std.specs.List.{list_any, flat_map}
use Rattle.calculus.specs.Equality.{list_eq}

abbrev pub line_bytes : List ℕ → List ℕ
line_bytes line = line ++ 10 ∷ []

-- a byte in front of a list of lines
abbrev pub byte_before : ℕ → List (List ℕ) → List (List ℕ)
byte_before b [] = []
byte_before b (l ∷ ls) = (b ∷ l) ∷ ls

abbrev pub line_step : ℕ → List (List ℕ) → List (List ℕ)
line_step b ls = if b == 10 then [] ∷ ls else byte_before b ls

-- the lines that end with a line feed; an unfinished last one is left out
abbrev pub whole_lines : List ℕ → List (List ℕ)
whole_lines [] = []
whole_lines (b ∷ bs) = line_step b (whole_lines bs)

-- ---- texts

-- which values can be printed, and the lines of their texts
pub record TextKind (D : Type 0) : Type 0 where
  pub printable : D → Bool
  pub lines : D → List (List ℕ)

abbrev pub text_of : {D : Type 0} → TextKind D → D → List ℕ
text_of k d = flat_map line_bytes (k.lines d)

-- the bytes are the text of the value
pub record IsTextOf {D : Type 0} (k : TextKind D) (d : D) (bytes : List ℕ) : Type 0 where
  pub printable : IsTrue (k.printable d)
  pub text : bytes ≡ text_of k d

-- ---- right lines

-- the first n lines are those of the text of d
pub record IsRightUpTo {D : Type 0} (k : TextKind D) (bytes : List ℕ) (n : ℕ) (d : D) : Type 0 where
  pub printable : IsTrue (k.printable d)
  pub are_there : n ≤ length (whole_lines bytes)
  pub has_them : n ≤ length (k.lines d)
  pub same : take n (whole_lines bytes) ≡ take n (k.lines d)

abbrev pub IsRight : {D : Type 0} → TextKind D → List ℕ → ℕ → Type 0
IsRight {D} k bytes n = (d : D) × IsRightUpTo k bytes n d

-- the bytes are no text: n lines are right, and no more
pub record IsFaulty {D : Type 0} (k : TextKind D) (bytes : List ℕ) (n : ℕ) : Type 0 where
  pub right : IsRight k bytes n
  pub wrong : ¬ IsRight k bytes (n + 1)
  pub no_text : (d : D) → ¬ IsTextOf k d bytes

-- ---- causes

-- at each line of the head; behind the line `end`; and at another line, by those between the head and it and by itself, if it is finished
pub record Causes (C : Type 0) : Type 0 where
  pub head : List C
  pub after_end : C
  pub behind_head : List (List ℕ) → Option (List ℕ) → C

abbrev pub is_end_line : List ℕ → Bool
is_end_line l = list_eq ◌==◌ l (codes "end")

-- the cause where the line after these is the first wrong one, `head` being that of the lines from the first of these on
abbrev pub cause_from : {C : Type 0} → Causes C → (head : List C) → List (List ℕ) → Option (List ℕ) → C
cause_from k [] ls next = if list_any is_end_line ls then k.after_end else k.behind_head ls next
cause_from k (c ∷ head) [] next = c
cause_from k (c ∷ head) (l ∷ ls) next = cause_from k head ls next

abbrev pub cause_after : {C : Type 0} → Causes C → List (List ℕ) → Option (List ℕ) → C
cause_after k ls next = cause_from k k.head ls next

-- behind n lines
abbrev pub cause_at : {C : Type 0} → Causes C → List ℕ → ℕ → C
cause_at k bytes n = cause_after k (take n (whole_lines bytes)) (slice_get (whole_lines bytes) n)

-- ---- the first wrong line

-- the bytes are no text, and this is the number of their first wrong line, from 1, and its cause
pub record IsFirstWrong {D C : Type 0} (k : TextKind D) (causes : Causes C) (bytes : List ℕ) (line : ℕ) (why : C) : Type 0 where
  pub right_lines : ℕ
  pub faulty : IsFaulty k bytes right_lines
  pub place : line ≡ right_lines + 1
  pub cause : why ≡ cause_at causes bytes right_lines

-- v tells the first wrong line
pub record IsWrongText {D C V : Type 0} (k : TextKind D) (causes : Causes C) (told : ℕ → C → V) (bytes : List ℕ) (v : V) : Type 0 where
  pub line : ℕ
  pub why : C
  pub first : IsFirstWrong k causes bytes line why
  pub verdict : v ≡ told line why

-- the bytes are the text of a value, and v is the verdict on it
pub record IsJudgedText {D V : Type 0} (k : TextKind D) (judged : D → V) (bytes : List ℕ) (v : V) : Type 0 where
  pub value : D
  pub text : IsTextOf k value bytes
  pub verdict : v ≡ judged value
