-- What the parts of a line begin with, and that nothing else does.
use Rattle.std.proofs.Common.{◌≡◌, ℕ, ◌+◌, ◌≤◌, ◌<◌, ◌^◌, List, [], length, Bool, sym, ◌∙◌, ap, subst, append-nil, decimal, nat_le, leb-true, arith, lt-ltb, lit<, lt_of_le_of_lt, ◌==◌, false}
use Rattle.std.proofs.lemmas.Bool.{and_parts, true≢false}
use Rattle.calculus.specs.Derivations.{Label}
use Rattle.calculus.specs.DerivationText.{IsLabelAt}
use Rattle.calculus.specs.Text.{Ends, StopsAt, is_digit, is_number, label_text}
use Rattle.calculus.proofs.TextLaws.{decimal-split}
use Rattle.calculus.proofs.TermTextLaws.{small-number, label-split}
use Rattle.formula_text.specs.Runs.{IsNumberAt}
use Rattle.formula_text.proofs.Places.{after-text, stands-front}
use Rattle.text_lines.specs.Spelling.{IsLabel, IsLabelBefore, IsLimit, IsNameNumber, IsNumber, IsNumberBefore}

pub not-empty : (xs : List ℕ) (b : Bool) → b ≡ (length xs == 0) → b ≡ false → xs ≡ [] → ⊥
not-empty xs b i j e = true≢false (sym (ap (λ l. length l == 0) e) ∙ sym i ∙ j)

-- ---- numbers

pub number-at : (bytes : List ℕ) (n : ℕ) (rest : List ℕ) → IsNumberBefore bytes n rest → IsNumberAt bytes 0 (0 + length (decimal n)) n
number-at bytes n rest h = record {
  small = h.small;
  stands = stands-front bytes (decimal n) rest 0 h.all;
  ends = subst (StopsAt is_digit) (sym (after-text bytes (decimal n) rest 0 h.all)) h.stops;
}

pub number-unique : (bytes : List ℕ) (m n : ℕ) (r s : List ℕ) → IsNumberBefore bytes m r → IsNumberBefore bytes n s → (m ≡ n) × (r ≡ s)
number-unique bytes m n r s x y = decimal-split m n r s (small-number m x.small) (small-number n y.small) x.stops y.stops (sym x.all ∙ y.all)

pub number-front : (bytes : List ℕ) (n : ℕ) → IsNumber bytes n → IsNumberBefore bytes n []
number-front bytes n h = record { small = h.written; all = h.same ∙ sym (append-nil (decimal n)); stops = tt }

pub number-rest : (bytes : List ℕ) (m : ℕ) (rest : List ℕ) → IsNumberBefore bytes m rest → (n : ℕ) → IsNumber bytes n → rest ≡ []
number-rest bytes m rest h n k = (number-unique bytes m n rest [] h (number-front bytes n k)).1

pub whole-unique : (bytes : List ℕ) (m n : ℕ) → IsNumber bytes m → IsNumber bytes n → m ≡ n
whole-unique bytes m n h k = (number-unique bytes m n [] [] (number-front bytes m h) (number-front bytes n k)).0

pub of_name : (bytes : List ℕ) (n : ℕ) → IsNameNumber bytes n → IsNumber bytes n
of_name bytes n h = record { written = (and_parts (nat_le 1 n) (is_number n) h.written).1; same = h.same }

pub no-name : (bytes : List ℕ) (m : ℕ) → IsNumber bytes m → m < 1 → (n : ℕ) → IsNameNumber bytes n → ⊥
no-name bytes m h lt n k =
    let e = whole-unique bytes m n h (of_name bytes n k) in
    let g = leb-true 1 n (and_parts (nat_le 1 n) (is_number n) k.written).0 in
    omega arith

pub limit-bounds : (bytes : List ℕ) (n : ℕ) → IsLimit bytes n → (1 ≤ n) × (n ≤ 200)
limit-bounds bytes n h = let p = and_parts (nat_le 1 n) (nat_le n 200) h.written in (leb-true 1 n p.0, leb-true n 200 p.1)

pub of_limit : (bytes : List ℕ) (n : ℕ) → IsLimit bytes n → IsNumber bytes n
of_limit bytes n h = record { written = lt-ltb n (2 ^ 32) (lt_of_le_of_lt (limit-bounds bytes n h).1 (lit< tt)); same = h.same }

pub limit-within : (bytes : List ℕ) (m : ℕ) → IsNumber bytes m → (n : ℕ) → IsLimit bytes n → (1 ≤ m) × (m ≤ 200)
limit-within bytes m h n k = let e = whole-unique bytes m n h (of_limit bytes n k) in let b = limit-bounds bytes n k in (omega arith, omega arith)

-- ---- labels

pub label-at : (bytes : List ℕ) (w : Label) (rest : List ℕ) → IsLabelBefore bytes w rest → IsLabelAt bytes 0 (0 + length (label_text w)) w
label-at bytes w rest h = record {
  written = h.written;
  stands = stands-front bytes (label_text w) rest 0 h.all;
  ends = subst Ends (sym (after-text bytes (label_text w) rest 0 h.all)) h.ends;
}

pub label-unique : (bytes : List ℕ) (w v : Label) (r s : List ℕ) → IsLabelBefore bytes w r → IsLabelBefore bytes v s → (w ≡ v) × (r ≡ s)
label-unique bytes w v r s x y = label-split w v r s x.written y.written (sym x.all ∙ y.all)

pub label-front : (bytes : List ℕ) (w : Label) → IsLabel bytes w → IsLabelBefore bytes w []
label-front bytes w h = record { written = h.written; all = h.same ∙ sym (append-nil (label_text w)); ends = tt }

pub label-rest : (bytes : List ℕ) (v : Label) (rest : List ℕ) → IsLabelBefore bytes v rest → (w : Label) → IsLabel bytes w → rest ≡ []
label-rest bytes v rest h w k = (label-unique bytes v w rest [] h (label-front bytes w k)).1
