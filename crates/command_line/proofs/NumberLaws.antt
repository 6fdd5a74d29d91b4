-- Numbers as they are written in words.
use Rattle.std.proofs.Common.{◌≡◌, ℕ, ◌<◌, ◌≤◌, ◌^◌, List, [], Bool, true, false, ◌&&◌, ◌==◌, Some, None, Result, Ok, IsTrue, nat_le, refl, sym, ◌∙◌, ap, arith, decimal, if◌then◌else◌}
use Rattle.std.specs.Str.Parse.{ParsesUnsigned, digits_value}
use Rattle.std.proofs.lemmas.Bool.{and_parts, and_from, le-leb, leb-true}
use Rattle.std.proofs.lemmas.Fmt.{decimal_is_IsNumeral, parse-decimal}
use Rattle.calculus.proofs.EqualityLaws.{list_eq-tells, nat_eq-tells}
use Rattle.command_line.specs.Table.{Word, is}
use Rattle.command_line.specs.Values.{number_of}

pub parsed : {E : Type 0} (bs : List ℕ) (n : ℕ) (r : Result ℕ E) → n < 2 ^ 64 → bs ≡ decimal n → ParsesUnsigned 64 10 bs r → r ≡ Ok n
parsed bs n r h e p = parse-decimal 64 n bs r h h e p

-- ---- the number of a word

is-tells : (w v : Word) → (IsTrue (is w v) → w ≡ v) × (w ≡ v → IsTrue (is w v))
is-tells w v = list_eq-tells ◌==◌ nat_eq-tells w v

if-fits : (t : Bool) (n : ℕ) → t ≡ true → (if t then Some n else None) ≡ Some n
if-fits t n e = rw e refl

pub number-some : (most n : ℕ) (w : Word) → n < 2 ^ 64 → w ≡ decimal n → 1 ≤ n → n ≤ most → number_of most w ≡ Some n
number-some most n w h e from to =
    let value : digits_value 10 w ≡ n = ap (digits_value 10) e ∙ (decimal_is_IsNumeral n h).1 in
    let plain = (is-tells w (decimal n)).1 e in
    let ranged = and_from (is w (decimal n)) (nat_le 1 n) plain (le-leb 1 n from) in
    ap (λ k. if is w (decimal k) && nat_le 1 k && nat_le k most then Some k else None) value
    ∙ if-fits (is w (decimal n) && nat_le 1 n && nat_le n most) n (and_from (is w (decimal n) && nat_le 1 n) (nat_le n most) ranged (le-leb n most to))

if-not : (t : Bool) (n : ℕ) → (IsTrue t → ⊥) → (if t then Some n else None) ≡ None
if-not true n h = absurd (h refl)
if-not false n h = refl

pub number-none : (most : ℕ) (w : Word) → most < 2 ^ 64 → ((n : ℕ) → n < 2 ^ 64 → w ≡ decimal n → 1 ≤ n → n ≤ most → ⊥) → number_of most w ≡ None
number-none most w h none = if-not (is w (decimal (digits_value 10 w)) && nat_le 1 (digits_value 10 w) && nat_le (digits_value 10 w) most) (digits_value 10 w) none-fits
  where
    none-fits : IsTrue (is w (decimal (digits_value 10 w)) && nat_le 1 (digits_value 10 w) && nat_le (digits_value 10 w) most) → ⊥
    none-fits t =
        let n = digits_value 10 w in
        let outer = and_parts (is w (decimal n) && nat_le 1 n) (nat_le n most) t in
        let inner = and_parts (is w (decimal n)) (nat_le 1 n) outer.0 in
        let to : n ≤ most = leb-true n most outer.1 in
        none n (omega (arith, to, h)) ((is-tells w (decimal n)).0 inner.0) (leb-true 1 n inner.1) to

-- a number that is too great, or 0, is none
pub number-outside : (most n : ℕ) (w : Word) → most < 2 ^ 64 → n < 2 ^ 64 → w ≡ decimal n → (1 ≤ n → n ≤ most → ⊥) → number_of most w ≡ None
number-outside most n w h small e outside = number-none most w h (λ m k f from to.
    let same : m ≡ n = sym (decimal_is_IsNumeral m k).1 ∙ ap (digits_value 10) (sym f ∙ e) ∙ (decimal_is_IsNumeral n small).1 in
    outside (omega (arith, same, from)) (omega (arith, same, to)))
