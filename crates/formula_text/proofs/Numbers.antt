-- Digits that are no number's decimal form.
use Rattle.std.proofs.Common.{◌≡◌, ℕ, ◌<◌, ◌^◌, List, ◌++◌, take, drop, Result, Ok, sym, ◌∙◌, subst, decimal, [], lt_of_lt_of_le, lit≤, ltb-true}
use Rattle.std.specs.Str.{IsUtf8}
use Rattle.std.specs.Str.Parse.{ParsesUnsigned}
use Rattle.std.proofs.lemmas.Fmt.{IsAscii-decimal, parse-decimal}
use Rattle.std.proofs.lemmas.Str.{IsUtf8-from_ascii}
use Rattle.std.proofs.lemmas.List.{take-append-drop}
use Rattle.calculus.specs.Text.{is_digit}
use Rattle.calculus.proofs.TextLaws.{decimal-digits, split-run}
use Rattle.formula_text.specs.Runs.{IsNumberAt, IsRun}

pub small : (n : ℕ) → n < 2 ^ 32 → n < 2 ^ 64
small n h = lt_of_lt_of_le h (lit≤ tt)

pub decimal-utf8 : (bs : List ℕ) (n : ℕ) → n < 2 ^ 32 → bs ≡ decimal n → IsUtf8 bs
decimal-utf8 bs n h e = subst IsUtf8 (sym e) (IsUtf8-from_ascii (decimal n) (IsAscii-decimal n (small n h)))

pub parsed : {E : Type 0} (bs : List ℕ) (n : ℕ) (r : Result ℕ E) → n < 2 ^ 32 → bs ≡ decimal n → ParsesUnsigned 32 10 bs r → r ≡ Ok n
parsed bs n r h e p = parse-decimal 32 n bs r h (small n h) e p

-- the digits of the number that stands at a place are all digits there
pub digits-of_number : (bytes rest : List ℕ) (from to n k : ℕ) → rest ≡ drop from bytes → IsRun is_digit rest k → IsNumberAt bytes from to n → take k rest ≡ decimal n
digits-of_number bytes rest from to n k same run h =
    let e : take k rest ++ drop k rest ≡ decimal n ++ drop to bytes = take-append-drop k rest ∙ same ∙ h.stands.there in
    (split-run is_digit (take k rest) (decimal n) (drop k rest) (drop to bytes) run.passes (decimal-digits n (small n (ltb-true n (2 ^ 32) h.small))) run.stops h.ends e).0
