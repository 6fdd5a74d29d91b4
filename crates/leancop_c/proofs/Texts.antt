-- Words that are UTF-8.
use Rattle.std.proofs.Common.{◌≡◌, ℕ, List, Bool, true, false, refl}
use Rattle.std.specs.Str.{IsUtf8, is_utf8}
use Rattle.std.proofs.lemmas.Str.{IsUtf8-from_is_utf8, is_utf8-from_IsUtf8}

by-test : (b : Bool) (bs : List ℕ) → is_utf8 bs ≡ b → ¬ (IsUtf8 bs) → b ≡ false
by-test true bs e h = absurd (h (IsUtf8-from_is_utf8 bs e))
by-test false bs e h = refl

pub not_utf8 : (bs : List ℕ) → ¬ (IsUtf8 bs) → is_utf8 bs ≡ false
not_utf8 bs h = by-test (is_utf8 bs) bs refl h

pub are_utf8 : (bs : List ℕ) → IsUtf8 bs → is_utf8 bs ≡ true
are_utf8 bs h = is_utf8-from_IsUtf8 bs h
