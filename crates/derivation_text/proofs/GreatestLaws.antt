-- The greatest of numbers that come in order, one number after the other.
use Rattle.std.proofs.Common.{if◌then◌else◌, ◌≡◌, ℕ, suc, List, [], ◌∷◌, ◌++◌, length, Bool, true, false, ◌==◌, Option, Some, None, nat_le, refl, sym, ◌∙◌, ap}
use Rattle.calculus.specs.Syntax.{spare}
use Rattle.calculus.specs.Versions.{NumberedDerivation, numbering, stated}
use Rattle.derivation_text.specs.InOrder.{greatest_from, greatest_in_order, label_numbers, term_numbers}
use Rattle.derivation_text.specs.Listing.{AreApart}
use Rattle.derivation_text.specs.NumbersView.{AreAmong}
use Rattle.derivation_text.proofs.AmongLaws.{among-numbers}
use Rattle.derivation_text.proofs.OrderLaws.{in-order}

-- ---- one number

-- ---- numbers behind others

pub greatest-append : (s : ℕ) (xs ys : List ℕ) → greatest_in_order s (xs ++ ys) ≡ greatest_from (greatest_in_order s xs) ys
greatest-append s [] ys = refl
greatest-append s (k ∷ xs) ys = by (nat_le k s) (k == suc s) (greatest-append s xs ys) (greatest-append (suc s) xs ys)
  where
    by : (b c : Bool) → greatest_in_order s (xs ++ ys) ≡ greatest_from (greatest_in_order s xs) ys → greatest_in_order (suc s) (xs ++ ys) ≡ greatest_from (greatest_in_order (suc s) xs) ys
        → (if b then greatest_in_order s (xs ++ ys) else (if c then greatest_in_order (suc s) (xs ++ ys) else None)) ≡ greatest_from (if b then greatest_in_order s xs else (if c then greatest_in_order (suc s) xs else None)) ys
    by true c e f = e
    by false true e f = f
    by false false e f = refl

-- ---- loops over items with a number or none

-- ---- in order

pub all-in_order : (x : NumberedDerivation) (m n : ℕ) (p q : Option ℕ) → AreAmong x → AreApart x.labels [] → AreApart x.terms (spare 0) → p ≡ greatest_in_order 0 (label_numbers x) → p ≡ Some m → m ≡ length x.labels → q ≡ greatest_in_order 0 (term_numbers x) → q ≡ Some n → n ≡ length x.terms → x ≡ numbering (stated x)
all-in_order x m n p q among labels terms e f g h j k =
    let a = among-numbers x among in
    sym (in-order x labels terms a.0 a.1 (sym e ∙ f ∙ ap Some g) (sym h ∙ j ∙ ap Some k))
