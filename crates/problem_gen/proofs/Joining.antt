-- Lists of which one item more is written.
use Rattle.std.proofs.Common.{◌≡◌, ℕ, zero, suc, ◌+◌, List, ◌++◌, sym, ◌∙◌, ap, append_assoc, append-nil, arith}
use Rattle.std.specs.List.{flat_map, range_with_len, repeat}

-- a repeated list grows at its end as at its beginning
pub repeat-more : (n : ℕ) (xs : List ℕ) → repeat (n + 1) xs ≡ repeat n xs ++ xs
repeat-more n xs = (let e : n + 1 ≡ suc n = omega arith in ap (λ k. repeat k xs) e) ∙ by n
  where
    by : (n : ℕ) → xs ++ repeat n xs ≡ repeat n xs ++ xs
    by zero = append-nil xs
    by (suc n) = ap (λ ys. xs ++ ys) (by n) ∙ sym (append_assoc xs (repeat n xs) xs)

-- so does what is written of a range of numbers
pub range-more : (f : ℕ → List ℕ) (a n k : ℕ) → a + n ≡ k → flat_map f (range_with_len a (n + 1)) ≡ flat_map f (range_with_len a n) ++ f k
range-more f a n k e = (let s : n + 1 ≡ suc n = omega arith in ap (λ m. flat_map f (range_with_len a m)) s) ∙ by a n k e
  where
    by : (a n k : ℕ) → a + n ≡ k → f a ++ flat_map f (range_with_len (a + 1) n) ≡ flat_map f (range_with_len a n) ++ f k
    by a zero k e = append-nil (f a) ∙ ap f (let s : a ≡ k = omega arith in s)
    by a (suc n) k e = ap (λ ys. f a ++ ys) (by (a + 1) n k (omega arith)) ∙ sym (append_assoc (f a) (flat_map f (range_with_len (a + 1) n)) (f k))

-- what was written, with one piece more
pub written-more : (out old new before after piece : List ℕ) → out ≡ old ++ before → new ≡ out ++ piece → after ≡ before ++ piece → new ≡ old ++ after
written-more out old new before after piece h k e = k ∙ ap (λ l. l ++ piece) h ∙ append_assoc old before piece ∙ sym (ap (λ l. old ++ l) e)
