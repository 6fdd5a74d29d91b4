-- What a writer holds as one write after another goes out.
use Rattle.std.proofs.Common.{◌≡◌, ◌≤◌, ◌⊎◌, inl, inr, ◌+◌, ◌-◌, ◌∙◌, ℕ, suc, zero, refl, List, ◌++◌, length, take, drop, Option, sym, ap, subst, arith}
use Rattle.std.proofs.KnownBytes.{Appends-trans}
use Rattle.std.proofs.lemmas.List.{length-drop, take_rest}
use Rattle.std.proofs.Math.Seq.{take-add}
use Rattle.std.specs.Io.KnownBytes.{Appends}

-- n of the bytes are out, and then m of the others
pub appends-next : (a b c : Option (List ℕ)) (xs : List ℕ) (n m : ℕ) → Appends a b (take n xs) → Appends b c (take m (take (length xs - n) (drop n xs))) → Appends a c (take (n + m) xs)
appends-next a b c xs n m h k =
    subst (Appends a c) (ap (λ ys. take n xs ++ take m ys) (take_rest xs n) ∙ sym (take-add n m xs)) (Appends-trans a b c (take n xs) (take m (take (length xs - n) (drop n xs))) h k)

pub within-next : (xs : List ℕ) (n m : ℕ) → n ≤ length xs → m ≤ length (take (length xs - n) (drop n xs)) → n + m ≤ length xs
within-next xs n m h k =
    let few : m ≤ length xs - n = subst (λ l. m ≤ l) (ap length (take_rest xs n) ∙ length-drop n xs) k in
    omega (arith, h, few)

-- one round more: it took a byte at least, or a write was refused
pub round-next : {A : Type 0} (rounds count n : ℕ) → (rounds ≤ count) ⊎ A → (n ≡ 0 → A) → ((rounds + 1) ≤ (count + n)) ⊎ A
round-next rounds count zero h none = inr (none refl)
round-next rounds count (suc n) (inl h) none = inl (omega (arith, h))
round-next rounds count (suc n) (inr a) none = inr a

-- so many rounds took as many bytes as there can be, or a write was refused
pub all-or-refused : {A : Type 0} (rounds count len most : ℕ) → (rounds ≤ count) ⊎ A → most ≤ rounds → count ≤ len → len ≤ most → (count ≡ len) ⊎ A
all-or-refused rounds count len most (inl h) ended within fits = inl (omega (arith, h, ended, within, fits))
all-or-refused rounds count len most (inr a) ended within fits = inr a
