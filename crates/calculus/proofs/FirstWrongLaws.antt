-- Bytes have at most one first wrong line, and are a text or have one: at most one verdict as a text of a kind.
use Rattle.std.proofs.Common.{◌≡◌, ◌⊎◌, ℕ, zero, suc, ◌+◌, ◌≤◌, List, [], ◌∷◌, length, take, refl, sym, ◌∙◌, ap, inl, inr, arith, le_of_suc-le-suc, not-suc-le-zero}
use Rattle.std.proofs.lemmas.Bool.{cases_order}
use Rattle.calculus.specs.FirstWrong.{whole_lines, TextKind, IsTextOf, IsRight, IsFaulty, Causes, cause_at, IsFirstWrong, IsWrongText, IsJudgedText}

pub take-less : {A : Type 0} (k n : ℕ) (xs ys : List A) → k ≤ n → take n xs ≡ take n ys → take k xs ≡ take k ys
take-less zero n xs ys le e = refl
take-less (suc k) zero xs ys le e = absurd (not-suc-le-zero le)
take-less (suc k) (suc n) [] [] le e = refl
take-less {A} (suc k) (suc n) [] (y ∷ ys) le e = absurd (no_item e)
  where
    no_item : [] ≡ y ∷ take n ys → ⊥
    no_item f = let h : 0 ≡ suc (length (take n ys)) = ap length f in omega arith
take-less {A} (suc k) (suc n) (x ∷ xs) [] le e = absurd (no_item e)
  where
    no_item : x ∷ take n xs ≡ [] → ⊥
    no_item f = let h : suc (length (take n xs)) ≡ 0 = ap length f in omega arith
take-less {A} (suc k) (suc n) (x ∷ xs) (y ∷ ys) le e =
    let rest = take-less k n xs ys (le_of_suc-le-suc le) (ap tail_of e) in
    λ i. head_of (e i) ∷ rest i
  where
    tail_of : List A → List A
    tail_of [] = []
    tail_of (z ∷ zs) = zs

    head_of : List A → A
    head_of [] = x
    head_of (z ∷ zs) = z

right-less : {D : Type 0} (q : TextKind D) (bytes : List ℕ) (k n : ℕ) → k ≤ n → IsRight q bytes n → IsRight q bytes k
right-less q bytes k n le (d, r) =
    let there = r.are_there in
    let them = r.has_them in
    (d, record { printable = r.printable; are_there = omega arith; has_them = omega arith; same = take-less k n (whole_lines bytes) (q.lines d) le r.same })

faulty-unique : {D : Type 0} (q : TextKind D) (bytes : List ℕ) (m n : ℕ) → IsFaulty q bytes m → IsFaulty q bytes n → m ≡ n
faulty-unique q bytes m n f g = elim (cases_order m n) [
  | inl same ↦ same
  | inr apart ↦ elim apart [
    | inl less ↦ absurd (f.wrong (right-less q bytes (m + 1) n (omega arith) g.right))
    | inr more ↦ absurd (g.wrong (right-less q bytes (n + 1) m (omega arith) f.right))
  ]
]

pub first-wrong-unique : {D C : Type 0} (q : TextKind D) (causes : Causes C) (bytes : List ℕ) (m n : ℕ) (b c : C) → IsFirstWrong q causes bytes m b → IsFirstWrong q causes bytes n c → (m ≡ n) × (b ≡ c)
first-wrong-unique q causes bytes m n b c f g =
    let same = faulty-unique q bytes f.right_lines g.right_lines f.faulty g.faulty in
    (f.place ∙ ap (λ k. k + 1) same ∙ sym g.place, f.cause ∙ ap (cause_at causes bytes) same ∙ sym g.cause)

-- a text of the kind is that of one value
pub text-verdict-unique : {D C V : Type 0} (q : TextKind D) (causes : Causes C) (told : ℕ → C → V) (judged : D → V) (bytes : List ℕ)
    → ((d e : D) → IsTextOf q d bytes → IsTextOf q e bytes → d ≡ e)
    → (v w : V) → IsWrongText q causes told bytes v ⊎ IsJudgedText q judged bytes v → IsWrongText q causes told bytes w ⊎ IsJudgedText q judged bytes w → v ≡ w
text-verdict-unique q causes told judged bytes one v w (inl f) (inl g) =
    let same = first-wrong-unique q causes bytes f.line g.line f.why g.why f.first g.first in
    f.verdict ∙ (λ i. told (same.0 i) (same.1 i)) ∙ sym g.verdict
text-verdict-unique q causes told judged bytes one v w (inl f) (inr g) = absurd (f.first.faulty.no_text g.value g.text)
text-verdict-unique q causes told judged bytes one v w (inr f) (inl g) = absurd (g.first.faulty.no_text f.value f.text)
text-verdict-unique q causes told judged bytes one v w (inr f) (inr g) = f.verdict ∙ ap judged (one f.value g.value f.text g.text) ∙ sym g.verdict
