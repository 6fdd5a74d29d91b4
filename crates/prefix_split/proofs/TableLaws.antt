-- Tables of bits, word by word.
use Rattle.std.proofs.Common.{◌≡◌, ◌≢◌, ◌⊎◌, ℕ, ◌+◌, ◌*◌, ◌/◌, ◌%◌, ◌^◌, ◌<◌, ◌≤◌, max, List, length, get_or, set, replicate, sym, ◌∙◌, ap, subst, inl, inr, arith, bit_or, get_or-set_same, get_or-set_other}
use Rattle.std.specs.Int.{bit_at}
use Rattle.std.proofs.lemmas.Bool.{cases_eq, cases_lt}
use Rattle.std.proofs.lemmas.List.{get_or-replicate, get_or_past, length-replicate}
use Rattle.std.proofs.lemmas.Nat.{div-add-mod', div-mul-add, mod-mul-add, one_shl}
use Rattle.std.proofs.lemmas.Nat.Bits.{bit_at-pow_other, bit_at-zero, bit_at_or}
use Rattle.calculus.specs.Ground.{GroundMark}
use Rattle.prefix_split.specs.declared.order.Relation.{Relation}
use Rattle.prefix_split.specs.Beginnings.{IsRelated, WordHolds, joined}
use Rattle.prefix_split.proofs.OrderLaws.{joined-related}

-- ---- words

-- no bit is set
pub zero-holds : (value : ℕ → List GroundMark) (r : Relation) (u k : ℕ) → WordHolds value r u k 0
zero-holds value r u k b e = let z : 0 ≡ 1 = sym (bit_at-zero b) ∙ e in cc z

max-one : (m n : ℕ) → max m n ≡ 1 → (m ≡ 1) ⊎ (n ≡ 1)
max-one m n e = by (cases_eq m 1)
  where
    by : (m ≡ 1) ⊎ (m ≢ 1) → (m ≡ 1) ⊎ (n ≡ 1)
    by (inl same) = inl same
    by (inr other) = inr (omega (arith, e, other))

pub or-holds : (value : ℕ → List GroundMark) (r : Relation) (u k x y : ℕ) → WordHolds value r u k x → WordHolds value r u k y → WordHolds value r u k (bit_or x y)
or-holds value r u k x y h l b e = by (max-one (bit_at x b) (bit_at y b) (sym (bit_at_or x y b) ∙ e))
  where
    by : (bit_at x b ≡ 1) ⊎ (bit_at y b ≡ 1) → IsRelated r (value u) (value (k * 64 + b))
    by (inl f) = h b f
    by (inr f) = l b f

-- the bit of v alone is set
pub one-holds : (value : ℕ → List GroundMark) (r : Relation) (u v : ℕ) → IsRelated r (value u) (value v) → WordHolds value r u (v / 64) (1 * 2 ^ (v % 64) % 2 ^ 64)
one-holds value r u v h b e = by (cases_eq b (v % 64))
  where
    word : bit_at (2 ^ (v % 64)) b ≡ 1
    word = ap (λ n. bit_at n b) (sym (one_shl (v % 64) 64 (omega arith))) ∙ e

    by : (b ≡ v % 64) ⊎ (b ≢ v % 64) → IsRelated r (value u) (value (v / 64 * 64 + b))
    by (inl same) = subst (λ n. IsRelated r (value u) (value n)) (sym (ap (λ n. v / 64 * 64 + n) same ∙ div-add-mod' v 64)) h
    by (inr other) = let z : 0 ≡ 1 = sym (bit_at-pow_other (v % 64) b other) ∙ word in cc z

-- the bit of v is set
pub bit-holds : (value : ℕ → List GroundMark) (r : Relation) (u v word : ℕ) → WordHolds value r u (v / 64) word → bit_at word (v % 64) ≡ 1 → IsRelated r (value u) (value v)
bit-holds value r u v word h e = subst (λ n. IsRelated r (value u) (value n)) (div-add-mod' v 64) (h (v % 64) e)

-- what is known of v gives what is known of x, by what x is to v
pub word-joined : (value : ℕ → List GroundMark) (a b : Relation) (x v k word : ℕ) → IsRelated a (value x) (value v) → WordHolds value b v k word → WordHolds value (joined a b) x k word
word-joined value a b x v k word h holds n e = joined-related a b (value x) (value v) (value (k * 64 + n)) h (holds n e)

-- ---- tables

-- each word holds
abbrev pub WordsHold : (ℕ → List GroundMark) → Relation → List ℕ → ℕ → Type 0
WordsHold value r words width = (u k : ℕ) → k < width → WordHolds value r u k (get_or words (u * width + k) 0)

zeros : (n i : ℕ) → ◌≡◌ {A = ℕ} (get_or (replicate n 0) i 0) 0
zeros n i = by (cases_lt i n)
  where
    by : (i < n) ⊎ (n ≤ i) → ◌≡◌ {A = ℕ} (get_or (replicate n 0) i 0) 0
    by (inl l) = get_or-replicate n i 0 0 l
    by (inr l) = get_or_past (replicate n 0) i 0 (omega (arith, length-replicate {A = ℕ} n 0, l))

pub zeros-hold : (value : ℕ → List GroundMark) (r : Relation) (n width : ℕ) → WordsHold value r (replicate n 0) width
zeros-hold value r n width u k l = subst (WordHolds value r u k) (sym (zeros n (u * width + k))) (zero-holds value r u k)

pub set-holds : (value : ℕ → List GroundMark) (r : Relation) (words : List ℕ) (width u k a word : ℕ) → k < width → a ≡ u * width + k → a < length words → WordHolds value r u k word → WordsHold value r words width → WordsHold value r (set words a (bit_or (get_or words a 0) word)) width
set-holds value r words width u k a word within e inside h holds i j l = by (cases_eq (i * width + j) a)
  where
    new : ℕ
    new = bit_or (get_or words a 0) word

    changed : WordHolds value r u k (bit_or (get_or words a 0) word)
    changed = or-holds value r u k (get_or words a 0) word (subst (λ n. WordHolds value r u k (get_or words n 0)) (sym e) (holds u k within)) h

    by : (i * width + j ≡ a) ⊎ (i * width + j ≢ a) → WordHolds value r i j (get_or (set words a (bit_or (get_or words a 0) word)) (i * width + j) 0)
    by (inl same) =
        let row : u ≡ i = sym (div-mul-add u width k within) ∙ ap (λ n. n / width) (sym (same ∙ e)) ∙ div-mul-add i width j l in
        let place : k ≡ j = sym (mod-mul-add u width k within) ∙ ap (λ n. n % width) (sym (same ∙ e)) ∙ mod-mul-add i width j l in
        let there : get_or (set words a (bit_or (get_or words a 0) word)) (i * width + j) 0 ≡ bit_or (get_or words a 0) word = ap (λ n. get_or (set words a (bit_or (get_or words a 0) word)) n 0) same ∙ get_or-set_same words a (bit_or (get_or words a 0) word) 0 inside in
        subst (WordHolds value r i j) (sym there) (subst (λ n. WordHolds value r n j (bit_or (get_or words a 0) word)) row (subst (λ n. WordHolds value r u n (bit_or (get_or words a 0) word)) place changed))
    by (inr other) = subst (WordHolds value r i j) (sym (get_or-set_other words a (i * width + j) (bit_or (get_or words a 0) word) 0 other)) (holds i j l)
