-- Texts of lines differ first in the first line that differs.
use Rattle.std.proofs.Common.{if◌then◌else◌, ◌≡◌, ◌≢◌, ℕ, zero, suc, ◌+◌, ◌<◌, ◌≤◌, List, [], ◌∷◌, ◌++◌, length, get_or, drop, take, Bool, true, false, cond, not, ◌&&◌, ◌==◌, IsTrue, refl, sym, ◌∙◌, ap, arith, append_assoc, eq-eqb, eqb-true, flat_map}
use Rattle.std.specs.List.{list_all, common_prefix_len}
use Rattle.std.proofs.lemmas.Bool.{and_parts, true≢false}
use Rattle.std.proofs.lemmas.List.{drop_all}
use Rattle.calculus.specs.FirstWrong.{line_bytes}
use Rattle.calculus.specs.Equality.{list_eq}
use Rattle.text_lines.proofs.LineFeeds.{AreNoFeeds, NoFeed, is_no_feed}
use Rattle.derivation_text.specs.Difference.{line_of_difference}

-- ---- lines

no-feed : (b : ℕ) → IsTrue (is_no_feed b) → (b == 10) ≡ false
no-feed b h = by (b == 10) refl
  where
    by : (c : Bool) → (b == 10) ≡ c → c ≡ false
    by true e = absurd (true≢false (sym h ∙ ap not e))
    by false e = refl

feed-no : (b : ℕ) → IsTrue (is_no_feed b) → (10 == b) ≡ false
feed-no b h = by (10 == b) refl
  where
    by : (c : Bool) → (10 == b) ≡ c → c ≡ false
    by true e = absurd (true≢false (sym (eq-eqb b 10 (sym (eqb-true 10 b e))) ∙ no-feed b h))
    by false e = refl

abbrev after_line : Bool → ℕ → List ℕ → List ℕ → ℕ
after_line b n r s = if b then line_of_difference (suc n) r s else n

-- a line and what follows it
line-step : (n : ℕ) (l m r s : List ℕ) → NoFeed l → NoFeed m → line_of_difference n (l ++ 10 ∷ r) (m ++ 10 ∷ s) ≡ after_line (list_eq ◌==◌ l m) n r s
line-step n [] [] r s h k = refl
line-step n [] (y ∷ m) r s h k = ap (λ b. if b then line_of_difference (suc n) r (m ++ 10 ∷ s) else n) (feed-no y (and_parts (is_no_feed y) (list_all is_no_feed m) k).0)
line-step n (x ∷ l) [] r s h k = ap (λ b. if b then line_of_difference (if x == 10 then suc n else n) (l ++ 10 ∷ r) s else n) (no-feed x (and_parts (is_no_feed x) (list_all is_no_feed l) h).0)
line-step n (x ∷ l) (y ∷ m) r s h k = by (x == y) refl (line-step n l m r s p.1 q.1)
  where
    p : IsTrue (is_no_feed x) × NoFeed l
    p = and_parts (is_no_feed x) (list_all is_no_feed l) h

    q : IsTrue (is_no_feed y) × NoFeed m
    q = and_parts (is_no_feed y) (list_all is_no_feed m) k

    by : (b : Bool) → (x == y) ≡ b → line_of_difference n (l ++ 10 ∷ r) (m ++ 10 ∷ s) ≡ after_line (list_eq ◌==◌ l m) n r s
        → (if x == y then line_of_difference (if x == 10 then suc n else n) (l ++ 10 ∷ r) (m ++ 10 ∷ s) else n) ≡ after_line ((x == y) && list_eq ◌==◌ l m) n r s
    by true e rest =
        ap (λ b. if b then line_of_difference (if x == 10 then suc n else n) (l ++ 10 ∷ r) (m ++ 10 ∷ s) else n) e
        ∙ ap (λ b. line_of_difference (if b then suc n else n) (l ++ 10 ∷ r) (m ++ 10 ∷ s)) (no-feed x p.0) ∙ rest ∙ ap (λ b. after_line (b && list_eq ◌==◌ l m) n r s) (sym e)
    by false e rest =
        ap (λ b. if b then line_of_difference (if x == 10 then suc n else n) (l ++ 10 ∷ r) (m ++ 10 ∷ s) else n) e ∙ ap (λ b. after_line (b && list_eq ◌==◌ l m) n r s) (sym e)

abbrev text_of : List (List ℕ) → List ℕ
text_of ls = flat_map line_bytes ls

first-line : (l : List ℕ) (ls : List (List ℕ)) → text_of (l ∷ ls) ≡ l ++ 10 ∷ text_of ls
first-line l ls = append_assoc l (10 ∷ []) (text_of ls)

nothing-left : (n : ℕ) (l : List ℕ) (r : List ℕ) → line_of_difference n (l ++ 10 ∷ r) [] ≡ n
nothing-left n [] r = refl
nothing-left n (x ∷ l) r = refl

pub lines-differ : (n : ℕ) (ls ms : List (List ℕ)) → AreNoFeeds ls → AreNoFeeds ms → line_of_difference n (text_of ls) (text_of ms) ≡ n + common_prefix_len (list_eq ◌==◌) ls ms
lines-differ n [] ms h k = omega arith
lines-differ n (l ∷ ls) [] h k = ap (λ t. line_of_difference n t []) (first-line l ls) ∙ nothing-left n l (text_of ls) ∙ omega arith
lines-differ n (l ∷ ls) (m ∷ ms) h k =
    (λ i. line_of_difference n (first-line l ls i) (first-line m ms i)) ∙ line-step n l m (text_of ls) (text_of ms) p.0 q.0 ∙ by (list_eq ◌==◌ l m) (lines-differ (suc n) ls ms p.1 q.1)
  where
    p : NoFeed l × AreNoFeeds ls
    p = and_parts (list_all is_no_feed l) (list_all (list_all is_no_feed) ls) h

    q : NoFeed m × AreNoFeeds ms
    q = and_parts (list_all is_no_feed m) (list_all (list_all is_no_feed) ms) k

    by : (b : Bool) → line_of_difference (suc n) (text_of ls) (text_of ms) ≡ suc n + common_prefix_len (list_eq ◌==◌) ls ms
        → after_line b n (text_of ls) (text_of ms) ≡ n + cond b (1 + common_prefix_len (list_eq ◌==◌) ls ms) 0
    by true e = e ∙ omega arith
    by false e = omega arith

-- ---- bytes

-- what the loop over bytes keeps, at a place i where line n begins or goes on
pub record IsSameTo (xs ys : List ℕ) (i n : ℕ) : Type 0 where
  pub within : i ≤ length ys
  pub same : take i xs ≡ take i ys
  pub line : line_of_difference 1 xs ys ≡ line_of_difference n (drop i xs) (drop i ys)

drop-at : (xs : List ℕ) (i d : ℕ) → i < length xs → drop i xs ≡ get_or xs i d ∷ drop (suc i) xs
drop-at [] i d h = absurd (omega (arith, h))
drop-at (x ∷ xs) zero d h = refl
drop-at (x ∷ xs) (suc i) d h = drop-at xs i d (omega (arith, h))

-- the second text ends before
pub differ-short : (xs ys : List ℕ) (i n : ℕ) → IsSameTo xs ys i n → i < length xs → length ys ≤ i → (n ≡ line_of_difference 1 xs ys) × (xs ≢ ys)
differ-short xs ys i n h lt le =
    let one = drop-at xs i 0 lt in
    (sym (h.line ∙ (λ z. line_of_difference n (one z) (drop_all i ys le z))), λ e. let k = ap length e in absurd (omega (arith, lt, le, k)))

-- a byte is another
pub differ-byte : (xs ys : List ℕ) (i n b d e : ℕ) → IsSameTo xs ys i n → i < length xs → b ≡ get_or xs i d → i < length ys → (get_or ys i e ≡ b → ⊥) → (n ≡ line_of_difference 1 xs ys) × (xs ≢ ys)
differ-byte xs ys i n b d e h lt at less other =
    let one = drop-at xs i d lt ∙ ap (λ z. z ∷ drop (suc i) xs) (sym at) in
    let two = drop-at ys i e less in
    (sym (h.line ∙ (λ z. line_of_difference n (one z) (two z)) ∙ by (b == get_or ys i e) refl), λ k. other (same ys i e d less ∙ sym (ap (λ l. get_or l i d) k) ∙ sym at))
  where
    by : (c : Bool) → (b == get_or ys i e) ≡ c → (if b == get_or ys i e then line_of_difference (if b == 10 then suc n else n) (drop (suc i) xs) (drop (suc i) ys) else n) ≡ n
    by true k = absurd (other (sym (eqb-true b (get_or ys i e) k)))
    by false k = ap (λ c. if c then line_of_difference (if b == 10 then suc n else n) (drop (suc i) xs) (drop (suc i) ys) else n) k

    same : (zs : List ℕ) (j p q : ℕ) → j < length zs → get_or zs j p ≡ get_or zs j q
    same [] j p q h = absurd (omega (arith, h))
    same (z ∷ zs) zero p q h = refl
    same (z ∷ zs) (suc j) p q h = same zs j p q (omega (arith, h))
