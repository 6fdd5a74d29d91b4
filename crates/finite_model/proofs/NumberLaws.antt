-- Numbers that are a whole text, or stand behind a space.
use Rattle.std.proofs.Common.{◌≡◌, ℕ, zero, suc, ◌+◌, ◌≤◌, ◌<◌, ◌^◌, List, [], ◌∷◌, ◌++◌, length, drop, Bool, true, ◌&&◌, IsTrue, refl, sym, ◌∙◌, ap, subst, append-nil, append_assoc, arith, decimal, nat_lt, lt-ltb, ltb-true, length-drop, get_or, drop-cons, add-one}
use Rattle.std.specs.List.{list_all}
use Rattle.std.proofs.lemmas.Bool.{and_parts, and_from}
use Rattle.std.proofs.lemmas.Grind.{flat_map-append}
use Rattle.std.proofs.lemmas.List.Folds.{list_all-append}
use Rattle.std.proofs.Math.ListN.{drop_of_length-le}
use Rattle.calculus.specs.Text.{StopsAt, is_digit, is_number}
use Rattle.calculus.specs.StructureText.{numbers_text}
use Rattle.calculus.proofs.TextLaws.{decimal-split}
use Rattle.calculus.proofs.TermTextLaws.{small-number}
use Rattle.formula_text.specs.Runs.{IsNumberAt}
use Rattle.finite_model.specs.Items.{IsItemAt, NoItemAt}
use Rattle.formula_text.proofs.Places.{after-text, stands-front}

-- ---- a number that is the whole text

pub is-number : (n : ℕ) → n < 2 ^ 32 → IsTrue (is_number n)
is-number n h = lt-ltb n (2 ^ 32) h

pub number-there : (bytes : List ℕ) (n : ℕ) (rest : List ℕ) (from : ℕ) → n < 2 ^ 32 → StopsAt is_digit rest → drop from bytes ≡ decimal n ++ rest → IsNumberAt bytes from (from + length (decimal n)) n
number-there bytes n rest from h stops e = record {
  small = is-number n h;
  stands = stands-front bytes (decimal n) rest from e;
  ends = subst (StopsAt is_digit) (sym (after-text bytes (decimal n) rest from e)) stops;
}

pub same-number : (bytes : List ℕ) (m n : ℕ) → m < 2 ^ 32 → n < 2 ^ 32 → bytes ≡ decimal m → bytes ≡ decimal n → m ≡ n
same-number bytes m n hm hn e f =
    (decimal-split m n [] [] (small-number m (is-number m hm)) (small-number n (is-number n hn)) tt tt (append-nil (decimal m) ∙ sym e ∙ f ∙ sym (append-nil (decimal n)))).0

-- ---- numbers behind spaces

abbrev all_below : ℕ → List ℕ → Bool
all_below most xs = list_all (λ x. nat_lt x most) xs

numbers-stop : (xs : List ℕ) → StopsAt is_digit (numbers_text xs)
numbers-stop [] = tt
numbers-stop (x ∷ xs) = refl

behind-suc : (bytes : List ℕ) (place b : ℕ) (rest : List ℕ) → drop place bytes ≡ b ∷ rest → drop (suc place) bytes ≡ rest
behind-suc [] zero b rest e = absurd (cc)
behind-suc [] (suc n) b rest e = absurd (cc)
behind-suc (x ∷ bytes) zero b rest e = cc
behind-suc (x ∷ bytes) (suc n) b rest e = behind-suc bytes n b rest e

byte-behind : (bytes : List ℕ) (place b : ℕ) (rest : List ℕ) → drop place bytes ≡ b ∷ rest → drop (place + 1) bytes ≡ rest
byte-behind bytes place b rest e = rw add-one (behind-suc bytes place b rest e)

byte-there : (bytes : List ℕ) (place b : ℕ) → place < length bytes → get_or bytes place 0 ≡ b → drop place bytes ≡ b ∷ drop (place + 1) bytes
byte-there bytes place b h e = (let f : drop place bytes ≡ get_or bytes place 0 ∷ drop (place + 1) bytes = rw add-one (drop-cons bytes place 0 h) in f) ∙ ap (λ k. k ∷ drop (place + 1) bytes) e

byte-same : (bytes : List ℕ) (place b : ℕ) (rest : List ℕ) → place < length bytes → drop place bytes ≡ b ∷ rest → get_or bytes place 0 ≡ b
byte-same bytes place b rest h e = let k = byte-there bytes place (get_or bytes place 0) h refl in cc

pub item-there : (bytes : List ℕ) (place to n x most : ℕ) → place < length bytes → get_or bytes place 0 ≡ 32 → IsNumberAt bytes (place + 1) to n → to ≤ length bytes → n ≡ suc x → IsItemAt bytes place to x
item-there bytes place to n x most h space k within e = record {
  there = byte-there bytes place 32 h space ∙ ap (λ l. 32 ∷ l) k.stands.there ∙ ap (λ m. 32 ∷ (decimal m ++ drop to bytes)) e;
  stops = k.ends;
  onward = let p = k.stands.place in omega arith;
  within = within;
}

pub no-space : (bytes : List ℕ) (place most : ℕ) → place < length bytes → ¬ (get_or bytes place 0 ≡ 32) → NoItemAt bytes place most
no-space bytes place most h apart x xs k e = apart (byte-same bytes place 32 (decimal (suc x) ++ numbers_text xs) h e)

pub no-number : (bytes : List ℕ) (place most : ℕ) → most < 256 → ((n to : ℕ) → ¬ IsNumberAt bytes (place + 1) to n) → NoItemAt bytes place most
no-number bytes place most small none x xs k e =
    none (suc x) (place + 1 + length (decimal (suc x))) (number-there bytes (suc x) (numbers_text xs) (place + 1) (omega arith) (numbers-stop xs) (byte-behind bytes place 32 (decimal (suc x) ++ numbers_text xs) e))

pub other-number : (bytes : List ℕ) (place to n most : ℕ) → most < 256 → IsNumberAt bytes (place + 1) to n → ((x : ℕ) → x < most → ¬ (n ≡ suc x)) → NoItemAt bytes place most
other-number bytes place to n most small h none x xs k e =
    none x k (decimal-split n (suc x) (drop to bytes) (numbers_text xs) (small-number n h.small) (let s : suc x < 2 ^ 32 = omega arith in small-number (suc x) (is-number (suc x) s)) h.ends (numbers-stop xs) (sym h.stands.there ∙ byte-behind bytes place 32 (decimal (suc x) ++ numbers_text xs) e)).0

-- what is left of a list of numbers
pub record IsRest (most : ℕ) (items xs rest : List ℕ) : Type 0 where
  pub left : List ℕ
  pub below : IsTrue (all_below most left)
  pub parts : xs ≡ items ++ left
  pub text : rest ≡ numbers_text left

-- numbers are read up to this place
pub record AreNumbers (bytes : List ℕ) (most : ℕ) (items : List ℕ) (place : ℕ) : Type 0 where
  pub within : place ≤ length bytes
  pub text : bytes ≡ numbers_text items ++ drop place bytes
  pub below : IsTrue (list_all (λ x. nat_lt x most) items)
  pub only : (xs : List ℕ) → IsTrue (list_all (λ x. nat_lt x most) xs) → bytes ≡ numbers_text xs → IsRest most items xs (drop place bytes)

pub numbers-begun : (text : List ℕ) (most : ℕ) → AreNumbers text most [] 0
numbers-begun text most = record { within = omega arith; text = refl; below = refl; only = λ xs h e. record { left = xs; below = h; parts = refl; text = e } }

joined-text : (items : List ℕ) (x : ℕ) (rest : List ℕ) → numbers_text items ++ 32 ∷ (decimal (suc x) ++ rest) ≡ numbers_text (items ++ x ∷ []) ++ rest
joined-text items x rest =
    sym (ap (λ l. l ++ rest) (flat_map-append (λ k. 32 ∷ decimal (suc k)) items (x ∷ []) ∙ ap (λ l. numbers_text items ++ l) (append-nil (32 ∷ decimal (suc x)))) ∙ append_assoc (numbers_text items) (32 ∷ decimal (suc x)) rest)

rest-on : (text : List ℕ) (most : ℕ) (items : List ℕ) (place to x : ℕ) → IsItemAt text place to x → x < most → most < 256 → (xs left : List ℕ) → IsTrue (all_below most left) → xs ≡ items ++ left → drop place text ≡ numbers_text left → IsRest most (items ++ x ∷ []) xs (drop to text)
rest-on text most items place to x h k small xs [] below parts rest = let e = sym h.there ∙ rest in absurd (cc)
rest-on text most items place to x h k small xs (y ∷ left) below parts rest =
    let b = and_parts (nat_lt y most) (all_below most left) below in
    let same = tail-same (decimal (suc x) ++ drop to text) (decimal (suc y) ++ numbers_text left) (sym h.there ∙ rest) in
    let ylt = ltb-true y most b.0 in
    let sx : suc x < 2 ^ 32 = omega arith in
    let sy : suc y < 2 ^ 32 = omega (arith, ylt) in
    let p = decimal-split (suc x) (suc y) (drop to text) (numbers_text left) (small-number (suc x) (is-number (suc x) sx)) (small-number (suc y) (is-number (suc y) sy)) h.stops (numbers-stop left) same in
    let equal : x ≡ y = let q = p.0 in omega arith in
    record { left = left; below = b.1; parts = parts ∙ ap (λ z. items ++ z ∷ left) (sym equal) ∙ sym (append_assoc items (x ∷ []) left); text = p.1 }
  where
    tail-same : (a b : List ℕ) → 32 ∷ a ≡ 32 ∷ b → a ≡ b
    tail-same a b e = cc

pub numbers-on : (text : List ℕ) (most : ℕ) (items : List ℕ) (place to x : ℕ) → AreNumbers text most items place → most < 256 → IsItemAt text place to x → x < most → AreNumbers text most (items ++ x ∷ []) to
numbers-on text most items place to x r small h k = record {
  within = h.within;
  text = r.text ∙ ap (λ l. numbers_text items ++ l) h.there ∙ joined-text items x (drop to text);
  below = list_all-append (λ y. nat_lt y most) items (x ∷ []) ∙ and_from (all_below most items) (nat_lt x most && true) r.below (and_from (nat_lt x most) true (lt-ltb x most k) refl);
  only = λ xs b e. let o = r.only xs b e in rest-on text most items place to x h k small xs o.left o.below o.parts o.text;
}

none-left : (text : List ℕ) (most place : ℕ) → place < length text → NoItemAt text place most → (left : List ℕ) → IsTrue (all_below most left) → drop place text ≡ numbers_text left → ⊥
none-left text most place h none [] below e = let n = ap length e in absurd (omega (arith, n, length-drop place text))
none-left text most place h none (y ∷ left) below e = none y left (ltb-true y most (and_parts (nat_lt y most) (all_below most left) below).0) e

pub numbers-broken : (text : List ℕ) (most : ℕ) (items : List ℕ) (place : ℕ) → AreNumbers text most items place → place < length text → NoItemAt text place most → (xs : List ℕ) → IsTrue (list_all (λ x. nat_lt x most) xs) → text ≡ numbers_text xs → ⊥
numbers-broken text most items place r h none xs b e = let o = r.only xs b e in none-left text most place h none o.left o.below o.text

pub numbers-text : (text : List ℕ) (most : ℕ) (items : List ℕ) (place : ℕ) → AreNumbers text most items place → length text ≤ place → text ≡ numbers_text items
numbers-text text most items place r h = r.text ∙ ap (λ l. numbers_text items ++ l) (drop_of_length-le text h) ∙ append-nil (numbers_text items)

empty-numbers : (left : List ℕ) → [] ≡ numbers_text left → left ≡ []
empty-numbers [] e = refl
empty-numbers (x ∷ left) e = absurd (cc)

pub numbers-only : (text : List ℕ) (most : ℕ) (items : List ℕ) (place : ℕ) → AreNumbers text most items place → length text ≤ place → (xs : List ℕ) → IsTrue (list_all (λ x. nat_lt x most) xs) → text ≡ numbers_text xs → xs ≡ items
numbers-only text most items place r h xs b e =
    let o = r.only xs b e in
    o.parts ∙ ap (λ l. items ++ l) (empty-numbers o.left (sym (drop_of_length-le text h) ∙ o.text)) ∙ append-nil items
