-- Signs: the code's way takes one, and no less than any that the bytes begin with.
use Rattle.std.proofs.Common.{◌≡◌, ℕ, ◌≤◌, List, [], ◌∷◌, ◌++◌, Bool, true, false, ◌||◌, ◌==◌, None, Some, refl, sym, subst, length, if◌then◌else◌, arith}
use Rattle.std.proofs.lemmas.Bool.{eqb-true}
use Rattle.plain_laws.proofs.Options.{none_some}
use Rattle.tptp_lex.specs.declared.tokens.TokenKind.{TokenKind}
use Rattle.tptp_lex.specs.declared.tokens.TokenKind.TheVariants.{Sign}
use Rattle.tptp_lex.specs.Scanning.{after_byte, after_close, after_less, after_sign, after_space, after_tilde, after_token, is_single}
use Rattle.tptp_lex.specs.Tokens.{IsSign, open_round, close_round, open_square, close_square, comma, dot, colon, tilde, exclamation, question, ampersand, bar, implies, implied, equivalent, inequivalent, nor, nand, equal, unequal}
use Rattle.tptp_lex.proofs.Runs.{both-cons, some-is}

-- behind a token of this kind, no more is left than the rest
pub record Reaches (kind : TokenKind) (bytes rest : List ℕ) : Type 0 where
  pub after : List ℕ
  pub taken : after_token bytes ≡ Some (kind, after)
  pub not_longer : length after ≤ length rest

pub exact : (kind : TokenKind) (bytes rest : List ℕ) → after_token bytes ≡ Some (kind, rest) → Reaches kind bytes rest
exact kind bytes rest e = record { after = rest; taken = e; not_longer = omega arith }

byte-shorter : (c : ℕ) (bs : List ℕ) → length (after_byte c bs) ≤ length bs
byte-shorter c [] = omega arith
byte-shorter c (b ∷ bs) = by (b == c)
  where
    by : (t : Bool) → length (if t then bs else b ∷ bs) ≤ length (b ∷ bs)
    by true = omega arith
    by false = omega arith

tilde-shorter : (bs : List ℕ) → length (after_tilde bs) ≤ length bs
tilde-shorter [] = omega arith
tilde-shorter (b ∷ bs) = by (b == 124 || b == 38)
  where
    by : (t : Bool) → length (if t then bs else b ∷ bs) ≤ length (b ∷ bs)
    by true = omega arith
    by false = omega arith

pub sign-over : (w rest : List ℕ) → IsSign w → Reaches Sign (w ++ rest) rest
sign-over _ rest open_round = exact Sign _ rest refl
sign-over _ rest close_round = exact Sign _ rest refl
sign-over _ rest open_square = exact Sign _ rest refl
sign-over _ rest close_square = exact Sign _ rest refl
sign-over _ rest comma = exact Sign _ rest refl
sign-over _ rest dot = exact Sign _ rest refl
sign-over _ rest colon = exact Sign _ rest refl
sign-over _ rest tilde = record { after = after_tilde rest; taken = refl; not_longer = tilde-shorter rest }
sign-over _ rest exclamation = record { after = after_byte 61 rest; taken = refl; not_longer = byte-shorter 61 rest }
sign-over _ rest question = exact Sign _ rest refl
sign-over _ rest ampersand = exact Sign _ rest refl
sign-over _ rest bar = exact Sign _ rest refl
sign-over _ rest implies = exact Sign _ rest refl
sign-over _ rest implied = record { after = after_byte 62 rest; taken = refl; not_longer = byte-shorter 62 rest }
sign-over _ rest equivalent = exact Sign _ rest refl
sign-over _ rest inequivalent = exact Sign _ rest refl
sign-over _ rest nor = exact Sign _ rest refl
sign-over _ rest nand = exact Sign _ rest refl
sign-over _ rest equal = record { after = after_byte 62 rest; taken = refl; not_longer = byte-shorter 62 rest }
sign-over _ rest unequal = exact Sign _ rest refl

-- ---- what is taken is a sign

as-sign : (n b : ℕ) → IsSign (n ∷ []) → (b == n) ≡ true → IsSign (b ∷ [])
as-sign n b s e = subst (λ c. IsSign (c ∷ [])) (sym (eqb-true b n e)) s

or-else : {A : Type 0} {x y : Bool} → (x ≡ true → A) → (y ≡ true → A) → (x || y) ≡ true → A
or-else {A} {x = true} {y} f g h = f refl
or-else {A} {x = false} {y} f g h = g h

single-sign : (b : ℕ) → is_single b ≡ true → IsSign (b ∷ [])
single-sign b =
    or-else (or-else (or-else (or-else (or-else (or-else (or-else (or-else (or-else
    (as-sign 40 b open_round)
    (as-sign 41 b close_round))
    (as-sign 91 b open_square))
    (as-sign 93 b close_square))
    (as-sign 44 b comma))
    (as-sign 46 b dot))
    (as-sign 58 b colon))
    (as-sign 63 b question))
    (as-sign 38 b ampersand))
    (as-sign 124 b bar)

pub record SignSplit (bytes rest : List ℕ) : Type 0 where
  pub front : List ℕ
  pub split : bytes ≡ front ++ rest
  pub is_sign : IsSign front

sign-byte-split : (n m : ℕ) → IsSign (n ∷ []) → IsSign (n ∷ m ∷ []) → (b : ℕ) (bs rest : List ℕ) → b ≡ n → Some (after_byte m bs) ≡ Some rest → SignSplit (b ∷ bs) rest
sign-byte-split n m one two b [] rest e h = record { front = n ∷ []; split = both-cons e (some-is h); is_sign = one }
sign-byte-split n m one two b (c ∷ bs) rest e h = by (c == m) refl h
  where
    by : (t : Bool) → (c == m) ≡ t → Some (if t then bs else c ∷ bs) ≡ Some rest → SignSplit (b ∷ c ∷ bs) rest
    by true f h = record { front = n ∷ m ∷ []; split = both-cons e (both-cons (eqb-true c m f) (some-is h)); is_sign = two }
    by false f h = record { front = n ∷ []; split = both-cons e (some-is h); is_sign = one }

tilde-split : (b : ℕ) (bs rest : List ℕ) → b ≡ 126 → Some (after_tilde bs) ≡ Some rest → SignSplit (b ∷ bs) rest
tilde-split b [] rest e h = record { front = 126 ∷ []; split = both-cons e (some-is h); is_sign = tilde }
tilde-split b (c ∷ bs) rest e h = by (c == 124) (c == 38) refl refl h
  where
    by : (t u : Bool) → (c == 124) ≡ t → (c == 38) ≡ u → Some (if t || u then bs else c ∷ bs) ≡ Some rest → SignSplit (b ∷ c ∷ bs) rest
    by true u f g h = record { front = 126 ∷ 124 ∷ []; split = both-cons e (both-cons (eqb-true c 124 f) (some-is h)); is_sign = nor }
    by false true f g h = record { front = 126 ∷ 38 ∷ []; split = both-cons e (both-cons (eqb-true c 38 g) (some-is h)); is_sign = nand }
    by false false f g h = record { front = 126 ∷ []; split = both-cons e (some-is h); is_sign = tilde }

implied-split : (b c : ℕ) (bs rest : List ℕ) → b ≡ 60 → c ≡ 61 → Some (after_byte 62 bs) ≡ Some rest → SignSplit (b ∷ c ∷ bs) rest
implied-split b c [] rest e f h = record { front = 60 ∷ 61 ∷ []; split = both-cons e (both-cons f (some-is h)); is_sign = implied }
implied-split b c (d ∷ bs) rest e f h = by (d == 62) refl h
  where
    by : (t : Bool) → (d == 62) ≡ t → Some (if t then bs else d ∷ bs) ≡ Some rest → SignSplit (b ∷ c ∷ d ∷ bs) rest
    by true g h = record { front = 60 ∷ 61 ∷ 62 ∷ []; split = both-cons e (both-cons f (both-cons (eqb-true d 62 g) (some-is h))); is_sign = equivalent }
    by false g h = record { front = 60 ∷ 61 ∷ []; split = both-cons e (both-cons f (some-is h)); is_sign = implied }

inequivalent-split : (b c : ℕ) (bs rest : List ℕ) → b ≡ 60 → c ≡ 126 → after_close bs ≡ Some rest → SignSplit (b ∷ c ∷ bs) rest
inequivalent-split b c [] rest e f h = absurd (none_some h)
inequivalent-split b c (d ∷ bs) rest e f h = by (d == 62) refl h
  where
    by : (t : Bool) → (d == 62) ≡ t → (if t then Some bs else None) ≡ Some rest → SignSplit (b ∷ c ∷ d ∷ bs) rest
    by true g h = record { front = 60 ∷ 126 ∷ 62 ∷ []; split = both-cons e (both-cons f (both-cons (eqb-true d 62 g) (some-is h))); is_sign = inequivalent }
    by false g h = absurd (none_some h)

less-split : (b : ℕ) (bs rest : List ℕ) → b ≡ 60 → after_less bs ≡ Some rest → SignSplit (b ∷ bs) rest
less-split b [] rest e h = absurd (none_some h)
less-split b (c ∷ bs) rest e h = by (c == 61) (c == 126) refl refl h
  where
    by : (t u : Bool) → (c == 61) ≡ t → (c == 126) ≡ u → (if t then Some (after_byte 62 bs) else (if u then after_close bs else None)) ≡ Some rest → SignSplit (b ∷ c ∷ bs) rest
    by true u f g h = implied-split b c bs rest e (eqb-true c 61 f) h
    by false true f g h = inequivalent-split b c bs rest e (eqb-true c 126 g) h
    by false false f g h = absurd (none_some h)

pub sign-split : (b : ℕ) (bs rest : List ℕ) → after_sign b bs ≡ Some rest → SignSplit (b ∷ bs) rest
sign-split b bs rest h = by (is_single b) (b == 61) (b == 33) (b == 126) (b == 60) refl refl refl refl refl h
  where
    by : (s e u t l : Bool) → is_single b ≡ s → (b == 61) ≡ e → (b == 33) ≡ u → (b == 126) ≡ t → (b == 60) ≡ l
        → (if s then Some bs else (if e then Some (after_byte 62 bs) else (if u then Some (after_byte 61 bs) else (if t then Some (after_tilde bs) else (if l then after_less bs else None))))) ≡ Some rest → SignSplit (b ∷ bs) rest
    by true e u t l hs he hu ht hl h = record { front = b ∷ []; split = both-cons refl (some-is h); is_sign = single-sign b hs }
    by false true u t l hs he hu ht hl h = sign-byte-split 61 62 equal implies b bs rest (eqb-true b 61 he) h
    by false false true t l hs he hu ht hl h = sign-byte-split 33 61 exclamation unequal b bs rest (eqb-true b 33 hu) h
    by false false false true l hs he hu ht hl h = tilde-split b bs rest (eqb-true b 126 ht) h
    by false false false false true hs he hu ht hl h = less-split b bs rest (eqb-true b 60 hl) h
    by false false false false false hs he hu ht hl h = absurd (none_some h)

-- ---- a sign begins with no space and no comment

pub sign-no-space : (w rest : List ℕ) → IsSign w → after_space (w ++ rest) ≡ None
sign-no-space _ rest open_round = refl
sign-no-space _ rest close_round = refl
sign-no-space _ rest open_square = refl
sign-no-space _ rest close_square = refl
sign-no-space _ rest comma = refl
sign-no-space _ rest dot = refl
sign-no-space _ rest colon = refl
sign-no-space _ rest tilde = refl
sign-no-space _ rest exclamation = refl
sign-no-space _ rest question = refl
sign-no-space _ rest ampersand = refl
sign-no-space _ rest bar = refl
sign-no-space _ rest implies = refl
sign-no-space _ rest implied = refl
sign-no-space _ rest equivalent = refl
sign-no-space _ rest inequivalent = refl
sign-no-space _ rest nor = refl
sign-no-space _ rest nand = refl
sign-no-space _ rest equal = refl
sign-no-space _ rest unequal = refl
