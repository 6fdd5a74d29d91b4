-- White space and comments: the code's way and the definition agree, and two ways to skip all end at one place.
use Rattle.std.proofs.Common.{◌≡◌, ℕ, ◌<◌, List, [], ◌∷◌, ◌++◌, Bool, true, false, ◌==◌, None, Some, refl, sym, ◌∙◌, ap, subst, length, if◌then◌else◌, append_assoc, arith}
use Rattle.std.proofs.lemmas.Bool.{eqb-true, eqb-false, not-false}
use Rattle.std.proofs.lemmas.List.{length-append}
use Rattle.plain_laws.proofs.Options.{none_some}
use Rattle.calculus.specs.Text.{StopsAt, is_space}
use Rattle.calculus.proofs.TextLaws.{cons-head, cons-tail, nil-cons}
use Rattle.tptp_lex.specs.Scanning.{after_block, after_run, after_slash, after_space}
use Rattle.tptp_lex.specs.Spacing.{EndsLine, StaysOpen, Skips, done, more, SkipsOne, a_space, a_line, a_block, is_in_line}
use Rattle.tptp_lex.proofs.Runs.{both-cons, run-over, run-split, some-is}

-- ---- lines

ends-line : (rest : List ℕ) → StopsAt is_in_line rest → EndsLine rest
ends-line [] h = tt
ends-line (b ∷ bs) h = eqb-true b 10 (not-false (b == 10) h)

line-ended : (rest : List ℕ) → EndsLine rest → after_run is_in_line rest ≡ rest
line-ended [] h = refl
line-ended (b ∷ bs) h = rw h refl

-- ---- blocks

-- with a `*` before
abbrev starred : Bool → List ℕ → List ℕ
starred true bs = 42 ∷ bs
starred false bs = bs

record Block (bytes rest : List ℕ) : Type 0 where
  body : List ℕ
  whole : bytes ≡ body ++ 42 ∷ 47 ∷ rest
  stays : StaysOpen body

stays-nil : StaysOpen []
stays-nil [] back e = nil-cons e
stays-nil (f ∷ fs) back e = nil-cons e

stays-cons : (b : ℕ) (bs : List ℕ) → ((back : List ℕ) → b ∷ bs ≡ 42 ∷ 47 ∷ back → ⊥) → StaysOpen bs → StaysOpen (b ∷ bs)
stays-cons b bs n o [] back e = n back e
stays-cons b bs n o (f ∷ fs) back e = o fs back (cons-tail e)

stays-tail : (b : ℕ) (bs : List ℕ) → StaysOpen (b ∷ bs) → StaysOpen bs
stays-tail b bs o = λ front back e. o (b ∷ front) back (both-cons refl e)

stays-starred : (b : ℕ) (bs : List ℕ) → StaysOpen (b ∷ bs) → StaysOpen (starred (b == 42) bs)
stays-starred b bs o = by (b == 42) refl
  where
    by : (t : Bool) → (b == 42) ≡ t → StaysOpen (starred t bs)
    by true e = subst (λ c. StaysOpen (c ∷ bs)) (eqb-true b 42 e) o
    by false e = stays-tail b bs o

block-cons : (b : ℕ) (bs rest : List ℕ) → Block (starred (b == 42) bs) rest → Block (b ∷ bs) rest
block-cons b bs rest k = by (b == 42) refl k
  where
    by : (t : Bool) → (b == 42) ≡ t → Block (starred t bs) rest → Block (b ∷ bs) rest
    by true e k = subst (λ c. Block (c ∷ bs) rest) (sym (eqb-true b 42 e)) k
    by false e k = record {
      body = b ∷ k.body;
      whole = both-cons refl k.whole;
      stays = stays-cons b k.body (λ back h. eqb-false b 42 e (cons-head h)) k.stays;
    }

first-of : (b c : ℕ) (bs body x back : List ℕ) → b ∷ bs ≡ body ++ x → body ≡ c ∷ back → b ≡ c
first-of b c bs body x back e h = cons-head (e ∙ ap (λ y. y ++ x) h)

block-split : (star : Bool) (bs rest : List ℕ) → after_block star bs ≡ Some rest → Block (starred star bs) rest
block-split star [] rest h = absurd (none_some h)
block-split false (b ∷ bs) rest h = block-cons b bs rest (block-split (b == 42) bs rest h)
block-split true (b ∷ bs) rest h = by (b == 47) refl h (block-split (b == 42) bs rest)
  where
    by : (t : Bool) → (b == 47) ≡ t → (if t then Some bs else after_block (b == 42) bs) ≡ Some rest → (after_block (b == 42) bs ≡ Some rest → Block (starred (b == 42) bs) rest) → Block (42 ∷ b ∷ bs) rest
    by true e h on = record { body = []; whole = both-cons refl (both-cons (eqb-true b 47 e) (some-is h)); stays = stays-nil }
    by false e h on =
        let k : Block (b ∷ bs) rest = block-cons b bs rest (on h) in
        record {
          body = 42 ∷ k.body;
          whole = both-cons refl k.whole;
          stays = stays-cons 42 k.body (λ back g. eqb-false b 47 e (first-of b 47 bs k.body (42 ∷ 47 ∷ rest) back k.whole (cons-tail g))) k.stays;
        }

block-over : (star : Bool) (body rest : List ℕ) → StaysOpen (starred star body) → after_block star (body ++ 42 ∷ 47 ∷ rest) ≡ Some rest
block-over true [] rest o = refl
block-over false [] rest o = refl
block-over false (b ∷ bs) rest o = block-over (b == 42) bs rest (stays-starred b bs o)
block-over true (b ∷ bs) rest o = by (b == 47) refl (block-over (b == 42) bs rest (stays-starred b bs (stays-tail 42 (b ∷ bs) o)))
  where
    by : (t : Bool) → (b == 47) ≡ t → after_block (b == 42) (bs ++ 42 ∷ 47 ∷ rest) ≡ Some rest → (if t then Some (bs ++ 42 ∷ 47 ∷ rest) else after_block (b == 42) (bs ++ 42 ∷ 47 ∷ rest)) ≡ Some rest
    by true e h = absurd (o [] bs (both-cons refl (both-cons (eqb-true b 47 e) refl)))
    by false e h = h

-- ---- one byte of white space or one comment

pub space-over : {bytes rest : List ℕ} → SkipsOne bytes rest → after_space bytes ≡ Some rest
space-over (a_space b rest h) = rw h refl
space-over (a_line bs rest h e) = ap Some (run-over is_in_line bs rest h ∙ line-ended rest e)
space-over (a_block bs rest o) = block-over false bs rest o

slash-split : (b : ℕ) (bs rest : List ℕ) → b ≡ 47 → after_slash bs ≡ Some rest → SkipsOne (b ∷ bs) rest
slash-split b [] rest e h = absurd (none_some h)
slash-split b (c ∷ bs) rest e h = by (c == 42) refl h
  where
    by : (t : Bool) → (c == 42) ≡ t → (if t then after_block false bs else None) ≡ Some rest → SkipsOne (b ∷ c ∷ bs) rest
    by true f h =
        let k : Block bs rest = block-split false bs rest h in
        subst (λ x. SkipsOne x rest) (sym (both-cons e (both-cons (eqb-true c 42 f) k.whole))) (a_block k.body rest k.stays)
    by false f h = absurd (none_some h)

pub space-split : (bytes rest : List ℕ) → after_space bytes ≡ Some rest → SkipsOne bytes rest
space-split [] rest h = absurd (none_some h)
space-split (b ∷ bs) rest h = by (is_space b) (b == 37) (b == 47) refl refl refl h
  where
    by : (s l k : Bool) → is_space b ≡ s → (b == 37) ≡ l → (b == 47) ≡ k → (if s then Some bs else (if l then Some (after_run is_in_line bs) else (if k then after_slash bs else None))) ≡ Some rest → SkipsOne (b ∷ bs) rest
    by true l k e f g h = subst (λ x. SkipsOne (b ∷ bs) x) (some-is h) (a_space b bs e)
    by false true k e f g h =
        let s = run-split is_in_line bs in
        let one : SkipsOne (b ∷ bs) (after_run is_in_line bs) = subst (λ x. SkipsOne x (after_run is_in_line bs)) (sym (both-cons (eqb-true b 37 f) s.whole)) (a_line s.front (after_run is_in_line bs) s.all (ends-line (after_run is_in_line bs) s.stops)) in
        subst (λ x. SkipsOne (b ∷ bs) x) (some-is h) one
    by false false true e f g h = slash-split b bs rest (eqb-true b 47 g) h
    by false false false e f g h = absurd (none_some h)

-- the bytes end with the rest, behind at least one more
pub record Ends (bytes rest : List ℕ) : Type 0 where
  pub front : List ℕ
  pub whole : bytes ≡ front ++ rest

one-ends : {bytes rest : List ℕ} → SkipsOne bytes rest → Ends bytes rest
one-ends (a_space b rest h) = record { front = b ∷ []; whole = refl }
one-ends (a_line bs rest h e) = record { front = 37 ∷ bs; whole = refl }
one-ends (a_block bs rest o) = record { front = 47 ∷ 42 ∷ (bs ++ 42 ∷ 47 ∷ []); whole = both-cons refl (both-cons refl (sym (append_assoc bs (42 ∷ 47 ∷ []) rest))) }

pub one-shorter : {bytes rest : List ℕ} → SkipsOne bytes rest → length rest < length bytes
one-shorter (a_space b rest h) = omega arith
one-shorter (a_line bs rest h e) = omega (arith, length-append bs rest)
one-shorter (a_block bs rest o) = omega (arith, length-append bs (42 ∷ 47 ∷ rest))

pub space-shorter : (bytes rest : List ℕ) → after_space bytes ≡ Some rest → length rest < length bytes
space-shorter bytes rest h = one-shorter (space-split bytes rest h)

-- ---- all of them

skips-one-more : {bytes between rest : List ℕ} → Skips bytes between → SkipsOne between rest → Skips bytes rest
skips-one-more {bytes} {between} {rest} (done x) one = more x rest rest one (done rest)
skips-one-more {bytes} {between} {rest} (more x y z first s) one = more x y rest first (skips-one-more s one)

pub skips-space : (bytes between rest : List ℕ) → Skips bytes between → after_space between ≡ Some rest → Skips bytes rest
skips-space bytes between rest s h = skips-one-more s (space-split between rest h)

pub skips-ends : {bytes rest : List ℕ} → Skips bytes rest → Ends bytes rest
skips-ends (done x) = record { front = []; whole = refl }
skips-ends (more x y z one s) =
    let a = one-ends one in
    let b = skips-ends s in
    record { front = a.front ++ b.front; whole = a.whole ∙ ap (λ t. a.front ++ t) b.whole ∙ sym (append_assoc a.front b.front z) }

-- two ways to skip all end at one place
pub skips-alone : {bytes r s : List ℕ} → Skips bytes r → Skips bytes s → after_space r ≡ None → after_space s ≡ None → r ≡ s
skips-alone (done x) (done y) hr hs = refl
skips-alone (done x) (more y m z one k) hr hs = absurd (none_some (sym hr ∙ space-over one))
skips-alone (more x m z one k) (done y) hr hs = absurd (none_some (sym hs ∙ space-over one))
skips-alone {bytes} {r} {s} (more x m z one k) (more y n u two l) hr hs =
    skips-alone k (subst (λ t. Skips t u) (some-is (sym (space-over two) ∙ space-over one)) l) hr hs
