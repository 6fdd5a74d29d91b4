-- The first wrong line of a text, for any kind of text: from "these lines begin one", "no right next line" and "not done here".
use Rattle.std.proofs.Common.{◌≡◌, ℕ, suc, ◌+◌, ◌≤◌, List, [], ◌∷◌, ◌++◌, length, take, drop, IsTrue, Option, slice_get, refl, sym, ◌∙◌, ap, append-nil, add-one, arith, length-append}
use Rattle.std.proofs.Math.Seq.{take-append_seam}
use Rattle.std.proofs.lemmas.List.{append_cancel_left}
use Rattle.plain_laws.proofs.Lists.{cons-parts, first-item}
use Rattle.plain_laws.proofs.Places.{item-after}
use Rattle.calculus.specs.FirstWrong.{whole_lines, TextKind, IsTextOf, IsRight, IsRightUpTo, IsFaulty, Causes, cause_after, cause_at, IsFirstWrong}
use Rattle.text_lines.specs.Lines.{AreRead}
use Rattle.text_lines.proofs.LineFeeds.{AreNoFeeds}
use Rattle.text_lines.proofs.WholeLines.{lines-back}

-- these are the first lines of some text
pub record IsBegun {D : Type 0} (k : TextKind D) (seen : List (List ℕ)) : Type 0 where
  pub whose : D
  pub printable : IsTrue (k.printable whose)
  pub rest : List (List ℕ)
  pub all : k.lines whose ≡ seen ++ rest

abbrev pub HaveNoFeeds : {D : Type 0} → TextKind D → Type 0
HaveNoFeeds {D} k = (d : D) → IsTrue (k.printable d) → AreNoFeeds (k.lines d)

-- a line that both lists have after these
record IsNext (seen tail lines : List (List ℕ)) : Type 0 where
  line : List ℕ
  rest : List (List ℕ)
  more : List (List ℕ)
  lines_are : lines ≡ seen ++ line ∷ rest
  tail_is : tail ≡ line ∷ more

next-of : (seen tail lines : List (List ℕ)) → suc (length seen) ≤ length (seen ++ tail) → suc (length seen) ≤ length lines → take (suc (length seen)) (seen ++ tail) ≡ take (suc (length seen)) lines → IsNext seen tail lines
next-of [] [] lines h k e = absurd (omega arith)
next-of [] (t ∷ tail) [] h k e = absurd (omega arith)
next-of [] (t ∷ tail) (l ∷ lines) h k e =
    let same = (cons-parts t l (take 0 tail) (take 0 lines) e).0 in
    record { line = t; rest = lines; more = tail; lines_are = λ i. sym same i ∷ lines; tail_is = refl }
next-of (s ∷ seen) tail [] h k e = absurd (omega arith)
next-of (s ∷ seen) tail (l ∷ lines) h k e =
    let p = cons-parts s l (take (suc (length seen)) (seen ++ tail)) (take (suc (length seen)) lines) e in
    let r = next-of seen tail lines (omega arith) (omega arith) p.1 in
    record { line = r.line; rest = r.rest; more = r.more; lines_are = λ i. sym p.0 i ∷ r.lines_are i; tail_is = r.tail_is }

pub faulty : {D : Type 0} (k : TextKind D) → HaveNoFeeds k → (bytes : List ℕ) (seen tail : List (List ℕ)) → whole_lines bytes ≡ seen ++ tail → IsBegun k seen
    → ((e : D) → IsTrue (k.printable e) → (l : List ℕ) (rest more : List (List ℕ)) → k.lines e ≡ seen ++ l ∷ rest → tail ≡ l ∷ more → ⊥)
    → ((e : D) → IsTextOf k e bytes → k.lines e ≡ seen → ⊥)
    → IsFaulty k bytes (length seen)
faulty {D} k feeds bytes seen tail whole begun next done = record { right = right-ones; wrong = wrong-next; no_text = none }
  where
    right-ones : IsRight k bytes (length seen)
    right-ones = (
      begun.whose,
      record {
        printable = begun.printable;
        are_there = let f = ap length whole in omega (arith, f, length-append seen tail);
        has_them = let f = ap length begun.all in omega (arith, f, length-append seen begun.rest);
        same = ap (take (length seen)) whole ∙ take-append_seam seen tail ∙ sym (take-append_seam seen begun.rest) ∙ sym (ap (take (length seen)) begun.all);
      },
    )

    at-next : (e : D) → IsRightUpTo k bytes (length seen + 1) e → IsNext seen tail (k.lines e)
    at-next e r =
        let there = r.are_there in
        let them = r.has_them in
        let f = ap length whole in
        next-of seen tail (k.lines e) (omega arith) (omega arith)
        (ap (take (suc (length seen))) (sym whole) ∙ (let same : take (suc (length seen)) (whole_lines bytes) ≡ take (suc (length seen)) (k.lines e) = rw add-one at r.same in same))

    wrong-next : ¬ IsRight k bytes (length seen + 1)
    wrong-next (e, r) =
        let n = at-next e r in
        next e r.printable n.line n.rest n.more n.lines_are n.tail_is

    its-lines : (e : D) → IsTextOf k e bytes → k.lines e ≡ seen ++ tail
    its-lines e t = sym (lines-back (k.lines e) (feeds e t.printable)) ∙ sym (ap whole_lines t.text) ∙ whole

    by-tail : (e : D) → IsTextOf k e bytes → (t : List (List ℕ)) → tail ≡ t → ⊥
    by-tail e h [] same = done e h (its-lines e h ∙ ap (λ k. seen ++ k) same ∙ append-nil seen)
    by-tail e h (l ∷ more) same = next e h.printable l more more (its-lines e h ∙ ap (λ k. seen ++ k) same) same

    none : (e : D) → ¬ IsTextOf k e bytes
    none e h = by-tail e h tail refl

-- ---- with its cause

pub cause-behind : {C : Type 0} (causes : Causes C) (bytes : List ℕ) (seen tail : List (List ℕ)) → whole_lines bytes ≡ seen ++ tail → cause_at causes bytes (length seen) ≡ cause_after causes seen (slice_get tail 0)
cause-behind causes bytes seen tail whole =
    ap (λ k. cause_after causes (take (length seen) k) (slice_get k (length seen))) whole
    ∙ ap (λ k. cause_after causes k (slice_get (seen ++ tail) (length seen))) (take-append_seam seen tail)
    ∙ ap (cause_after causes seen) (item-after seen tail)

pub wrong-behind : {D C : Type 0} (k : TextKind D) (causes : Causes C) (bytes : List ℕ) (seen tail : List (List ℕ)) (line : ℕ) (why : C) → whole_lines bytes ≡ seen ++ tail → IsFaulty k bytes (length seen) → line ≡ length seen + 1 → why ≡ cause_after causes seen (slice_get tail 0) → IsFirstWrong k causes bytes line why
wrong-behind k causes bytes seen tail line why whole h n c = record { right_lines = length seen; faulty = h; place = n; cause = c ∙ sym (cause-behind causes bytes seen tail whole) }

-- the line and the cause by others that are the same
pub wrong-moved : {D C : Type 0} (k : TextKind D) (causes : Causes C) (bytes : List ℕ) (m line : ℕ) (c why : C) → m ≡ line → c ≡ why → IsFirstWrong k causes bytes m c → IsFirstWrong k causes bytes line why
wrong-moved k causes bytes m line c why a b f = record { right_lines = f.right_lines; faulty = f.faulty; place = sym a ∙ f.place; cause = sym b ∙ f.cause }

-- ---- the head

-- these lines have this one after those that are seen
pub record HasLine (seen : List (List ℕ)) (lines : List (List ℕ)) (line : List ℕ) : Type 0 where
  pub rest : List (List ℕ)
  pub all : lines ≡ seen ++ line ∷ rest

-- each text has a line after these, and it does not stand there
pub line-missing : {D C : Type 0} (k : TextKind D) (causes : Causes C) → HaveNoFeeds k → (bytes : List ℕ) (seen : List (List ℕ)) (place : ℕ) (line : D → List ℕ) → AreRead bytes seen place
    → (blank : D) → IsTrue (k.printable blank) → ((d : D) → HasLine seen (k.lines d) (line d))
    → ((d : D) → IsTrue (k.printable d) → (more : List (List ℕ)) → ¬ (whole_lines (drop place bytes) ≡ line d ∷ more))
    → (c : C) → ((next : Option (List ℕ)) → cause_after causes seen next ≡ c) → IsFirstWrong k causes bytes (length seen + 1) c
line-missing {D} k causes feeds bytes seen place line r blank printable has none c why =
    wrong-behind k causes bytes seen (whole_lines (drop place bytes)) (length seen + 1) c r.whole (faulty k feeds bytes seen (whole_lines (drop place bytes)) r.whole begun next done) refl (sym (why (slice_get (whole_lines (drop place bytes)) 0)))
  where
    begun : IsBegun k seen
    begun = record { whose = blank; printable = printable; rest = line blank ∷ (has blank).rest; all = (has blank).all }

    next : (d : D) → IsTrue (k.printable d) → (l : List ℕ) (rest more : List (List ℕ)) → k.lines d ≡ seen ++ l ∷ rest → whole_lines (drop place bytes) ≡ l ∷ more → ⊥
    next d h l rest more same first =
        let e = first-item l (line d) rest (has d).rest (append_cancel_left seen (l ∷ rest) (line d ∷ (has d).rest) (sym same ∙ (has d).all)) in
        none d h more (first ∙ ap (λ (j : List ℕ). j ∷ more) e)

    no_line : (l : List ℕ) (rest : List (List ℕ)) → l ∷ rest ≡ [] → ⊥
    no_line l rest e = cc

    done : (d : D) → IsTextOf k d bytes → k.lines d ≡ seen → ⊥
    done d t same = no_line (line d) (has d).rest (append_cancel_left seen (line d ∷ (has d).rest) [] (sym (has d).all ∙ same ∙ sym (append-nil seen)))
