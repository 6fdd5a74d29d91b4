-- The characters of a label are read in just one way.
use Rattle.std.proofs.Common.{◌≡◌, ℕ, ◌+◌, ◌≤◌, ◌^◌, List, [], ◌∷◌, ◌++◌, map, true, ◌&&◌, ◌==◌, IsTrue, refl, sym, ◌∙◌, ap, append-nil, append_assoc, length, drop, decimal, nat_le, ltb-true, subst, leb-true, arith}
use Rattle.std.specs.List.{join_with_byte}
use Rattle.std.proofs.lemmas.List.Folds.{list_all-append}
use Rattle.std.proofs.lemmas.Bool.{false≢true, true≢false, and_parts, and_from}
use Rattle.calculus.specs.Derivations.{Mark, new_mark, spare_mark, Label}
use Rattle.calculus.specs.DerivationText.{IsLabelAt, is_name_number, label_is_written, mark_is_written}
use Rattle.calculus.specs.Text.{Ends, StopsAt, is_digit, is_number, label_text, mark_text}
use Rattle.calculus.proofs.TextLaws.{cons-head, cons-tail, decimal-split}
use Rattle.calculus.proofs.TermTextLaws.{label-split}
use Rattle.formula_text.proofs.Numbers.{small}
use Rattle.formula_text.proofs.Places.{after-text, stands-by, stands-front}
use Rattle.formula_text.proofs.Rests.{join-marks}
use Rattle.formula_text.specs.Marks.{AreMarksAt, IsInnerAt, IsMarkAt, front_text}
use Rattle.formula_text.specs.Rests.{marks_text, more_marks_text}
use Rattle.formula_text.specs.Runs.{IsNumberAt, IsNumberedAt}

-- ---- numbers from 1

pub no_zero : (bytes : List ℕ) (from end to letter l n : ℕ) → drop from bytes ≡ 36 ∷ 36 ∷ l ∷ drop (from + 3) bytes → IsNumberAt bytes (from + 3) end 0 → ¬ IsNumberedAt bytes from to letter n
no_zero bytes from end to letter l n e zeros h =
    let p = and_parts (nat_le 1 n) (is_number n) h.written in
    let same : decimal 0 ++ drop end bytes ≡ decimal n ++ drop to bytes = sym zeros.stands.there ∙ cons-tail (cons-tail (cons-tail (sym e ∙ h.stands.there))) in
    let k = (decimal-split 0 n (drop end bytes) (drop to bytes) (small 0 (omega arith)) (small n (ltb-true n (2 ^ 32) p.1)) zeros.ends h.ends same).0 in
    let low = leb-true 1 n p.0 in
    absurd (omega arith)

-- ---- one character more

pub front-push : (w : Label) (m : Mark) → front_text (w ++ m ∷ []) ≡ front_text w ++ (mark_text m ++ 44 ∷ [])
front-push [] m = refl
front-push (x ∷ w) m = ap (λ l. mark_text x ++ 44 ∷ l) (front-push w m) ∙ sym (append_assoc (mark_text x) (44 ∷ front_text w) (mark_text m ++ 44 ∷ []))

more-push : (w : Label) (m : Mark) → more_marks_text (w ++ m ∷ []) ≡ 44 ∷ (front_text w ++ mark_text m)
more-push [] m = ap (λ l. 44 ∷ l) (append-nil (mark_text m))
more-push (x ∷ w) m = ap (λ l. 44 ∷ (mark_text x ++ l)) (more-push w m) ∙ ap (λ l. 44 ∷ l) (sym (append_assoc (mark_text x) (44 ∷ front_text w) (mark_text m)))

pub marks-push : (w : Label) (m : Mark) → marks_text (w ++ m ∷ []) true ≡ front_text w ++ mark_text m
marks-push [] m = append-nil (mark_text m)
marks-push (x ∷ w) m = ap (λ l. mark_text x ++ l) (more-push w m) ∙ sym (append_assoc (mark_text x) (44 ∷ front_text w) (mark_text m))

pub written-push : (w : Label) (m : Mark) → IsTrue (label_is_written w) → IsTrue (mark_is_written m) → IsTrue (label_is_written (w ++ m ∷ []))
written-push w m h k = list_all-append mark_is_written w (m ∷ []) ∙ and_from (label_is_written w) (mark_is_written m && true) h (and_from (mark_is_written m) true k refl)

-- a character and a comma after it
pub step-more : (bytes : List ℕ) (from place end : ℕ) (w : Label) (m : Mark) → drop from bytes ≡ front_text w ++ drop place bytes → IsMarkAt bytes place end m → drop end bytes ≡ 44 ∷ drop (end + 1) bytes
    → drop from bytes ≡ front_text (w ++ m ∷ []) ++ drop (end + 1) bytes
step-more bytes from place end w m e h k = glue (front_text w) (mark_text m) (drop from bytes) (drop place bytes) (drop end bytes) (drop (end + 1) bytes) (front_text (w ++ m ∷ [])) e h.stands.there k (front-push w m)
  where
    glue : (f t a b c d g : List ℕ) → a ≡ f ++ b → b ≡ t ++ c → c ≡ 44 ∷ d → g ≡ f ++ (t ++ 44 ∷ []) → a ≡ g ++ d
    glue f t a b c d g p q r s = rw (p, q, r, s) (simp append_assoc)

-- a character and the closing bracket
pub step-closed : (bytes : List ℕ) (from place end : ℕ) (w : Label) (m : Mark) → drop from bytes ≡ front_text w ++ drop place bytes → IsMarkAt bytes place end m → drop end bytes ≡ 93 ∷ drop (end + 1) bytes
    → IsTrue (label_is_written w) → AreMarksAt bytes from (end + 1) (w ++ m ∷ [])
step-closed bytes from place end w m e h k written = with_parts w refl
  where
    text : drop from bytes ≡ marks_text (w ++ m ∷ []) true ++ 93 ∷ drop (end + 1) bytes
    text = glue (front_text w) (mark_text m) (drop from bytes) (drop place bytes) (drop end bytes) (drop (end + 1) bytes) (marks_text (w ++ m ∷ []) true) e h.stands.there k (marks-push w m)
      where
        glue : (f t a b c d g : List ℕ) → a ≡ f ++ b → b ≡ t ++ c → c ≡ 93 ∷ d → g ≡ f ++ t → a ≡ g ++ 93 ∷ d
        glue f t a b c d g p q r s = rw (p, q, r, s) (simp append_assoc)

    with_parts : (v : Label) → v ≡ w → AreMarksAt bytes from (end + 1) (w ++ m ∷ [])
    with_parts [] s = record { first = m; others = []; all = ap (λ z. z ++ m ∷ []) (sym s); written = written-push w m written h.written; stands = text }
    with_parts (x ∷ v) s = record { first = x; others = v ++ m ∷ []; all = ap (λ z. z ++ m ∷ []) (sym s); written = written-push w m written h.written; stands = text }

-- ---- what has to follow

numbers : (m n : ℕ) (r s : List ℕ) → IsTrue (is_name_number m) → IsTrue (is_name_number n) → StopsAt is_digit r → StopsAt is_digit s → decimal m ++ r ≡ decimal n ++ s → (m ≡ n) × (r ≡ s)
numbers m n r s hm hn hr hs e = decimal-split m n r s (small m (ltb-true m (2 ^ 32) (and_parts (nat_le 1 m) (is_number m) hm).1)) (small n (ltb-true n (2 ^ 32) (and_parts (nat_le 1 n) (is_number n) hn).1)) hr hs e

mark-split_digits : (m n : Mark) (r s : List ℕ) → IsTrue (mark_is_written m) → IsTrue (mark_is_written n) → StopsAt is_digit r → StopsAt is_digit s → mark_text m ++ r ≡ mark_text n ++ s → (m ≡ n) × (r ≡ s)
mark-split_digits (new_mark m) (new_mark n) r s hm hn hr hs e = let k = numbers m n r s hm hn hr hs (cons-tail (cons-tail (cons-tail e))) in (ap new_mark k.0, k.1)
mark-split_digits (new_mark m) (spare_mark n) r s hm hn hr hs e = absurd (true≢false (ap (λ k. k == 99) (cons-head (cons-tail (cons-tail e)))))
mark-split_digits (spare_mark m) (new_mark n) r s hm hn hr hs e = absurd (false≢true (ap (λ k. k == 99) (cons-head (cons-tail (cons-tail e)))))
mark-split_digits (spare_mark m) (spare_mark n) r s hm hn hr hs e = let k = numbers m n r s hm hn hr hs (cons-tail (cons-tail (cons-tail e))) in (ap spare_mark k.0, k.1)

more-stops : (w : Label) (r : List ℕ) → StopsAt is_digit (more_marks_text w ++ 93 ∷ r)
more-stops [] r = refl
more-stops (m ∷ w) r = refl

-- what is left of a label after the characters that were read
pub record Left (rest r : List ℕ) : Type 0 where
  pub next : Mark
  pub others : Label
  pub next_written : IsTrue (mark_is_written next)
  pub text : rest ≡ mark_text next ++ (more_marks_text others ++ 93 ∷ r)

left-step : (y : Mark) (w : Label) (x : Mark) (v : Label) (rest r : List ℕ) → IsTrue (label_is_written (y ∷ w)) → IsTrue (label_is_written (x ∷ v)) → front_text (y ∷ w) ++ rest ≡ marks_text (x ∷ v) true ++ 93 ∷ r → 44 ∷ (front_text w ++ rest) ≡ more_marks_text v ++ 93 ∷ r
left-step y w x v rest r hw hv e =
    let pw = and_parts (mark_is_written y) (label_is_written w) hw in
    let pv = and_parts (mark_is_written x) (label_is_written v) hv in
    let f = sym (append_assoc (mark_text y) (44 ∷ front_text w) rest) ∙ e ∙ append_assoc (mark_text x) (more_marks_text v) (93 ∷ r) in
    (mark-split_digits y x (44 ∷ (front_text w ++ rest)) (more_marks_text v ++ 93 ∷ r) pw.0 pv.0 refl (more-stops v r) f).1

pub left-of : (w : Label) (x : Mark) (v : Label) (rest r : List ℕ) → IsTrue (label_is_written w) → IsTrue (label_is_written (x ∷ v)) → front_text w ++ rest ≡ marks_text (x ∷ v) true ++ 93 ∷ r → Left rest r
left-of [] x v rest r hw hv e = record { next = x; others = v; next_written = (and_parts (mark_is_written x) (label_is_written v) hv).0; text = e ∙ append_assoc (mark_text x) (more_marks_text v) (93 ∷ r) }
left-of (y ∷ w) x [] rest r hw hv e = absurd (true≢false (ap (λ z. z == 44) (cons-head (left-step y w x [] rest r hw hv e))))
left-of (y ∷ w) x (z ∷ u) rest r hw hv e =
    left-of w z u rest r (and_parts (mark_is_written y) (label_is_written w) hw).1 (and_parts (mark_is_written x) (label_is_written (z ∷ u)) hv).1 (cons-tail (left-step y w x (z ∷ u) rest r hw hv e))

-- where no character stands there are no marks
pub no_mark : (bytes : List ℕ) (from place : ℕ) (w : Label) → drop from bytes ≡ front_text w ++ drop place bytes → IsTrue (label_is_written w) → ((to : ℕ) (m : Mark) → ¬ IsMarkAt bytes place to m) → (to : ℕ) (v : Label) → ¬ AreMarksAt bytes from to v
no_mark bytes from place w e h none to v s =
    let left = left-of w s.first s.others (drop place bytes) (drop to bytes) h (subst (λ z. IsTrue (label_is_written z)) s.all s.written) (sym e ∙ s.stands ∙ ap (λ z. marks_text z true ++ 93 ∷ drop to bytes) s.all) in
    none (place + length (mark_text left.next)) left.next (record {
      written = left.next_written;
      stands = stands-front bytes (mark_text left.next) (more_marks_text left.others ++ 93 ∷ drop to bytes) place left.text;
      ends = subst (StopsAt is_digit) (sym (after-text bytes (mark_text left.next) (more_marks_text left.others ++ 93 ∷ drop to bytes) place left.text)) (more-stops left.others (drop to bytes));
    })

-- nor where neither a comma nor a bracket stands after a character
pub no_follower : (bytes : List ℕ) (from place end : ℕ) (w : Label) (m : Mark) → drop from bytes ≡ front_text w ++ drop place bytes → IsTrue (label_is_written w) → IsMarkAt bytes place end m
    → ((rest : List ℕ) → ¬ (drop end bytes ≡ 93 ∷ rest)) → ((rest : List ℕ) → ¬ (drop end bytes ≡ 44 ∷ rest)) → (to : ℕ) (v : Label) → ¬ AreMarksAt bytes from to v
no_follower bytes from place end w m e h mark closed comma to v s =
    let left = left-of w s.first s.others (drop place bytes) (drop to bytes) h (subst (λ z. IsTrue (label_is_written z)) s.all s.written) (sym e ∙ s.stands ∙ ap (λ z. marks_text z true ++ 93 ∷ drop to bytes) s.all) in
    let k = mark-split_digits m left.next (drop end bytes) (more_marks_text left.others ++ 93 ∷ drop to bytes) mark.written left.next_written mark.ends (more-stops left.others (drop to bytes)) (sym mark.stands.there ∙ left.text) in
    by left.others k.1
  where
    by : (u : Label) → drop end bytes ≡ more_marks_text u ++ 93 ∷ drop to bytes → ⊥
    by [] g = closed (drop to bytes) g
    by (x ∷ u) g = comma _ g

-- ---- labels

pub inner-marks : (bytes : List ℕ) (from to : ℕ) (w : Label) → ((rest : List ℕ) → ¬ (drop from bytes ≡ 93 ∷ rest)) → IsInnerAt bytes from to w → AreMarksAt bytes from to w
inner-marks bytes from to [] wrong h = absurd (wrong (drop to bytes) h.stands)
inner-marks bytes from to (x ∷ w) wrong h = record { first = x; others = w; all = refl; written = h.written; stands = h.stands }

pub label-on : (w : Label) (r : List ℕ) → label_text w ++ r ≡ 91 ∷ (marks_text w true ++ 93 ∷ r)
label-on w r = ap (λ l. 91 ∷ l) (append_assoc (join_with_byte 44 (map mark_text w)) (93 ∷ []) r ∙ ap (λ l. l ++ 93 ∷ r) (join-marks w))

pub label-inner : (bytes : List ℕ) (from to : ℕ) (w : Label) → drop from bytes ≡ 91 ∷ drop (from + 1) bytes → IsLabelAt bytes from to w → IsInnerAt bytes (from + 1) to w
label-inner bytes from to w e h = record { written = h.written; stands = cons-tail (sym e ∙ h.stands.there ∙ label-on w (drop to bytes)) }

pub label-here : (bytes : List ℕ) (from to : ℕ) (w : Label) → from ≤ length bytes → to ≤ length bytes → drop from bytes ≡ 91 ∷ drop (from + 1) bytes → IsInnerAt bytes (from + 1) to w → Ends (drop to bytes) → IsLabelAt bytes from to w
label-here bytes from to w h k e inner ends = record { written = inner.written; stands = stands-by bytes (label_text w) from to h k (e ∙ ap (λ l. 91 ∷ l) inner.stands ∙ sym (label-on w (drop to bytes))); ends = ends }

-- a label that does not end where it should
pub no_end : (bytes : List ℕ) (from to : ℕ) (w : Label) → drop from bytes ≡ 91 ∷ drop (from + 1) bytes → IsInnerAt bytes (from + 1) to w → ¬ Ends (drop to bytes) → (then : ℕ) (v : Label) → ¬ IsLabelAt bytes from then v
no_end bytes from to w e inner not then v h =
    let k = label-split w v (drop to bytes) (drop then bytes) inner.written h.written (label-on w (drop to bytes) ∙ ap (λ l. 91 ∷ l) (sym inner.stands) ∙ sym e ∙ h.stands.there) in
    not (subst Ends (sym k.1) h.ends)
