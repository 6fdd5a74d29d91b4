-- The whole lines of a text, and the reading of one line after the other.
use Rattle.std.proofs.Common.{◌≡◌, ℕ, ◌+◌, List, [], ◌∷◌, ◌++◌, take, drop, not, ◌==◌, IsTrue, refl, sym, ◌∙◌, ap, append_assoc, arith, inl, inr, flat_map}
use Rattle.std.specs.List.{list_all}
use Rattle.std.proofs.lemmas.Bool.{and_parts, cases_Bool, false≢true}
use Rattle.std.proofs.lemmas.Grind.{flat_map-append}
use Rattle.std.proofs.lemmas.List.{take-append-drop}
use Rattle.plain_laws.proofs.Lists.{regroup-line}
use Rattle.calculus.specs.FirstWrong.{line_bytes, byte_before, line_step, whole_lines}
use Rattle.text_lines.specs.Lines.{AreRead, IsLineAt}
use Rattle.text_lines.proofs.LineFeeds.{AreNoFeeds, NoFeed, is_no_feed}

-- ---- whole lines

step-other : (b : ℕ) (ls : List (List ℕ)) → IsTrue (is_no_feed b) → line_step b ls ≡ byte_before b ls
step-other b ls h = elim (cases_Bool (b == 10)) [
  | inl e ↦ absurd (false≢true (sym (ap not e) ∙ h))
  | inr e ↦ rw e refl
]

pub whole-line : (l r : List ℕ) → NoFeed l → whole_lines (l ++ 10 ∷ r) ≡ l ∷ whole_lines r
whole-line [] r h = refl
whole-line (b ∷ l) r h =
    let p = and_parts (is_no_feed b) (list_all is_no_feed l) h in
    step-other b (whole_lines (l ++ 10 ∷ r)) p.0 ∙ ap (byte_before b) (whole-line l r p.1)

pub no-line : (l : List ℕ) → NoFeed l → whole_lines l ≡ []
no-line [] h = refl
no-line (b ∷ l) h =
    let p = and_parts (is_no_feed b) (list_all is_no_feed l) h in
    step-other b (whole_lines l) p.0 ∙ ap (byte_before b) (no-line l p.1)

pub lines-back : (ls : List (List ℕ)) → AreNoFeeds ls → whole_lines (flat_map line_bytes ls) ≡ ls
lines-back [] h = refl
lines-back (l ∷ ls) h =
    let p = and_parts (list_all is_no_feed l) (list_all (list_all is_no_feed) ls) h in
    ap whole_lines (append_assoc l (10 ∷ []) (flat_map line_bytes ls)) ∙ whole-line l (flat_map line_bytes ls) p.0 ∙ ap (λ k. l ∷ k) (lines-back ls p.1)

-- up to the first line feed
pub at-feed : (bytes : List ℕ) (i : ℕ) → NoFeed (take i bytes) → drop i bytes ≡ 10 ∷ drop (i + 1) bytes → whole_lines bytes ≡ take i bytes ∷ whole_lines (drop (i + 1) bytes)
at-feed bytes i h e = ap whole_lines (sym (take-append-drop i bytes) ∙ ap (λ k. take i bytes ++ k) e) ∙ whole-line (take i bytes) (drop (i + 1) bytes) h

-- ---- lines one after the other

pub none-read : (bytes : List ℕ) → AreRead bytes [] 0
none-read bytes = record { within = omega arith; whole = refl; text = refl }

pub more-read : (bytes : List ℕ) (ls : List (List ℕ)) (from to : ℕ) (l : List ℕ) → AreRead bytes ls from → IsLineAt bytes from to l → AreRead bytes (ls ++ l ∷ []) to
more-read bytes ls from to l r h = record {
  within = h.within;
  whole = r.whole ∙ ap (λ k. ls ++ k) h.whole ∙ sym (append_assoc ls (l ∷ []) (whole_lines (drop to bytes)));
  text = r.text ∙ ap (λ k. flat_map line_bytes ls ++ k) h.text ∙ regroup-line (flat_map line_bytes ls) l (drop to bytes) ∙ sym (ap (λ k. k ++ drop to bytes) (flat_map-append line_bytes ls (l ∷ [])));
}
