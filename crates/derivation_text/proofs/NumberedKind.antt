-- Texts in the form of version 2 as texts of lines that stages order: what has been read of one, and where it is wrong first.
use Rattle.std.proofs.Common.{◌≡◌, ℕ, List, [], ◌∷◌, ◌++◌, length, map, drop, true, IsTrue, Option, None, Some, refl, sym, ◌∙◌, ap, subst, append_assoc, append-nil, flat_map}
use Rattle.std.specs.List.{list_all}
use Rattle.std.proofs.lemmas.Bool.{and_from, and_parts}
use Rattle.std.proofs.lemmas.List.Folds.{list_all-append}
use Rattle.plain_laws.proofs.Lists.{map-append}
use Rattle.calculus.specs.Syntax.{Problem}
use Rattle.calculus.specs.Problems.{is_problem}
use Rattle.calculus.specs.DerivationText.{is_limit}
use Rattle.calculus.specs.FirstWrong.{line_bytes, whole_lines, IsFaulty}
use Rattle.calculus.specs.Versions.{NumberedDerivation, is_written, numbered_head, numbered_lines, IsNumberedText, numbered_texts}
use Rattle.logic_rules.proofs.ProblemFacts.{kept}
use Rattle.text_lines.specs.Lines.{AreRead, IsLineAt}
use Rattle.text_lines.proofs.StagedLines.{AreReadTo, IsKind, Kind, run, wrong-end, wrong-line}
use Rattle.text_lines.proofs.WholeLines.{more-read}
use Rattle.derivation_text.specs.declared.numbered_line.NumberedStage.{NumberedStage}
use Rattle.derivation_text.specs.declared.numbered_line.Part.{Part}
use Rattle.derivation_text.specs.declared.numbered_line.Part.TheVariants.{Labels, Eigens, Spares, Terms, Steps, Ended}
use Rattle.derivation_text.specs.NumberedBody.{IsNumberedLine, NumberedLine, label_of, eigen_of, spare_of, term_of, step_of, last_line, ended_stage, numbered_line_is_written, numbered_line_text, numbered_stage_after, with_numbered_line}
use Rattle.derivation_text.specs.NumberedReading.{IsNumberedTo, ending_of, first_stage, front_lines, numbered_lines_at, numbered_stage_after_lines}
use Rattle.derivation_text.proofs.NumberedBodyLaws.{goes-more, lines-body, numbered_body}
use Rattle.derivation_text.proofs.NumberedEnds.{body-ends, body-written}
use Rattle.derivation_text.proofs.NumberedFeeds.{numbered-feed}
use Rattle.derivation_text.proofs.NumberedOne.{line-one}
use Rattle.derivation_text.proofs.NumberedStages.{run-append, run-none, written-so_far}

-- ---- the kind of text

abbrev pub kind_two : Problem → Kind NumberedDerivation NumberedLine NumberedStage
kind_two P = record {
  texts = numbered_texts P;
  head = λ (x : NumberedDerivation). numbered_head P x.limit;
  body = numbered_body;
  text = numbered_line_text P.symbols;
  good = numbered_line_is_written P.symbols;
  first = first_stage;
  ended = ended_stage;
  after = numbered_stage_after;
}

run-same : (P : Problem) (o : Option NumberedStage) (xs : List NumberedLine) → run (kind_two P) o xs ≡ numbered_stage_after_lines o xs
run-same P o [] = refl
run-same P None (x ∷ xs) = run-same P None xs
run-same P (Some s) (x ∷ xs) = run-same P (numbered_stage_after s x) xs

pub is-kind_two : (P : Problem) → IsTrue (is_problem P) → IsKind (kind_two P)
is-kind_two P w = record {
  lines_are = lines-body P;
  feeds = numbered-feed P w;
  written = body-written P;
  ends = λ x h. run-same P (Some first_stage) (numbered_body x) ∙ body-ends P x h;
  one = line-one P.symbols (kept P w).distinct;
}

-- ---- what has been read

none-some : {C : Type 0} (o : Option NumberedStage) (s : NumberedStage) → o ≡ None → o ≡ Some s → C
none-some o s e f = absurd (cc)

reached : (o : Option NumberedStage) (xs : List NumberedLine) (s : NumberedStage) → numbered_stage_after_lines o xs ≡ Some s → (t : NumberedStage) × (o ≡ Some t)
reached None xs s e = none-some _ s (run-none xs) e
reached (Some t) xs s e = (t, refl)

pub written-at : (P : Problem) (bytes : List ℕ) (place : ℕ) (s : NumberedStage) (x : NumberedDerivation) → IsNumberedTo P bytes place s x → IsTrue (is_written P x)
written-at P bytes place s x r =
    let good = numbered_line_is_written P.symbols in
    let w = and_parts (list_all good (front_lines x)) (list_all good (ending_of s.part)) (sym (list_all-append good (front_lines x) (ending_of s.part)) ∙ r.written) in
    let o = reached (numbered_stage_after_lines (Some first_stage) (front_lines x)) (ending_of s.part) s (sym (run-append (Some first_stage) (front_lines x) (ending_of s.part)) ∙ r.order) in
    written-so_far P x.limit x.labels x.eigens x.spares x.terms x.steps o.0 r.limit w.0 o.1

-- what follows the lines of a part in the text of these numbers
abbrev behind : Part → List NumberedLine
behind Ended = []
behind _ = last_line ∷ []

to-end : (p : Part) (x : NumberedDerivation) → numbered_body x ≡ numbered_lines_at p x ++ behind p
to-end Labels x = ap (λ l. l ++ last_line ∷ []) (sym (append-nil (front_lines x)))
to-end (Eigens n) x = ap (λ l. l ++ last_line ∷ []) (sym (append-nil (front_lines x)))
to-end (Spares n) x = ap (λ l. l ++ last_line ∷ []) (sym (append-nil (front_lines x)))
to-end Terms x = ap (λ l. l ++ last_line ∷ []) (sym (append-nil (front_lines x)))
to-end Steps x = ap (λ l. l ++ last_line ∷ []) (sym (append-nil (front_lines x)))
to-end Ended x = sym (append-nil (front_lines x ++ last_line ∷ []))

-- the lines that have been read, those of the head included
abbrev pub numbered_lines_read : Problem → Part → NumberedDerivation → List (List ℕ)
numbered_lines_read P p x = numbered_head P x.limit ++ map (numbered_line_text P.symbols) (numbered_lines_at p x)

all-lines : (P : Problem) (p : Part) (x : NumberedDerivation) → numbered_lines P x ≡ numbered_lines_read P p x ++ map (numbered_line_text P.symbols) (behind p)
all-lines P p x =
    let f = numbered_line_text P.symbols in
    let h = numbered_head P x.limit in
    lines-body P x ∙ ap (λ l. h ++ map f l) (to-end p x) ∙ ap (λ l. h ++ l) (map-append f (numbered_lines_at p x) (behind p))
    ∙ sym (append_assoc h (map f (numbered_lines_at p x)) (map f (behind p)))

pub are-read : (P : Problem) (bytes : List ℕ) (place : ℕ) (s : NumberedStage) (x : NumberedDerivation) → IsNumberedTo P bytes place s x → AreReadTo (kind_two P) bytes place s (numbered_head P x.limit) (numbered_lines_at s.part x)
are-read P bytes place s x r = record {
  lines = r.lines;
  good = r.written;
  order = run-same P (Some first_stage) (numbered_lines_at s.part x) ∙ r.order;
  begun = record { whose = x; printable = written-at P bytes place s x r; rest = map (numbered_line_text P.symbols) (behind s.part); all = all-lines P s.part x };
  heads = λ d h. refl;
}

-- ---- one line more

same-limit : (x : NumberedDerivation) (l : NumberedLine) → x.limit ≡ (with_numbered_line x l).limit
same-limit x (label_of k w) = refl
same-limit x (eigen_of y) = refl
same-limit x (spare_of y) = refl
same-limit x (term_of k t) = refl
same-limit x (step_of y) = refl
same-limit x last_line = refl

pub read-lines : (P : Problem) (bytes : List ℕ) (place : ℕ) (s t : NumberedStage) (x : NumberedDerivation) (l : NumberedLine) (line : List ℕ) → IsNumberedTo P bytes place s x → IsNumberedLine P.symbols line l → numbered_stage_after s l ≡ Some t → numbered_lines_read P s.part x ++ line ∷ [] ≡ numbered_lines_read P t.part (with_numbered_line x l)
read-lines P bytes place s t x l line r is e =
    let f = numbered_line_text P.symbols in
    let y = with_numbered_line x l in
    append_assoc (numbered_head P x.limit) (map f (numbered_lines_at s.part x)) (line ∷ [])
    ∙ ap (λ (k : List ℕ). numbered_head P x.limit ++ (map f (numbered_lines_at s.part x) ++ k ∷ [])) is.same
    ∙ ap (λ k. numbered_head P x.limit ++ k) (sym (map-append f (numbered_lines_at s.part x) (l ∷ [])))
    ∙ ap (λ k. numbered_head P x.limit ++ map f k) (sym (goes-more s t x l r.fits r.counts e).lines)
    ∙ ap (λ n. numbered_head P n ++ map f (numbered_lines_at t.part y)) (same-limit x l)

pub read-more : (P : Problem) (bytes : List ℕ) (place to : ℕ) (s t : NumberedStage) (x : NumberedDerivation) (l : NumberedLine) (line : List ℕ) → IsNumberedTo P bytes place s x → IsLineAt bytes place to line → IsNumberedLine P.symbols line l → numbered_stage_after s l ≡ Some t → IsNumberedTo P bytes to t (with_numbered_line x l)
read-more P bytes place to s t x l line r here is e =
    let good = numbered_line_is_written P.symbols in
    let g = goes-more s t x l r.fits r.counts e in
    let lines = read-lines P bytes place s t x l line r is e in
    record {
      limit = subst (λ n. IsTrue (is_limit n)) (same-limit x l) r.limit;
      lines = subst (λ k. AreRead bytes k to) lines (more-read bytes (numbered_lines_read P s.part x) place to line r.lines here);
      written = ap (list_all good) g.lines ∙ list_all-append good (numbered_lines_at s.part x) (l ∷ []) ∙ and_from (list_all good (numbered_lines_at s.part x)) (list_all good (l ∷ [])) r.written (and_from (good l) true is.written refl);
      order = ap (numbered_stage_after_lines (Some first_stage)) g.lines ∙ run-append (Some first_stage) (numbered_lines_at s.part x) (l ∷ []) ∙ ap (λ o. numbered_stage_after_lines o (l ∷ [])) r.order ∙ e;
      fits = g.fits;
      counts = g.counts;
    }

-- ---- faults

-- the next line may not stand here
pub fault-at_line : (P : Problem) → IsTrue (is_problem P) → (bytes : List ℕ) (place to : ℕ) (s : NumberedStage) (x : NumberedDerivation) (line : List ℕ) → IsNumberedTo P bytes place s x → IsLineAt bytes place to line
    → ((l : NumberedLine) → IsNumberedLine P.symbols line l → numbered_stage_after s l ≡ None) → IsFaulty (numbered_texts P) bytes (length (numbered_lines_read P s.part x))
fault-at_line P w bytes place to s x line r here none =
    wrong-line (kind_two P) (is-kind_two P w) bytes place to s (numbered_head P x.limit) (numbered_lines_at s.part x) line (are-read P bytes place s x r) here (λ l h. none l (record { written = h.good; same = h.same }))

-- no whole line follows, and the text has not ended as it should
pub fault-at_end : (P : Problem) → IsTrue (is_problem P) → (bytes : List ℕ) (place : ℕ) (s : NumberedStage) (x : NumberedDerivation) → IsNumberedTo P bytes place s x → whole_lines (drop place bytes) ≡ []
    → (s ≡ ended_stage → drop place bytes ≡ [] → ⊥) → IsFaulty (numbered_texts P) bytes (length (numbered_lines_read P s.part x))
fault-at_end P w bytes place s x r none unfinished =
    wrong-end (kind_two P) (is-kind_two P w) bytes place s (numbered_head P x.limit) (numbered_lines_at s.part x) (are-read P bytes place s x r) none unfinished

-- the text has ended
pub text-at_end : (P : Problem) (bytes : List ℕ) (place : ℕ) (s : NumberedStage) (x : NumberedDerivation) → IsNumberedTo P bytes place s x → s.part ≡ Ended → drop place bytes ≡ [] → IsNumberedText P x bytes
text-at_end P bytes place s x r e d = record {
  printable = written-at P bytes place s x r;
  text = r.lines.text ∙ ap (λ l. flat_map line_bytes (numbered_lines_read P s.part x) ++ l) d ∙ append-nil (flat_map line_bytes (numbered_lines_read P s.part x))
      ∙ ap (λ p. flat_map line_bytes (numbered_lines_read P p x)) e ∙ ap (flat_map line_bytes) (sym (all-lines P Ended x ∙ append-nil (numbered_lines_read P Ended x)));
}
