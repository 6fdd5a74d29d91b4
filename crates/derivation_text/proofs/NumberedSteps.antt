-- What the loops over the lines of both versions keep, and what they answer.
use Rattle.std.proofs.Common.{◌≡◌, ◌&&◌, ℕ, ◌+◌, ◌≤◌, List, [], ◌∷◌, length, drop, IsTrue, refl, sym, ◌∙◌, ap, subst, arith, slice_get, None, Some, codes, length-append}
use Rattle.std.proofs.lemmas.Bool.{and_parts}
use Rattle.std.proofs.lemmas.List.{length-drop}
use Rattle.calculus.specs.declared.fault.TextCause.{TextCause}
use Rattle.calculus.specs.declared.version.Version.TheVariants.{One, Two}
use Rattle.calculus.specs.Syntax.{Problem}
use Rattle.calculus.specs.Problems.{is_problem}
use Rattle.calculus.specs.FirstWrong.{whole_lines}
use Rattle.calculus.specs.Versions.{IsTextIn, NumberedDerivation, is_among, numbered_home_is_written, numbering, stated, IsNumberedText}
use Rattle.calculus.specs.VersionJudgement.{IsWrongForm}
use Rattle.calculus.proofs.VersionLaws.{stated-numbering}
use Rattle.text_lines.specs.Lines.{IsLineAt}
use Rattle.derivation_text.specs.declared.body_line.Stage.{Stage}
use Rattle.derivation_text.specs.declared.body_line.Stage.TheVariants.{Eigens as AtEigens, Ended as AtEnd}
use Rattle.derivation_text.specs.declared.numbered_line.NumberedStage.{NumberedStage}
use Rattle.derivation_text.specs.declared.numbered_line.Part.TheVariants.{Eigens, Spares, Steps, Ended}
use Rattle.derivation_text.specs.Body.{BodyLine, IsBodyLine, stage_after}
use Rattle.derivation_text.specs.Entering.{empty_of, put_line}
use Rattle.derivation_text.specs.Listed.{are_listed}
use Rattle.derivation_text.specs.NumberedBody.{IsNumberedLine, NumberedLine, label_of, eigen_of, spare_of, term_of, step_of, last_line, goes_on, is_behind, is_line_listed, last_eigen, last_spare, numbered_stage_after, with_numbered_line}
use Rattle.derivation_text.specs.NumberedReading.{IsNumberedTo, first_stage, numbered_cause_at_stage}
use Rattle.derivation_text.specs.Reading.{IsHeadRead, IsReadTo, lines_read, with_line}
use Rattle.derivation_text.proofs.BodySteps.{after-first, few}
use Rattle.derivation_text.proofs.Endings.{body-step, text-at_end}
use Rattle.derivation_text.proofs.NumberedBodyLaws.{Counts, chosen, eigen-goes, spare-goes}
use Rattle.derivation_text.proofs.NumberedCauses.{cause-at_part}
use Rattle.derivation_text.proofs.NumberedKind.{fault-at_end, fault-at_line, numbered_lines_read, read-lines, read-more}
use Rattle.derivation_text.proofs.NumberedKind as kind
use Rattle.derivation_text.proofs.NumberingLaws.{put-line}

-- ---- version 1

-- what the loop keeps: the derivation that is stated is read so far, its numbers are in order, and its lines are counted
pub record IsEnteredTo (P : Problem) (bytes : List ℕ) (place : ℕ) (s : Stage) (x : NumberedDerivation) (count : ℕ) : Type 0 where
  pub read : IsReadTo P bytes place s (stated x)
  pub numbers : x ≡ numbering (stated x)
  pub counted : count ≡ length (lines_read P s (stated x))

pub entered-first : (P : Problem) (bytes : List ℕ) (place limit : ℕ) (x : NumberedDerivation) → IsHeadRead One P bytes place limit → x ≡ empty_of limit → IsEnteredTo P bytes place (AtEigens 0) x 4
entered-first P bytes place limit x h e = subst (λ y. IsEnteredTo P bytes place (AtEigens 0) y 4) (sym e) (record {
  read = record { limit = h.limit; lines = h.lines; written = refl; order = refl; fits = (refl, refl) };
  numbers = refl;
  counted = refl;
})

pub entered-step : (P : Problem) (bytes : List ℕ) (place to : ℕ) (s t : Stage) (x y : NumberedDerivation) (l : BodyLine) (line : List ℕ) (count : ℕ) → IsEnteredTo P bytes place s x count → IsLineAt bytes place to line → IsBodyLine P.symbols line l → stage_after s l ≡ Some t → y ≡ put_line x l
    → IsEnteredTo P bytes to t y (count + 1)
entered-step P bytes place to s t x y l line count h here is after e =
    let grown : y ≡ numbering (with_line (stated x) l) = e ∙ ap (λ z. put_line z l) h.numbers ∙ put-line (stated x) s t l h.read.fits after in
    let same : stated y ≡ with_line (stated x) l = ap stated grown ∙ stated-numbering (with_line (stated x) l) in
    let b = body-step P bytes place to s t (stated x) (stated y) l line count h.read h.counted here is after same in
    record { read = b.0; numbers = grown ∙ ap numbering (sym same); counted = b.1 }

pub entered-text : (P : Problem) (bytes : List ℕ) (place : ℕ) (s : Stage) (x : NumberedDerivation) (count : ℕ) → IsEnteredTo P bytes place s x count → s ≡ AtEnd → place ≡ length bytes → IsTextIn One P (stated x) bytes
entered-text P bytes place s x count h e f = text-at_end P bytes place s (stated x) h.read e f

-- ---- version 2

pub record IsPutTo (P : Problem) (bytes : List ℕ) (place : ℕ) (s : NumberedStage) (x : NumberedDerivation) (count : ℕ) : Type 0 where
  pub read : IsNumberedTo P bytes place s x
  pub counted : count ≡ length (numbered_lines_read P s.part x)

pub put-first : (P : Problem) (bytes : List ℕ) (place limit : ℕ) (x : NumberedDerivation) → IsHeadRead Two P bytes place limit → x ≡ empty_of limit → IsPutTo P bytes place first_stage x 4
put-first P bytes place limit x h e = subst (λ y. IsPutTo P bytes place first_stage y 4) (sym e) (record {
  read = record { limit = h.limit; lines = h.lines; written = refl; order = refl; fits = (refl, refl, refl, refl); counts = λ _. (refl, refl) };
  counted = refl;
})

-- the numbers of the next line are listed
pub next-listed : (s t : NumberedStage) (x : NumberedDerivation) (l : NumberedLine) → Counts s x → numbered_stage_after s l ≡ Some t → IsTrue (is_line_listed (length x.labels) (length x.terms) l)
next-listed s t x (label_of k w) n e = refl
next-listed s t x (term_of k u) n e = refl
next-listed s t x last_line n e = refl
next-listed s t x (eigen_of y) n e =
    let c = chosen (is_behind (last_eigen s.part) y.number && is_among s.labels y.home) (record { labels = s.labels; terms = s.terms; part = Eigens y.number }) t e in
    let p = and_parts (is_behind (last_eigen s.part) y.number) (is_among s.labels y.home) c.0 in
    ap (λ m. is_among m y.home) (sym (n (eigen-goes s.part y.number p.0)).0) ∙ p.1
next-listed s t x (spare_of y) n e =
    let c = chosen (is_behind (last_spare s.part) y.number && numbered_home_is_written s.labels y.home) (record { labels = s.labels; terms = s.terms; part = Spares y.number }) t e in
    let p = and_parts (is_behind (last_spare s.part) y.number) (numbered_home_is_written s.labels y.home) c.0 in
    ap (λ m. numbered_home_is_written m y.home) (sym (n (spare-goes s.part y.number p.0)).0) ∙ p.1
next-listed s t x (step_of y) n e =
    let c = chosen (goes_on s.part && are_listed s.labels s.terms y) (record { labels = s.labels; terms = s.terms; part = Steps }) t e in
    let p = and_parts (goes_on s.part) (are_listed s.labels s.terms y) c.0 in
    let m = n p.0 in
    (λ i. are_listed (sym m.0 i) (sym m.1 i) y) ∙ p.1

pub put-step : (P : Problem) (bytes : List ℕ) (place to : ℕ) (s t : NumberedStage) (x y : NumberedDerivation) (l : NumberedLine) (line : List ℕ) (count : ℕ) → IsPutTo P bytes place s x count → IsLineAt bytes place to line → IsNumberedLine P.symbols line l → numbered_stage_after s l ≡ Some t → y ≡ with_numbered_line x l
    → IsPutTo P bytes to t y (count + 1)
put-step P bytes place to s t x y l line count h here is after e = subst (λ z. IsPutTo P bytes to t z (count + 1)) (sym e) (record {
  read = read-more P bytes place to s t x l line h.read here is after;
  counted =
      let m = ap length (read-lines P bytes place s t x l line h.read is after) in
      let n = h.counted in
      let k = length-append (numbered_lines_read P s.part x) (line ∷ []) in
      omega (arith, m, n, k);
})

pub put-few : (P : Problem) (bytes : List ℕ) (place : ℕ) (s : NumberedStage) (x : NumberedDerivation) (count : ℕ) → IsPutTo P bytes place s x count → count + 10 ≤ length bytes
put-few P bytes place s x count h =
    let f = few (codes "leancop derivation 2") (after-first (numbered_lines_read P s.part x)) (drop place bytes) bytes (omega arith) h.read.lines.text in
    let n = h.counted in
    omega (arith, f, n)

pub put-fault_at_line : (P : Problem) → IsTrue (is_problem P) → (bytes : List ℕ) (place to : ℕ) (s : NumberedStage) (x : NumberedDerivation) (line : List ℕ) (count : ℕ) (c : TextCause) → IsPutTo P bytes place s x count → IsLineAt bytes place to line
    → ((l : NumberedLine) → IsNumberedLine P.symbols line l → numbered_stage_after s l ≡ None) → c ≡ numbered_cause_at_stage s.part (Some line) → IsWrongForm Two P bytes (count + 1) c
put-fault_at_line P w bytes place to s x line count c h here none why = record {
  right_lines = length (numbered_lines_read P s.part x);
  faulty = fault-at_line P w bytes place to s x line h.read here none;
  place = ap (λ k. k + 1) h.counted;
  cause = why ∙ ap (λ (ls : List (List ℕ)). numbered_cause_at_stage s.part (slice_get ls 0)) (sym here.whole) ∙ sym (cause-at_part P bytes place s x h.read);
}

pub put-fault_at_end : (P : Problem) → IsTrue (is_problem P) → (bytes : List ℕ) (place : ℕ) (s : NumberedStage) (x : NumberedDerivation) (count : ℕ) (c : TextCause) → IsPutTo P bytes place s x count → whole_lines (drop place bytes) ≡ []
    → (s.part ≡ Ended → place ≡ length bytes → ⊥) → c ≡ numbered_cause_at_stage s.part None → IsWrongForm Two P bytes (count + 1) c
put-fault_at_end P w bytes place s x count c h none unfinished why = record {
  right_lines = length (numbered_lines_read P s.part x);
  faulty = fault-at_end P w bytes place s x h.read none (λ e left. unfinished (ap (λ (t : NumberedStage). t.part) e) (let l = h.read.lines.within in let f = ap length left in omega (arith, l, f, length-drop place bytes)));
  place = ap (λ k. k + 1) h.counted;
  cause = why ∙ ap (λ (ls : List (List ℕ)). numbered_cause_at_stage s.part (slice_get ls 0)) (sym none) ∙ sym (cause-at_part P bytes place s x h.read);
}

drop-all : (bytes : List ℕ) → drop (length bytes) bytes ≡ []
drop-all [] = refl
drop-all (b ∷ bs) = drop-all bs

pub put-text : (P : Problem) (bytes : List ℕ) (place : ℕ) (s : NumberedStage) (x : NumberedDerivation) (count : ℕ) → IsPutTo P bytes place s x count → s.part ≡ Ended → place ≡ length bytes → IsNumberedText P x bytes
put-text P bytes place s x count h e f = kind.text-at_end P bytes place s x h.read e (ap (λ n. drop n bytes) f ∙ drop-all bytes)
