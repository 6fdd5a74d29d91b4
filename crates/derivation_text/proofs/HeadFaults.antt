-- The faults of the head, in either version.
use Rattle.std.proofs.Common.{◌≡◌, ℕ, ◌^◌, List, [], ◌∷◌, ◌++◌, map, true, ◌&&◌, IsTrue, refl, codes, Result, Err, lt-ltb, arith}
use Rattle.std.proofs.lemmas.Bool.{and_from}
use Rattle.calculus.specs.declared.fault.TextCause.{TextCause}
use Rattle.calculus.specs.declared.fault.TextCause.TheVariants as cause
use Rattle.calculus.specs.declared.version.Version.{Version}
use Rattle.calculus.specs.declared.version.Version.TheVariants.{One, Two}
use Rattle.calculus.specs.Syntax.{Problem}
use Rattle.calculus.specs.Problems.{is_problem}
use Rattle.calculus.specs.Derivations.{Derivation}
use Rattle.calculus.specs.DerivationText.{name_lines, step_line}
use Rattle.calculus.specs.FirstWrong.{IsFirstWrong, TextKind}
use Rattle.calculus.specs.Versions.{NumberedDerivation, derivation_texts, first_line, is_count, is_written, label_line, lines_from, numbered_eigen_line, numbered_spare_line, numbered_step_line, numbered_texts, term_line}
use Rattle.calculus.specs.VersionJudgement.{IsWrongForm, text_causes}
use Rattle.text_lines.specs.Head.{IsHeadFault}
use Rattle.text_lines.specs.declared.head_line.HeadLine.{HeadLine}
use Rattle.text_lines.specs.declared.head_line.HeadLine.TheVariants.{First, Setting, Formula, Limit}
use Rattle.text_lines.proofs.FirstWrong.{wrong-moved}
use Rattle.text_lines.proofs.HeadFaults.{HasHead, head-fault}
use Rattle.derivation_text.specs.Reading.{head_cause, head_number}
use Rattle.derivation_text.specs.declared.fault.ParseFault.{ParseFault}
use Rattle.derivation_text.specs.declared.fault.ParseFault.TheVariants.{Text}
use Rattle.derivation_text.proofs.LineFeeds.{lines-feed}
use Rattle.derivation_text.proofs.NumberedFeeds.{numbered-feed, written-parts}
use Rattle.derivation_text.proofs.Printable.{parts}

-- ---- both kinds of texts begin with a head

head-one : (P : Problem) → IsTrue (is_problem P) → HasHead (derivation_texts One P) (first_line One) P
head-one P w = record {
  feeds = lines-feed P w;
  limit = λ (d : Derivation). d.limit;
  within = λ d h. (parts P d h).limit;
  rest = λ (d : Derivation). (name_lines d.names ++ map (step_line P.symbols) d.steps) ++ codes "end" ∷ [];
  lines_are = λ d. refl;
  blank = record { limit = 1; names = record { eigens = []; spares = [] }; steps = [] };
  blank_printable = refl;
}

abbrev blank : NumberedDerivation
blank = record { limit = 1; labels = []; eigens = []; spares = []; terms = []; steps = [] }

none-count : IsTrue (is_count 0)
none-count = lt-ltb 0 (2 ^ 64) (omega arith)

blank-written : (P : Problem) → IsTrue (is_written P blank)
blank-written P =
    let some = is_count 0 && true in
    let h = and_from (is_count 0) true none-count refl in
    and_from (((some && true) && true) && some) true (and_from ((some && true) && true) some (and_from (some && true) true (and_from some true h refl) refl) h) refl

head-two : (P : Problem) → IsTrue (is_problem P) → HasHead (numbered_texts P) (first_line Two) P
head-two P w = record {
  feeds = numbered-feed P w;
  limit = λ (x : NumberedDerivation). x.limit;
  within = λ x h. (written-parts P x h).limit;
  rest = λ (x : NumberedDerivation). ((((lines_from label_line 1 x.labels ++ map numbered_eigen_line x.eigens) ++ map numbered_spare_line x.spares) ++ lines_from (term_line P.symbols) 1 x.terms) ++ map numbered_step_line x.steps) ++ codes "end" ∷ [];
  lines_are = λ x. refl;
  blank = blank;
  blank_printable = blank-written P;
}

-- ---- faults

fault-head : {D : Type 0} (k : TextKind D) (z : Version) (P : Problem) → HasHead k (first_line z) P → (bytes : List ℕ) (line : HeadLine) → IsHeadFault (first_line z) P bytes line → IsFirstWrong k (text_causes z) bytes (head_number line) (head_cause line)
fault-head k z P t bytes First h = head-fault k (text_causes z) (first_line z) P t bytes First h cause.Version (λ next. refl)
fault-head k z P t bytes Setting h = head-fault k (text_causes z) (first_line z) P t bytes Setting h cause.Setting (λ next. refl)
fault-head k z P t bytes Formula h = head-fault k (text_causes z) (first_line z) P t bytes Formula h cause.Formula (λ next. refl)
fault-head k z P t bytes Limit h = head-fault k (text_causes z) (first_line z) P t bytes Limit h cause.Limit (λ next. refl)

pub fault-head_in : (z : Version) (P : Problem) → IsTrue (is_problem P) → (bytes : List ℕ) (line : HeadLine) → IsHeadFault (first_line z) P bytes line → IsWrongForm z P bytes (head_number line) (head_cause line)
fault-head_in One P w bytes line h = fault-head (derivation_texts One P) One P (head-one P w) bytes line h
fault-head_in Two P w bytes line h = fault-head (numbered_texts P) Two P (head-two P w) bytes line h

-- ---- a fault by the answer that tells it

fault-moved : (z : Version) (P : Problem) (bytes : List ℕ) (m line : ℕ) (c why : TextCause) → m ≡ line → c ≡ why → IsWrongForm z P bytes m c → IsWrongForm z P bytes line why
fault-moved One P bytes m line c why a b f = wrong-moved (derivation_texts One P) (text_causes One) bytes m line c why a b f
fault-moved Two P bytes m line c why a b f = wrong-moved (numbered_texts P) (text_causes Two) bytes m line c why a b f

pub told-in : {A : Type 0} (z : Version) (P : Problem) (bytes : List ℕ) (m line : ℕ) (c why : TextCause) → ◌≡◌ {A = Result A ParseFault} (Err (Text m c)) (Err (Text line why)) → IsWrongForm z P bytes m c → IsWrongForm z P bytes line why
told-in z P bytes m line c why e f =
    let a : m ≡ line = cc e in
    let b : c ≡ why = cc e in
    fault-moved z P bytes m line c why a b f

pub told-head_in : {A : Type 0} (z : Version) (P : Problem) (bytes : List ℕ) (m : HeadLine) (r : ParseFault) (line : ℕ) (why : TextCause) → r ≡ Text (head_number m) (head_cause m) → ◌≡◌ {A = Result A ParseFault} (Err r) (Err (Text line why)) → IsWrongForm z P bytes (head_number m) (head_cause m) → IsWrongForm z P bytes line why
told-head_in {A} z P bytes m r line why d e f = told-in {A = A} z P bytes (head_number m) line (head_cause m) why (back d e) f
  where
    back : {r s t : ParseFault} → r ≡ s → ◌≡◌ {A = Result A ParseFault} (Err r) (Err t) → ◌≡◌ {A = Result A ParseFault} (Err s) (Err t)
    back d e = cc
