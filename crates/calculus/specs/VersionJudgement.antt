-- The judgement of bytes as a derivation of a problem, in either version of the text.
use Rattle.std.specs.Prelude.{◌≡◌, ◌⊎◌, ℕ, suc, ◌+◌, List, [], ◌∷◌, ◌++◌, length, Bool, ◌&&◌, ◌||◌, ◌==◌, Option, Some, None, codes, if◌then◌else◌}
use Rattle.std.specs.List.{list_all, starts_with, common_prefix_len}
use Rattle.calculus.specs.declared.version.Version.{Version}
use Rattle.calculus.specs.declared.version.Version.TheVariants.{One, Two}
use Rattle.calculus.specs.declared.fault.CheckFault.{CheckFault}
use Rattle.calculus.specs.declared.fault.CheckFault.TheVariants.{Text as InText}
use Rattle.calculus.specs.declared.fault.TextCause.{TextCause}
use Rattle.calculus.specs.declared.fault.TextCause.TheVariants as cause
use Rattle.calculus.specs.Syntax.{Problem}
use Rattle.calculus.specs.Equality.{list_eq}
use Rattle.calculus.specs.Derivations.{Derivation, first_sequent}
use Rattle.calculus.specs.Calculus.{Derives}
use Rattle.calculus.specs.FirstWrong.{Causes, IsFirstWrong}
use Rattle.calculus.specs.Judgement.{Verdict, accepted, rejected, IsRejected, verdict_from}
use Rattle.calculus.specs.Versions.{first_line, NumberedDerivation, numbered_lines, stated, numbering, lines_in, derivation_texts, IsTextIn, numbered_texts, IsNumberedText}

-- ---- the text

-- the first line is that of version 1
abbrev pub is_version_one : List ℕ → Bool
is_version_one bytes = starts_with ◌==◌ bytes (first_line One ++ 10 ∷ [])

abbrev pub begins : List ℕ → List ℕ → Bool
begins word line = starts_with ◌==◌ line word

abbrev pub is_label_line : List ℕ → Bool
is_label_line l = begins (codes "label ") l

abbrev pub is_name_line : List ℕ → Bool
is_name_line l = begins (codes "name ") l

abbrev pub is_term_line : List ℕ → Bool
is_term_line l = begins (codes "term ") l

-- the cause at the finished line l behind the fourth: by its first word, if only lines that may stand before such a line stand
-- between the fourth and it
abbrev pub cause_by_word : Version → List (List ℕ) → List ℕ → TextCause
cause_by_word One before l = if list_all is_name_line before && is_name_line l then cause.Name else cause.Line
cause_by_word Two before l =
    if is_label_line l && list_all is_label_line before then cause.Label
    else (if is_name_line l && list_all (λ b. is_label_line b || is_name_line b) before then cause.Name
    else (if is_term_line l && list_all (λ b. is_label_line b || is_name_line b || is_term_line b) before then cause.Term
    else cause.Line))

abbrev pub cause_in_body : Version → List (List ℕ) → Option (List ℕ) → TextCause
cause_in_body v before None = cause.Line
cause_in_body v before (Some l) = cause_by_word v before l

abbrev pub text_causes : Version → Causes TextCause
text_causes v = record { head = cause.Version ∷ cause.Setting ∷ cause.Formula ∷ cause.Limit ∷ []; after_end = cause.TextAfterEnd; behind_head = cause_in_body v }

-- the bytes are not in the form of the version, and this is the first wrong line
abbrev pub IsWrongForm : Version → Problem → List ℕ → ℕ → TextCause → Type 0
IsWrongForm One P bytes line why = IsFirstWrong (derivation_texts One P) (text_causes One) bytes line why
IsWrongForm Two P bytes line why = IsFirstWrong (numbered_texts P) (text_causes Two) bytes line why

-- the number of the first line at which the text that x has and the one that its derivation has differ
abbrev pub first_difference : Problem → NumberedDerivation → ℕ
first_difference P x = suc (common_prefix_len (list_eq ◌==◌) (numbered_lines P x) (lines_in Two P (stated x)))

-- the bytes are in the form of version 2, and state a derivation whose text is another
pub record IsWrongTable (P : Problem) (bytes : List ℕ) (line : ℕ) (why : TextCause) : Type 0 where
  pub numbers : NumberedDerivation
  pub states : IsNumberedText P numbers bytes
  pub other : ¬ IsTextIn Two P (stated numbers) bytes
  pub place : line ≡ first_difference P numbers
  pub cause : why ≡ cause.Table

-- the bytes are the text of no derivation: they are judged in the form of version 1 where its first line is there, and else of version 2
abbrev pub IsTextFault : Problem → List ℕ → ℕ → TextCause → Type 0
IsTextFault P bytes line why = IsWrongForm (if is_version_one bytes then One else Two) P bytes line why ⊎ IsWrongTable P bytes line why

-- ---- the steps

-- the line of the first step: it comes after four lines and a line for each name, and in version 2 for each label and each term
abbrev pub step_line_in : Version → Derivation → ℕ
step_line_in One d = 5 + length d.names.eigens + length d.names.spares
step_line_in Two d = 5 + length (numbering d).labels + length d.names.eigens + length d.names.spares + length (numbering d).terms

-- the verdict as a function, on which no promise rests either
abbrev pub verdict_in : Version → Problem → Derivation → Verdict
verdict_in v P d = verdict_from P d.names (first_sequent P ∷ []) d.steps (step_line_in v d)

-- ---- the judgement

-- the bytes are a text, of either version, of a derivation that derives
pub record IsProofInText (P : Problem) (bytes : List ℕ) : Type 0 where
  pub version : Version
  pub derivation : Derivation
  pub text : IsTextIn version P derivation bytes
  pub derives : Derives P derivation

-- the bytes are a text of a derivation whose steps fail first at this line
pub record IsWrongSteps (P : Problem) (bytes : List ℕ) (line : ℕ) (fault : CheckFault) : Type 0 where
  pub version : Version
  pub derivation : Derivation
  pub text : IsTextIn version P derivation bytes
  pub fails : IsRejected P derivation.names (first_sequent P ∷ []) derivation.steps (step_line_in version derivation) line fault

-- faults of the text come first, over the whole text
abbrev pub IsVersionJudgement : Problem → List ℕ → Verdict → Type 0
IsVersionJudgement P bytes accepted = IsProofInText P bytes
IsVersionJudgement P bytes (rejected line fault) = ((why : TextCause) × (fault ≡ InText why) × IsTextFault P bytes line why) ⊎ IsWrongSteps P bytes line fault
