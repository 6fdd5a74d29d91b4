-- How far a text of version 2 has been read, and what is told of a wrong one.
use Rattle.std.specs.Prelude.{◌≡◌, ◌≢◌, ⊤, ℕ, suc, List, [], ◌∷◌, ◌++◌, length, map, Bool, true, false, ◌&&◌, Option, None, Some, IsTrue, if◌then◌else◌}
use Rattle.std.specs.List.{list_all}
use Rattle.calculus.specs.declared.fault.TextCause.{TextCause}
use Rattle.calculus.specs.declared.fault.TextCause.TheVariants as cause
use Rattle.calculus.specs.Syntax.{Problem, Term}
use Rattle.calculus.specs.Derivations.{Label}
use Rattle.calculus.specs.DerivationText.{is_limit}
use Rattle.calculus.specs.Versions.{NumberedDerivation, NumberedEigen, NumberedSpare, NumberedStep, numbered_head}
use Rattle.calculus.specs.VersionJudgement.{is_label_line, is_name_line, is_term_line}
use Rattle.derivation_text.specs.declared.numbered_line.NumberedStage.{NumberedStage}
use Rattle.derivation_text.specs.declared.numbered_line.Part.{Part}
use Rattle.derivation_text.specs.declared.numbered_line.Part.TheVariants.{Labels, Eigens, Spares, Terms, Steps, Ended}
use Rattle.derivation_text.specs.NumberedBody.{NumberedLine, label_of, eigen_of, spare_of, term_of, step_of, last_line, goes_on, numbered_line_is_written, numbered_line_text, numbered_stage_after, takes_labels, takes_terms}
use Rattle.text_lines.specs.Lines.{AreRead}

abbrev pub takes_names : Part → Bool
takes_names Labels = true
takes_names (Eigens n) = true
takes_names (Spares n) = true
takes_names _ = false

-- the cause at the line after those of a part that is not over
abbrev pub cause_in_part : Part → Option (List ℕ) → TextCause
cause_in_part p None = cause.Line
cause_in_part p (Some l) =
    if is_label_line l && takes_labels p then cause.Label
    else (if is_name_line l && takes_names p then cause.Name
    else (if is_term_line l && takes_terms p then cause.Term
    else cause.Line))

-- the cause of a fault after the head, by the next line
abbrev pub numbered_cause_at_stage : Part → Option (List ℕ) → TextCause
numbered_cause_at_stage Ended next = cause.TextAfterEnd
numbered_cause_at_stage Labels next = cause_in_part Labels next
numbered_cause_at_stage (Eigens n) next = cause_in_part (Eigens n) next
numbered_cause_at_stage (Spares n) next = cause_in_part (Spares n) next
numbered_cause_at_stage Terms next = cause_in_part Terms next
numbered_cause_at_stage Steps next = cause_in_part Steps next

abbrev pub numbered_stage_after_lines : Option NumberedStage → List NumberedLine → Option NumberedStage
numbered_stage_after_lines o [] = o
numbered_stage_after_lines None (x ∷ xs) = numbered_stage_after_lines None xs
numbered_stage_after_lines (Some s) (x ∷ xs) = numbered_stage_after_lines (numbered_stage_after s x) xs

abbrev pub first_stage : NumberedStage
first_stage = record { labels = 0; terms = 0; part = Labels }

-- which lists may be there, and which are not empty
abbrev pub FitsPart : Part → NumberedDerivation → Type 0
FitsPart Labels x = (x.eigens ≡ []) × (x.spares ≡ []) × (x.terms ≡ []) × (x.steps ≡ [])
FitsPart (Eigens n) x = (x.eigens ≢ []) × (x.spares ≡ []) × (x.terms ≡ []) × (x.steps ≡ [])
FitsPart (Spares n) x = (x.spares ≢ []) × (x.terms ≡ []) × (x.steps ≡ [])
FitsPart Terms x = (x.terms ≢ []) × (x.steps ≡ [])
FitsPart Steps x = x.steps ≢ []
FitsPart Ended x = ⊤

abbrev pub ending_of : Part → List NumberedLine
ending_of Ended = last_line ∷ []
ending_of _ = []

abbrev pub label_lines : ℕ → List Label → List NumberedLine
label_lines k [] = []
label_lines k (w ∷ ws) = label_of k w ∷ label_lines (suc k) ws

abbrev pub term_lines : ℕ → List Term → List NumberedLine
term_lines k [] = []
term_lines k (t ∷ ts) = term_of k t ∷ term_lines (suc k) ts

-- the lines of these lists
abbrev pub lines_of_lists : List Label → List NumberedEigen → List NumberedSpare → List Term → List NumberedStep → List NumberedLine
lines_of_lists ws es ss ts xs = label_lines 1 ws ++ (map eigen_of es ++ (map spare_of ss ++ (term_lines 1 ts ++ map step_of xs)))

abbrev pub front_lines : NumberedDerivation → List NumberedLine
front_lines x = lines_of_lists x.labels x.eigens x.spares x.terms x.steps

-- the lines after the head that have been read
abbrev pub numbered_lines_at : Part → NumberedDerivation → List NumberedLine
numbered_lines_at p x = front_lines x ++ ending_of p

-- what has been read up to this place is the beginning of a text of version 2
pub record IsNumberedTo (P : Problem) (bytes : List ℕ) (place : ℕ) (stage : NumberedStage) (x : NumberedDerivation) : Type 0 where
  pub limit : IsTrue (is_limit x.limit)
  pub lines : AreRead bytes (numbered_head P x.limit ++ map (numbered_line_text P.symbols) (numbered_lines_at stage.part x)) place
  pub written : IsTrue (list_all (numbered_line_is_written P.symbols) (numbered_lines_at stage.part x))
  pub order : numbered_stage_after_lines (Some first_stage) (numbered_lines_at stage.part x) ≡ Some stage
  pub fits : FitsPart stage.part x
  pub counts : IsTrue (goes_on stage.part) → (stage.labels ≡ length x.labels) × (stage.terms ≡ length x.terms)
