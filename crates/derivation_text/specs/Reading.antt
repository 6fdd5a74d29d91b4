-- How far a text has been read as a derivation.
use Rattle.std.specs.Prelude.{◌≡◌, ◌≢◌, ⊤, ℕ, List, [], ◌∷◌, ◌++◌, map, IsTrue, Option, Some}
use Rattle.std.specs.List.{list_all}
use Rattle.calculus.specs.declared.fault.TextCause.{TextCause}
use Rattle.calculus.specs.declared.fault.TextCause.TheVariants as cause
use Rattle.calculus.specs.Syntax.{Problem}
use Rattle.calculus.specs.Derivations.{Derivation}
use Rattle.calculus.specs.Versions.{first_line}
use Rattle.calculus.specs.declared.version.Version.{Version}
use Rattle.calculus.specs.declared.version.Version.TheVariants.{One}
use Rattle.calculus.specs.DerivationText.{head_lines, is_limit}
use Rattle.calculus.specs.VersionJudgement.{cause_in_body}
use Rattle.derivation_text.specs.declared.body_line.Stage.{Stage}
use Rattle.derivation_text.specs.declared.body_line.Stage.TheVariants.{Eigens, Spares, Steps, Ended}
use Rattle.derivation_text.specs.Body.{BodyLine, of_eigen, of_spare, of_step, last, body_line_is_written, body_line_text, names_and_steps, stage_after_lines}
use Rattle.text_lines.specs.Head as head
use Rattle.text_lines.specs.Lines.{AreRead}
use Rattle.text_lines.specs.declared.head_line.HeadLine.{HeadLine}
use Rattle.text_lines.specs.declared.head_line.HeadLine.TheVariants.{First, Setting, Formula, Limit}

-- the `end` line, where it has been read
abbrev pub ending : Stage → List BodyLine
ending Ended = last ∷ []
ending _ = []

-- the lines after the head that have been read at a stage
abbrev pub lines_at : Stage → Derivation → List BodyLine
lines_at stage d = names_and_steps d.names.eigens d.names.spares d.steps ++ ending stage

-- which lists may be there at a stage
abbrev pub Fits : Stage → Derivation → Type 0
Fits (Eigens n) d = (d.names.spares ≡ []) × (d.steps ≡ [])
Fits (Spares n) d = d.steps ≡ []
Fits Steps d = d.steps ≢ []
Fits Ended d = ⊤

abbrev pub with_line : Derivation → BodyLine → Derivation
with_line d (of_eigen x) = record { limit = d.limit; names = record { eigens = d.names.eigens ++ x ∷ []; spares = d.names.spares }; steps = d.steps }
with_line d (of_spare x) = record { limit = d.limit; names = record { eigens = d.names.eigens; spares = d.names.spares ++ x ∷ [] }; steps = d.steps }
with_line d (of_step x) = record { limit = d.limit; names = record { eigens = d.names.eigens; spares = d.names.spares }; steps = d.steps ++ x ∷ [] }
with_line d last = record { limit = d.limit; names = record { eigens = d.names.eigens; spares = d.names.spares }; steps = d.steps }

-- the lines that have been read, those of the head included
abbrev pub lines_read : Problem → Stage → Derivation → List (List ℕ)
lines_read P stage d = head_lines P d.limit ++ map (body_line_text P.symbols) (lines_at stage d)

-- the head of a version, with this limit, is read up to this place
abbrev pub IsHeadRead : Version → Problem → List ℕ → ℕ → ℕ → Type 0
IsHeadRead version P bytes place top = head.IsHeadRead (first_line version) P bytes place top

-- what has been read up to this place is the beginning of a derivation
pub record IsReadTo (P : Problem) (bytes : List ℕ) (place : ℕ) (stage : Stage) (d : Derivation) : Type 0 where
  pub limit : IsTrue (is_limit d.limit)
  pub lines : AreRead bytes (lines_read P stage d) place
  pub written : IsTrue (list_all (body_line_is_written P.symbols) (lines_at stage d))
  pub order : stage_after_lines (Some (Eigens 0)) (lines_at stage d) ≡ Some stage
  pub fits : Fits stage d

-- the cause of a fault after the head, by the next line
abbrev pub cause_at_stage : Stage → Option (List ℕ) → TextCause
cause_at_stage (Eigens n) next = cause_in_body One [] next
cause_at_stage (Spares n) next = cause_in_body One [] next
cause_at_stage Steps next = cause.Line
cause_at_stage Ended next = cause.TextAfterEnd

-- the number and the cause of a wrong line of the head
abbrev pub head_number : HeadLine → ℕ
head_number First = 1
head_number Setting = 2
head_number Formula = 3
head_number Limit = 4

abbrev pub head_cause : HeadLine → TextCause
head_cause First = cause.Version
head_cause Setting = cause.Setting
head_cause Formula = cause.Formula
head_cause Limit = cause.Limit
