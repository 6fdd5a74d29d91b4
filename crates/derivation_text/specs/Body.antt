-- The lines of a derivation after its head, as values, and the order in which they stand.
use Rattle.std.specs.Prelude.{ℕ, List, [], ◌∷◌, ◌++◌, map, Bool, true, nat_lt, codes, Option, None, Some, if◌then◌else◌}
use Rattle.calculus.specs.Syntax.{Symbol}
use Rattle.calculus.specs.Derivations.{EigenName, SpareName, Step}
use Rattle.calculus.specs.DerivationText.{eigen_line, spare_line, step_is_written, step_line}
use Rattle.derivation_text.specs.declared.body_line.Stage.{Stage}
use Rattle.derivation_text.specs.declared.body_line.Stage.TheVariants.{Eigens, Spares, Steps, Ended}
use Rattle.derivation_text.specs.Written.{eigen_is_written, spare_is_written}
use Rattle.text_lines.specs.Spelling.{Spells}

pub data BodyLine : Type 0 where
  of_eigen : EigenName → BodyLine
  of_spare : SpareName → BodyLine
  of_step : Step → BodyLine
  last : BodyLine

abbrev pub body_line_text : List Symbol → BodyLine → List ℕ
body_line_text symbols (of_eigen x) = eigen_line x
body_line_text symbols (of_spare x) = spare_line x
body_line_text symbols (of_step x) = step_line symbols x
body_line_text symbols last = codes "end"

abbrev pub body_line_is_written : List Symbol → BodyLine → Bool
body_line_is_written symbols (of_eigen x) = eigen_is_written x
body_line_is_written symbols (of_spare x) = spare_is_written x
body_line_is_written symbols (of_step x) = step_is_written symbols x
body_line_is_written symbols last = true

abbrev pub IsBodyLine : List Symbol → List ℕ → BodyLine → Type 0
IsBodyLine symbols bytes x = Spells (body_line_is_written symbols x) (body_line_text symbols x) bytes

abbrev pub if_below : ℕ → ℕ → Stage → Option Stage
if_below m n s = if nat_lt m n then Some s else None

-- the stage after one line more, if it may stand there
abbrev pub stage_after : Stage → BodyLine → Option Stage
stage_after (Eigens n) (of_eigen x) = if_below n x.number (Eigens x.number)
stage_after (Eigens n) (of_spare x) = if_below 0 x.number (Spares x.number)
stage_after (Eigens n) (of_step x) = Some Steps
stage_after (Eigens n) last = Some Ended
stage_after (Spares n) (of_spare x) = if_below n x.number (Spares x.number)
stage_after (Spares n) (of_step x) = Some Steps
stage_after (Spares n) last = Some Ended
stage_after Steps (of_step x) = Some Steps
stage_after Steps last = Some Ended
stage_after _ _ = None

abbrev pub advanced : Option Stage → BodyLine → Option Stage
advanced None x = None
advanced (Some s) x = stage_after s x

abbrev pub stage_after_lines : Option Stage → List BodyLine → Option Stage
stage_after_lines s [] = s
stage_after_lines s (x ∷ xs) = stage_after_lines (advanced s x) xs

abbrev pub names_and_steps : List EigenName → List SpareName → List Step → List BodyLine
names_and_steps es ss xs = map of_eigen es ++ (map of_spare ss ++ map of_step xs)
