-- What the walks find.
use Rattle.std.specs.Prelude.{◌≡◌, ◌≤◌, List, [], ◌∷◌, length, false, reverse, Some}
use Rattle.calculus.specs.declared.sign.Sign.TheVariants.{F}
use Rattle.calculus.specs.Syntax.{Problem}
use Rattle.calculus.specs.Kinds.{signed}
use Rattle.calculus.specs.Derivations.{Step, Derivation}
use Rattle.trim_theory.specs.UsedNames.{mentioned}
use Rattle.trim_theory.specs.Bare.{bare}
use Rattle.trim_theory.specs.Marking.{run, at_start}
use Rattle.trim_theory.specs.Reading.{passes_of}
use Rattle.trim_theory.specs.Writing.{write}
use Rattle.trim_theory.specs.Editing.{edited_in}
use Rattle.trim_theory.specs.declared.edit.Edit.{Edit}
use Rattle.trim_theory.specs.declared.pass.Pass.{Pass}
use Rattle.trim_theory.specs.declared.pass.Mark.{Mark}

-- the passes of steps below the problem's formula
abbrev pub passes_in : Problem → List Step → List Pass
passes_in P xs = passes_of xs false (signed F (bare P.formula) ∷ []) []

-- which steps are left, the last step first
abbrev pub marks_by : List Pass → List Mark
marks_by ps = (run ps at_start).done

-- the steps that are left, by marks that begin with the last step
abbrev pub written : List Step → List Mark → List Step
written xs ms = write (reverse ms) xs (0 ∷ 1 ∷ []) []

abbrev pub steps_left : Problem → List Step → List Step
steps_left P xs = written xs (marks_by (passes_in P xs))

abbrev pub derivation_left : Problem → Derivation → Derivation
derivation_left P d = record { limit = d.limit; names = mentioned (steps_left P d.steps) d.names; steps = steps_left P d.steps }

-- the steps, or those without idle ones of a list to which edits lead, where these are no more
pub data MayReplace (P : Problem) (xs : List Step) : List Step → Type 0 where
  same : MayReplace P xs xs
  by_edits : (es : List Edit) (zs : List Step) → edited_in P es xs ≡ Some zs → length (steps_left P zs) ≤ length xs → MayReplace P xs (steps_left P zs)
