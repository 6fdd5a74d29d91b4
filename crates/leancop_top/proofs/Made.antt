-- How reading a generated text ends.
use Rattle.std.proofs.Common.{◌≡◌, List, [], ◌∷◌, ℕ, Some, Err, arith, codes, inl, inr, subst}
use Rattle.command_line.specs.CommandLine.{Bounds, GeneratedProblem}
use Rattle.cop_base.specs.Outside.{Rose}
use Rattle.cop_base.specs.Reads.{Read}
use Rattle.problem_build.specs.Refusals.{Refusal, missing, input_too_large, nesting_too_deep, formula_too_large, too_many_symbols, bad}
use Rattle.leancop_top.proofs.NoIncludes.{none-missing}
use Rattle.leancop_top.specs.Commands.Make.{MakeEnds, made_file, made_files, made_text, output_of}
use Rattle.leancop_top.specs.Commands.Make as made
use Rattle.leancop_top.specs.Reading.{IsRead, IsReading, ReadingEnds, refused, refusal_status, unread}
use Rattle.leancop_top.specs.Statuses.{IsCounted}
use Rattle.leancop_top.specs.declared.problem.Reading as program
use Rattle.leancop_top.specs.declared.status.Status.{Status}

-- what is read is what the files of the text hold
pub read_text : (g : GeneratedProblem) (name text : List ℕ) → name ≡ codes "m.p" → text ≡ made_text g → (r : program.Reading) → IsReading (Some ((name, text) ∷ [])) (made_file g) r → IsReading (Some (made_files g)) (made_file g) r
read_text g name text e k r h =
    subst (λ n. IsReading (Some ((n, made_text g) ∷ [])) (made_file g) r) e
    (subst (λ t. IsReading (Some ((name, t) ∷ [])) (made_file g) r) k h)

-- a count that is 0 did not rise
not-rose : Rose 0 0 → ⊥
not-rose (inl h) = absurd (omega (arith, h))
not-rose (inr e) = absurd (omega (arith, e))

by_refusal : (g : GeneratedProblem) (b : Bounds) (r : Refusal) → IsRead (Some (made_files g)) (made_file g) (Err r) → MakeEnds g b (refusal_status r) (output_of g (refusal_status r))
by_refusal g b (missing name) h = absurd (none-missing g.family g.size g.setting name h.reading)
by_refusal g b input_too_large h = made.refused input_too_large tt h
by_refusal g b nesting_too_deep h = made.refused nesting_too_deep tt h
by_refusal g b formula_too_large h = made.refused formula_too_large tt h
by_refusal g b too_many_symbols h = made.refused too_many_symbols tt h
by_refusal g b (bad file offset cause) h = made.refused (bad file offset cause) tt h

-- its library counts no fault
pub by_reading : (g : GeneratedProblem) (b : Bounds) (m n : ℕ) (after : List Read) (s : Status) → ReadingEnds (Some (made_files g)) (made_file g) s → IsCounted m n 0 0 after s → MakeEnds g b s (output_of g s)
by_reading g b m n after _ (refused r h) counted = by_refusal g b r h
by_reading g b m n after _ (unread name h) counted = absurd (not-rose counted.0)
