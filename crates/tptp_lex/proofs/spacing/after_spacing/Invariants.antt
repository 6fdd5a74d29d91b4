use Rattle.std.proofs.Common.{drop, length}
use Rattle.tptp_lex.specs.Spacing.{Skips}
use Rattle.tptp_lex.proofs.spacing.after_spacing.Given as goal

abbrev pub invariant-loop-after : goal.invariant-loop-after
invariant-loop-after l = Skips (drop l.from l.text) l.rest

abbrev pub decreases-loop-after : goal.decreases-loop-after
decreases-loop-after l = length l.rest
