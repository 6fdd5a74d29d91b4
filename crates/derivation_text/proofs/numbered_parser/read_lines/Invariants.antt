use Rattle.std.proofs.Common.{◌-◌, length}
use Rattle.derivation_text.proofs.NumberedSteps.{IsPutTo}
use Rattle.derivation_text.proofs.numbered_parser.read_lines.Given as goal

abbrev pub invariant-loop-text : goal.invariant-loop-text
invariant-loop-text l = IsPutTo l.problem l.bytes l.place l.stage l.d l.count

abbrev pub decreases-loop-text : goal.decreases-loop-text
decreases-loop-text l = length l.bytes - l.place
