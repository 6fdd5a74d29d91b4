use Rattle.std.proofs.Common.{◌≡◌, length, false}
use Rattle.tptp_lex.specs.Scanning.{after_block}
use Rattle.tptp_lex.proofs.spacing.after_block.Given as goal

abbrev pub invariant-loop-first : goal.invariant-loop-first
invariant-loop-first l = after_block l.star l.rest ≡ after_block false l.bytes

abbrev pub decreases-loop-first : goal.decreases-loop-first
decreases-loop-first l = length l.rest
