use Rattle.std.proofs.Common.{◌≡◌, length, false}
use Rattle.tptp_lex.specs.Scanning.{after_quoted}
use Rattle.tptp_lex.proofs.quotes.after_quoted.Given as goal

abbrev pub invariant-loop-first : goal.invariant-loop-first
invariant-loop-first l = after_quoted l.quote l.escaped l.rest ≡ after_quoted l.quote false l.bytes

abbrev pub decreases-loop-first : goal.decreases-loop-first
decreases-loop-first l = length l.rest
