use Rattle.std.proofs.Common.{◌≡◌, ℕ, Bool, length}
use Rattle.tptp_lex.specs.Scanning.{after_run}
use Rattle.tptp_lex.proofs.bytes.after_run.Given as goal

abbrev pub invariant-loop-first : goal.invariant-loop-first
invariant-loop-first g l = (p : ℕ → Bool) → ((b : ℕ) (r : Bool) → (goal.Fn-ptr g).post l.test (b, tt) r → r ≡ p b) → after_run p l.rest ≡ after_run p l.bytes

abbrev pub decreases-loop-first : goal.decreases-loop-first
decreases-loop-first g l = length l.rest
