use Rattle.std.proofs.Common.{List, vec_len}
use Rattle.calculus.specs.Syntax.{Symbol, Term}
use Rattle.derivation_text.proofs.TermWritingLaws.{Goes}
use Rattle.derivation_text.proofs.term_writer.write_behind.Given as goal

abbrev pub invariant-loop-piece : goal.invariant-loop-piece
invariant-loop-piece l = (symbols : List Symbol) (ls : List (List Term)) → Goes symbols ls l.fn.out.items l.out.items l.fn.stack.items l.stack.items

abbrev pub decreases-loop-piece : goal.decreases-loop-piece
decreases-loop-piece l = vec_len l.stack
