use Rattle.std.proofs.Common.{◌<◌, ◌≤◌, ◌-◌, ◌∷◌, [], Bool, suc, length}
use Rattle.tptp_reader.specs.Expecting.{term, arguments, some_arguments}
use Rattle.tptp_reader.specs.Failing.{Leads}
use Rattle.tptp_reader.specs.Standing.{ArgumentsUpTo}
use Rattle.tptp_reader.proofs.term_reader.+read_term.Given as goal

abbrev pub decreases-read_arguments : goal.decreases-read_arguments
decreases-read_arguments l = length l.text.now - l.p.end

abbrev pub decreases-read_term : goal.decreases-read_term
decreases-read_term l = length l.text.now - l.p.end

abbrev pub invariant-read_arguments-loop-terms : goal.invariant-read_arguments-loop-terms
invariant-read_arguments-loop-terms l = record {
  read : ArgumentsUpTo l.text l.depth l.p l.terms l.here;
  settles : (modal : Bool) → Leads modal l.text (some_arguments l.depth ∷ []) l.p (term (suc l.depth) ∷ arguments (suc l.depth) ∷ []) l.here;
  onward : l.p.end < l.here.end;
  within : l.here.end ≤ length l.text;
}

abbrev pub decreases-read_arguments-loop-terms : goal.decreases-read_arguments-loop-terms
decreases-read_arguments-loop-terms l = length l.text - l.here.end
