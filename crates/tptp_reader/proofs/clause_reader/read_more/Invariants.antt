use Rattle.std.proofs.Common.{◌≤◌, ◌-◌, ◌∷◌, [], Bool, length}
use Rattle.tptp_reader.specs.Expecting.{literals_rest}
use Rattle.tptp_reader.specs.Failing.{Leads}
use Rattle.tptp_reader.specs.ClauseStanding.{MoreRead}
use Rattle.tptp_reader.proofs.clause_reader.read_more.Given as goal

abbrev pub invariant-bars : goal.invariant-bars
invariant-bars l = record {
  read : MoreRead l.text l.depth l.fn.before l.p (l.literals, l.here);
  settles : (modal : Bool) → Leads modal l.text (literals_rest l.depth ∷ []) l.p (literals_rest l.depth ∷ []) l.here;
  onward : l.p.end ≤ l.here.end;
  within : l.here.end ≤ length l.text;
}

abbrev pub decreases-bars : goal.decreases-bars
decreases-bars l = length l.text - l.here.end
