use Rattle.std.proofs.Common.{◌<◌, ◌≤◌, ◌-◌, length, ◌∷◌, [], Bool}
use Rattle.tptp_reader.specs.Expecting.{name, names_rest}
use Rattle.tptp_reader.specs.Failing.{Leads}
use Rattle.tptp_reader.specs.ItemStanding.{NamesRead}
use Rattle.tptp_reader.proofs.item_reader.read_names.Given as goal

abbrev pub invariant-names : goal.invariant-names
invariant-names l = record {
  read : NamesRead l.text l.p (l.names, l.here);
  settles : (modal : Bool) → Leads modal l.text (name ∷ names_rest ∷ []) l.p (names_rest ∷ []) l.here;
  onward : l.p.end < l.here.end;
  within : l.here.end ≤ length l.text;
}

abbrev pub decreases-names : goal.decreases-names
decreases-names l = length l.text - l.here.end
