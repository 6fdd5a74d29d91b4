use Rattle.std.proofs.Common.{◌<◌, length}
use Rattle.label_table.specs.Longer.{IsLonger}
use Rattle.derivation_check.specs.TermsPut.{AreFirstPut}
use Rattle.derivation_check.proofs.term_places.put_terms.Given as goal

abbrev pub invariant-loop-i : goal.invariant-loop-i
invariant-loop-i l = record {
  put : AreFirstPut l.i l.substitutions l.terms l.places.items;
  some : 0 < length l.substitutions;
  grown : IsLonger l.initial.substitutions l.substitutions;
}
