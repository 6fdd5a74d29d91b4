use Rattle.derivation_check.specs.NamesTold.{AreFirstNamed}
use Rattle.derivation_check.proofs.term_names.all_names.Given as goal

abbrev pub invariant-loop-i : goal.invariant-loop-i
invariant-loop-i l = AreFirstNamed l.homes l.i l.terms l.told.items
