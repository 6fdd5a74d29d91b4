use Rattle.std.proofs.Common.{map}
use Rattle.term_store.specs.RefView.{the_place}
use Rattle.search_tree.proofs.KeyLaws.{AreOthers}
use Rattle.search_tree.proofs.goal_key.number_of.Given as goal

abbrev pub invariant-loop-i : goal.invariant-loop-i
invariant-loop-i l = AreOthers (map the_place l.variables) l.place.0 l.i
