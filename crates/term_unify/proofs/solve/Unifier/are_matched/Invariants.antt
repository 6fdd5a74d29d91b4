use Rattle.std.proofs.Common.{map}
use Rattle.term_store.specs.PatternView.{the_pattern}
use Rattle.term_store.specs.RefView.{the_place, the_places}
use Rattle.term_unify.specs.Matching.{HoldsAlways, MatchTo}
use Rattle.term_unify.proofs.solve.Unifier.are_matched.Given as goal

abbrev pub invariant-loop-i : goal.invariant-loop-i
invariant-loop-i l = HoldsAlways (MatchTo (the_places l.variables) (map the_place l.cells) (map the_pattern l.items) l.i) l.store.store
