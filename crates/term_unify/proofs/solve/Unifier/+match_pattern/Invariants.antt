use Rattle.std.proofs.Common.{◌*◌, ◌+◌}
use Rattle.store_theory.specs.Patterns.{pattern_list_size, pattern_size}
use Rattle.term_store.specs.PatternView.{the_pattern}
use Rattle.term_store.specs.RefView.{the_places}
use Rattle.term_store.specs.Room.{KeepsRoom}
use Rattle.term_unify.specs.Closed.{IsClosedBelow}
use Rattle.term_unify.specs.Matching.{ArePartsAt}
use Rattle.term_unify.proofs.MatchedLaws.{MatchedTo}
use Rattle.term_unify.proofs.solve.Unifier.+match_pattern.Given as goal

abbrev pub invariant-match_parts-loop-i : goal.invariant-match_parts-loop-i
invariant-match_parts-loop-i l = record {
  matched : ArePartsAt l.initial.store.store l.end.0 (λ rs. MatchedTo l.initial.store.store l.store.store (the_places l.variables) rs l.parts l.i);
  closed : IsClosedBelow l.below l.store.store;
  room : KeepsRoom l.initial.store l.store;
}

abbrev pub decreases-match_pattern : goal.decreases-match_pattern
decreases-match_pattern l = 2 * pattern_size (the_pattern l.pattern.now)

abbrev pub decreases-match_built : goal.decreases-match_built
decreases-match_built l = 2 * pattern_list_size l.parts.now + 1

abbrev pub decreases-match_parts : goal.decreases-match_parts
decreases-match_parts l = 2 * pattern_list_size l.parts.now
