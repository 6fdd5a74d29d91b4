use Rattle.std.proofs.Common.{◌*◌, ◌+◌}
use Rattle.store_theory.specs.Patterns.{pattern_list_size, pattern_size}
use Rattle.term_store.specs.PatternView.{the_pattern}
use Rattle.term_store.specs.RefView.{the_places}
use Rattle.term_unify.specs.Matching.{ArePartsAt, HoldsAlways, MatchTo}
use Rattle.term_unify.proofs.solve.Unifier.+is_matched.Given as goal

abbrev pub invariant-are_parts_matched-loop-i : goal.invariant-are_parts_matched-loop-i
invariant-are_parts_matched-loop-i l = ArePartsAt l.store.store l.end.0 (λ rs. HoldsAlways (MatchTo (the_places l.variables) rs l.parts l.i) l.store.store)

abbrev pub decreases-is_matched : goal.decreases-is_matched
decreases-is_matched l = 2 * pattern_size (the_pattern l.pattern.now)

abbrev pub decreases-is_built_matched : goal.decreases-is_built_matched
decreases-is_built_matched l = 2 * pattern_list_size l.parts.now + 1

abbrev pub decreases-are_parts_matched : goal.decreases-are_parts_matched
decreases-are_parts_matched l = 2 * pattern_list_size l.parts.now
