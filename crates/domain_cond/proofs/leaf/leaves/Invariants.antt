use Rattle.std.proofs.Common.{map}
use Rattle.store_theory.proofs.WeightLaws.{weight_sum}
use Rattle.term_store.specs.RefView.{the_place}
use Rattle.domain_cond.proofs.LeafLaws.{IsLooking}
use Rattle.domain_cond.proofs.leaf.leaves.Given as goal

abbrev pub invariant-loop-r : goal.invariant-loop-r
invariant-loop-r l = IsLooking l.store.store l.fn.term.0 (map the_place l.pending.items) l.seen.keys (map the_place l.leaves.items)

abbrev pub decreases-loop-r : goal.decreases-loop-r
decreases-loop-r l = weight_sum l.store.store (map the_place l.pending.items)
