use Rattle.std.proofs.Common.{◌≡◌, drop, map}
use Rattle.term_store.specs.RefView.{the_place}
use Rattle.domain_cond.specs.Leaves.{is_among}
use Rattle.domain_cond.proofs.standing.contains.Given as goal

abbrev pub invariant-loop-item : goal.invariant-loop-item
invariant-loop-item l = is_among (map the_place (drop l.item-index l.cells)) l.cell.0 ≡ is_among (map the_place l.cells) l.cell.0
