use Rattle.std.proofs.Common.{◌≡◌, drop, map}
use Rattle.term_store.specs.RefView.{the_place}
use Rattle.domain_cond.specs.Standings.{share}
use Rattle.domain_cond.proofs.standing.share.Given as goal

abbrev pub invariant-loop-item : goal.invariant-loop-item
invariant-loop-item l = share (map the_place (drop l.item-index l.left)) (map the_place l.right) ≡ share (map the_place l.left) (map the_place l.right)
