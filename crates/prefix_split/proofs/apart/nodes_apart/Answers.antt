use Rattle.std.proofs.Common.{◌≡◌, [], subst, sym}
use Rattle.prefix_split.specs.Beginnings.{AllApart}
use Rattle.prefix_split.proofs.apart.nodes_apart.Goals as goal

pub loop-i-init : goal.loop-i-init
loop-i-init c = λ σ value t v d h. (let empty : c.new-apart.result.items ≡ [] = cc in subst (AllApart value) (sym empty) h)

pub loop-i-preserved : goal.loop-i-preserved
loop-i-preserved c = λ σ value t v d h. c.in_ok-add_nodes_of.ensures σ value t v d (c.loop-i.invariant σ value t v d h)
