use Rattle.std.proofs.Common.{◌≡◌, ◌++◌, map}
use Rattle.std.specs.Option.{IfSome}
use Rattle.sequent_convert.specs.ByNumber.NodeView.{the_node}
use Rattle.sequent_convert.specs.ByNumber.Pairs.{ArePair}
use Rattle.sequent_convert.specs.ByNumber.RunView.{the_lists}
use Rattle.sequent_convert.proofs.branch.Branch.add_all.Given as goal

abbrev pub invariant-loop-node : goal.invariant-loop-node
invariant-loop-node l = (map (the_node (the_lists l.source)) l.self.nodes.items ≡ map (the_node (the_lists l.source)) l.initial.self.nodes.items ++ map (the_node (the_lists l.source)) l.yielded) × (l.self.done ≡ l.initial.self.done) × IfSome l.seen (ArePair (map (the_node (the_lists l.source)) l.self.nodes.items))
