use Rattle.std.proofs.Common.{arith, length, map}
use Rattle.std.proofs.lemmas.List.{length-map}
use Rattle.term_store.specs.RefView.{the_place}
use Rattle.prefix_split.proofs.GrowingLaws.{reached-all}
use Rattle.prefix_split.proofs.growing.reach.Goals as goal

pub returns : goal.returns
returns c =
    let n = length-map c.args.label.now the_place in
    reached-all c.args.store.now.store c.args.logic c.args.system.now.strings c.args.nodes.now.items c.reach_first.new.nodes.items (map the_place c.args.label.now) (length c.args.label.now) c.in_ok-node.node c.in_ok-node.ensures (omega (arith, n))
