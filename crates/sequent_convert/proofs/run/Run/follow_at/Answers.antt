use Rattle.std.proofs.Common.{◌≡◌, List, get_or, refl, subst}
use Rattle.sequent_convert.specs.ByNumber.NodeView.{the_node}
use Rattle.sequent_convert.specs.declared.node.Node.{Node}
use Rattle.sequent_convert.specs.ByNumber.RunView.{the_lists, the_run, the_source}
use Rattle.sequent_convert.proofs.MoveLaws.{move-passes, literal-ahead, fork-ahead}
use Rattle.sequent_convert.proofs.ByNumber.NodeLaws.{node-at}
use Rattle.tableau_core.specs.PartView.{the_part}
use Rattle.sequent_convert.proofs.run.Run.follow_at.Goals as goal

pub end-requires-clause-ahead : goal.end-requires-clause-ahead
end-requires-clause-ahead c =
    let w = c.requires.works in
    let same = node-at (the_lists c.args.source.now) c.args.self.now.branch.nodes.items c.args.place c.index-nodes-place.result w.0 w.1 (subst (λ (ns : List Node). c.index-nodes-place.result ≡ get_or ns c.args.place c.index-nodes-place.result) c.as_slice-nodes.ensures.value c.index-nodes-place.is) in
    literal-ahead (the_source c.args.source.now) (the_run c.args.source.now c.args.self.now) c.args.turn c.args.place (the_node (the_lists c.args.source.now) c.index-nodes-place.result) c.requires.first c.requires.done w same c.in-Literal.ensures.shape

pub choose-requires-clause-ahead : goal.choose-requires-clause-ahead
choose-requires-clause-ahead c =
    let w = c.requires.works in
    let same = node-at (the_lists c.args.source.now) c.args.self.now.branch.nodes.items c.args.place c.index-nodes-place.result w.0 w.1 (subst (λ (ns : List Node). c.index-nodes-place.result ≡ get_or ns c.args.place c.index-nodes-place.result) c.as_slice-nodes.ensures.value c.index-nodes-place.is) in
    fork-ahead (the_source c.args.source.now) (the_run c.args.source.now c.args.self.now) c.second_position-second.result c.args.turn c.args.place (the_node (the_lists c.args.source.now) c.index-nodes-place.result) (the_part c.in-Beta.a) (the_part c.in-Beta.field-1) c.requires.first c.requires.done w same c.in-Beta.ensures.shape c.in-Beta.ensures.components c.second_position-second.ensures

pub returns-in-One-clause-moves : goal.returns-in-One-clause-moves
returns-in-One-clause-moves c =
    let w = c.requires.works in
    let same = node-at (the_lists c.args.source.now) c.args.self.now.branch.nodes.items c.args.place c.index-nodes-place.result w.0 w.1 (subst (λ (ns : List Node). c.index-nodes-place.result ≡ get_or ns c.args.place c.index-nodes-place.result) c.as_slice-nodes.ensures.value c.index-nodes-place.is) in
    move-passes (the_source c.args.source.now) (the_run c.args.source.now c.args.self.now) _ c.args.turn c.args.place (the_node (the_lists c.args.source.now) c.index-nodes-place.result) _ c.requires.first c.requires.done w same c.in-One.ensures.shape refl (c.go_on.ensures.run c.args.source.now)

pub returns-in-Alpha-clause-moves : goal.returns-in-Alpha-clause-moves
returns-in-Alpha-clause-moves c =
    let w = c.requires.works in
    let same = node-at (the_lists c.args.source.now) c.args.self.now.branch.nodes.items c.args.place c.index-nodes-place.result w.0 w.1 (subst (λ (ns : List Node). c.index-nodes-place.result ≡ get_or ns c.args.place c.index-nodes-place.result) c.as_slice-nodes.ensures.value c.index-nodes-place.is) in
    move-passes (the_source c.args.source.now) (the_run c.args.source.now c.args.self.now) _ c.args.turn c.args.place (the_node (the_lists c.args.source.now) c.index-nodes-place.result) _ c.requires.first c.requires.done w same c.in-Alpha.ensures.shape refl (c.go_on-in-Alpha.ensures.run c.args.source.now)

pub returns-in-Gamma-clause-moves : goal.returns-in-Gamma-clause-moves
returns-in-Gamma-clause-moves c =
    let w = c.requires.works in
    let same = node-at (the_lists c.args.source.now) c.args.self.now.branch.nodes.items c.args.place c.index-nodes-place.result w.0 w.1 (subst (λ (ns : List Node). c.index-nodes-place.result ≡ get_or ns c.args.place c.index-nodes-place.result) c.as_slice-nodes.ensures.value c.index-nodes-place.is) in
    move-passes (the_source c.args.source.now) (the_run c.args.source.now c.args.self.now) _ c.args.turn c.args.place (the_node (the_lists c.args.source.now) c.index-nodes-place.result) _ c.requires.first c.requires.done w same c.in-Gamma.ensures.shape refl (c.go_on-in-Gamma.ensures.run c.args.source.now)

pub returns-in-Delta-clause-moves : goal.returns-in-Delta-clause-moves
returns-in-Delta-clause-moves c =
    let w = c.requires.works in
    let same = node-at (the_lists c.args.source.now) c.args.self.now.branch.nodes.items c.args.place c.index-nodes-place.result w.0 w.1 (subst (λ (ns : List Node). c.index-nodes-place.result ≡ get_or ns c.args.place c.index-nodes-place.result) c.as_slice-nodes.ensures.value c.index-nodes-place.is) in
    move-passes (the_source c.args.source.now) (the_run c.args.source.now c.args.self.now) _ c.args.turn c.args.place (the_node (the_lists c.args.source.now) c.index-nodes-place.result) _ c.requires.first c.requires.done w same c.in-Delta.ensures.shape refl (c.go_on-in-Delta.ensures.run c.args.source.now)
