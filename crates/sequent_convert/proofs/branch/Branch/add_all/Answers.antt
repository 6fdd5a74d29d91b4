use Rattle.std.proofs.Common.{◌++◌, ◌∷◌, [], append_assoc, map, ◌∙◌, sym, ap, subst}
use Rattle.std.specs.Option.{IfSome}
use Rattle.std.proofs.lemmas.List.{map_push}
use Rattle.sequent_convert.specs.ByNumber.NodeView.{the_node}
use Rattle.sequent_convert.specs.ByNumber.Pairs.{ArePair}
use Rattle.sequent_convert.specs.ByNumber.RunView.{the_lists}
use Rattle.sequent_convert.proofs.ByNumber.PairLaws.{seen-more}
use Rattle.sequent_convert.proofs.branch.Branch.add_all.Goals as goal

pub loop-node-preserved : goal.loop-node-preserved
loop-node-preserved c =
    let the = the_node (the_lists c.args.source.now) in
    let before = map the c.args.self.now.nodes.items in
    let more = the c.in-Some.node ∷ [] in (
      c.in_ok-pair.ensures.nodes ∙ ap (λ l. l ++ more) c.loop-node.invariant.0 ∙ append_assoc before (map the c.loop-node.yielded) more ∙ ap (λ l. before ++ l) (sym (map_push the c.loop-node.yielded c.in-Some.node)),
      c.in_ok-pair.ensures.done ∙ c.loop-node.invariant.1,
      subst (λ l. IfSome c.loop-node.seen (ArePair l)) (sym c.in_ok-pair.ensures.nodes) (seen-more (map the c.loop-node.self.nodes.items) more c.loop-node.seen c.loop-node.invariant.2),
    )
