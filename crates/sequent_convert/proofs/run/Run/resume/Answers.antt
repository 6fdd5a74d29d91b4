use Rattle.std.proofs.Common.{◌++◌, ◌∷◌, [], map, ◌∙◌, sym, ap}
use Rattle.std.proofs.lemmas.List.{take-map}
use Rattle.sequent_convert.specs.ByNumber.AheadView.{the_ahead}
use Rattle.sequent_convert.specs.ByNumber.NodeView.{the_node}
use Rattle.sequent_convert.specs.ByNumber.RunView.{the_lists, the_run, the_table}
use Rattle.sequent_convert.proofs.run.Run.resume.Goals as goal

pub returns-clause-run : goal.returns-clause-run
returns-clause-run c =
    let items = c.in_ok-self.ensures.nodes ∙ ap (λ l. map (the_node (the_lists c.args.source.now)) l ++ the_node (the_lists c.args.source.now) c.args.next.node ∷ []) c.truncate.ensures.nodes ∙ ap (λ l. l ++ the_node (the_lists c.args.source.now) c.args.next.node ∷ []) (sym (take-map (the_node (the_lists c.args.source.now)) c.args.next.nodes c.args.self.now.branch.nodes.items)) in
    let done = c.in_ok-self.ensures.done ∙ c.truncate.ensures.done in
    λ i. record (the_run c.args.source.now c.args.self.now) { items = items i; done = done i; ahead = the_ahead (the_table c.args.source.now) c.args.next.ahead }
