use Rattle.std.proofs.Common.{◌++◌, ◌∷◌, [], map, reverse, refl, ◌∙◌, ap}
use Rattle.sequent_convert.specs.ByNumber.NodeView.{the_node}
use Rattle.sequent_convert.specs.ByNumber.RunView.{the_lists, the_source, the_table, the_waiting}
use Rattle.sequent_convert.proofs.Converted.{begins-with}
use Rattle.sequent_convert.proofs.OrderLaws.{start-ordered}
use Rattle.sequent_convert.proofs.run.Run.new.Goals as goal

pub order-turns-requires : goal.order-turns-requires
order-turns-requires c = start-ordered (the_source c.args.source.now) c.requires.basis

pub returns-clause-run : goal.returns-clause-run
returns-clause-run c =
    begins-with (the_source c.args.source.now) c.requires.basis c.order-turns.result.now c.order-turns.ensures _ refl c.new-steps.ensures
    (c.in_ok-seen.ensures.nodes ∙ (λ j. map (the_node (the_lists c.args.source.now)) (c.new-branch.ensures.nodes j) ++ c.in_ok-root.ensures j ∷ []))
    (c.in_ok-seen.ensures.done ∙ c.new-branch.ensures.done)
    (λ j. record { turns = c.order-turns.result.now; ends = c.of_start-ends.ensures (the_table c.args.source.now) j; instance = 1 })
    (ap (λ ws. map (the_waiting c.args.source.now) (reverse ws)) c.new-waiting.ensures.items)
