use Rattle.std.proofs.Common.{◌+◌, map}
use Rattle.calculus.specs.Lists.{closings_tree}
use Rattle.tableau_core.specs.Numbered.ClosingView.{closing_in}
use Rattle.sequent_convert.specs.ByNumber.RunView.{the_run, the_source, the_table}
use Rattle.sequent_convert.proofs.MoveLaws.{move-extends}
use Rattle.sequent_convert.proofs.OrderLaws.{extension-ordered}
use Rattle.sequent_convert.proofs.run.Run.extend.Goals as goal

pub order-turns-requires : goal.order-turns-requires
order-turns-requires c = extension-ordered (the_source c.args.source.now) c.requires.basis (the_run c.args.source.now c.args.self.now) c.requires.run c.args.place (closings_tree (map (closing_in (the_table c.args.source.now)) c.args.goals.now)) c.requires.extended

pub returns-clause-moves : goal.returns-clause-moves
returns-clause-moves c =
    let s = the_run c.args.source.now c.args.self.now in
    move-extends (the_source c.args.source.now) s _ c.requires.ahead c.args.place (closings_tree (map (closing_in (the_table c.args.source.now)) c.args.goals.now)) c.order-turns.result.now c.requires.extended c.order-turns.ensures
    (λ i. record s { ahead = record { turns = c.order-turns.result.now; ends = c.of_extension-ends.ensures (the_table c.args.source.now) i; instance = c.args.self.now.ahead.instance + 1 } })
