use Rattle.sequent_calc.specs.StepView.{the_modal}
use Rattle.sequent_convert.specs.ByNumber.AheadView.{the_ahead}
use Rattle.sequent_convert.specs.ByNumber.NodeView.{the_node}
use Rattle.sequent_convert.specs.ByNumber.RunView.{the_lists, the_run, the_source, the_table}
use Rattle.sequent_convert.proofs.MoveLaws.{move-forks}
use Rattle.sequent_convert.proofs.run.Run.split_ahead.Goals as goal

pub returns-clause-moves : goal.returns-clause-moves
returns-clause-moves c =
    move-forks (the_source c.args.source.now) (the_run c.args.source.now c.args.self.now) _ c.args.turn c.args.place (the_modal c.args.modal) (the_node (the_lists c.args.source.now) c.args.left) (the_node (the_lists c.args.source.now) c.args.right) (the_ahead (the_table c.args.source.now) c.parts_at-parts.result.0) (the_ahead (the_table c.args.source.now) c.parts_at-parts.result.1)
    c.requires.first c.requires.comes c.requires.works c.in_ok-fork.ensures.number c.requires.made c.parts_at-parts.ensures c.in_ok-fork.ensures.run
