use Rattle.std.proofs.Common.{refl}
use Rattle.sequent_calc.specs.StepView.{the_modal}
use Rattle.sequent_convert.specs.ByNumber.AheadView.{the_ahead}
use Rattle.sequent_convert.specs.ByNumber.NodeView.{the_node}
use Rattle.sequent_convert.specs.ByNumber.RunView.{the_lists, the_run, the_source, the_table}
use Rattle.sequent_convert.proofs.MoveLaws.{move-forks_other}
use Rattle.sequent_convert.proofs.run.Run.split_other.Goals as goal

pub returns-clause-moves : goal.returns-clause-moves
returns-clause-moves c =
    let ahead = the_ahead (the_table c.args.source.now) c.args.self.now.ahead in
    move-forks_other (the_source c.args.source.now) (the_run c.args.source.now c.args.self.now) _ c.args.first c.args.turn c.args.place (the_modal c.args.modal) (the_node (the_lists c.args.source.now) c.args.left) (the_node (the_lists c.args.source.now) c.args.right) ahead ahead
    c.requires.first c.requires.comes c.requires.other c.requires.works c.in_ok-fork.ensures.number c.requires.made (refl, refl) c.in_ok-fork.ensures.run
