use Rattle.sequent_convert.specs.ByNumber.RunView.{the_run, the_source}
use Rattle.sequent_convert.proofs.MoveLaws.{move-skips}
use Rattle.sequent_convert.proofs.run.Run.make_turn.Goals as goal

pub returns-in_ok-pass_over-in-None-clause-moves : goal.returns-in_ok-pass_over-in-None-clause-moves
returns-in_ok-pass_over-in-None-clause-moves c = move-skips (the_source c.args.source.now) (the_run c.args.source.now c.args.self.now) _ c.args.first c.args.turn c.requires.first c.requires.comes c.in-None.ensures (c.in_ok-pass_over-in-None.ensures.run c.args.source.now)
