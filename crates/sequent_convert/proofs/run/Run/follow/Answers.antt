use Rattle.sequent_convert.specs.ByNumber.RunView.{the_run, the_source}
use Rattle.sequent_convert.proofs.ComingLaws.{coming-here}
use Rattle.sequent_convert.proofs.EndsAhead.{item-stands}
use Rattle.sequent_convert.proofs.run.Run.follow.Goals as goal

pub unreachable-requires : goal.unreachable-requires
unreachable-requires c = item-stands (the_source c.args.source.now) c.requires.basis (coming-here (the_source c.args.source.now) c.requires.basis) (the_run c.args.source.now c.args.self.now) c.requires.run c.requires.is_open c.args.turn c.requires.first.0 c.requires.first.1 c.in-None.ensures
