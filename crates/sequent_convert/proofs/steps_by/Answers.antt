use Rattle.sequent_convert.specs.ByNumber.RunView.{the_source}
use Rattle.sequent_convert.proofs.Converted.{converted-here}
use Rattle.sequent_convert.proofs.steps_by.Goals as goal

pub returns-clause-converted : goal.returns-clause-converted
returns-clause-converted c = converted-here (the_source c.args.source.now) c.requires.basis c.requires.limit c.loop-run.run.steps (c.loop-run.invariant.0.shut c.loop-run-test.false).leading

pub returns-clause-short : goal.returns-clause-short
returns-clause-short c = (c.loop-run.invariant.0.shut c.loop-run-test.false).cost
