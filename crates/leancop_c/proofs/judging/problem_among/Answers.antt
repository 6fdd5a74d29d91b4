use Rattle.leancop_c.proofs.Reading.{held-in}
use Rattle.leancop_c.proofs.judging.problem_among.Goals as goal

pub returns-clause-held : goal.returns-clause-held
returns-clause-held c = held-in _ _ _ _ _ (c.build.ensures.agreeing _ c.build.ensures.reads_on) (c.build.ensures.agreeing_alone _ c.build.ensures.reads_on) c.in_ok-name.ensures c.in_ok-root.ensures
