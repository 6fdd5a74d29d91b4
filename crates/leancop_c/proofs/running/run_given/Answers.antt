use Rattle.leancop_c.proofs.running.run_given.Goals as goal

pub returns-clause-answered : goal.returns-clause-answered
returns-clause-answered c = c.run.ensures.agreeing _ c.run.ensures.reads_on

pub returns-clause-decided : goal.returns-clause-decided
returns-clause-decided c quiet = c.run.ensures.agreeing_decided _ c.run.ensures.reads_on quiet

pub returns-clause-counted : goal.returns-clause-counted
returns-clause-counted c = c.run.ensures.counted
