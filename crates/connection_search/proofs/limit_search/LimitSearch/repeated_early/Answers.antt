use Rattle.connection_search.proofs.limit_search.LimitSearch.repeated_early.Goals as goal

pub repeated_on_path-requires : goal.repeated_on_path-requires
repeated_on_path-requires c = (c.args.self.now.problem.now, c.args.self.now.matrix.now, c.requires.0, c.args.self.now.limit, c.requires.1, c.requires.2)

pub returns-clause-dead : goal.returns-clause-dead
returns-clause-dead c = λ n e base p h. c.in_ok-found.ensures.dead n e c.args.self.now.problem.now c.args.self.now.matrix.now base c.args.self.now.limit p h

pub returns-clause-lost : goal.returns-clause-lost
returns-clause-lost c = λ n e base p h. c.in_ok-found.ensures.lost n e c.args.self.now.problem.now c.args.self.now.matrix.now base c.args.self.now.limit p h
