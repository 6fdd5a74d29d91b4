use Rattle.connection_search.proofs.searching.search_in.Goals as goal

pub search_with-requires : goal.search_with-requires
search_with-requires c = c.requires

pub returns-clause-outcome : goal.returns-clause-outcome
returns-clause-outcome c = c.search_with.ensures.outcome

pub returns-clause-steps : goal.returns-clause-steps
returns-clause-steps c = c.search_with.ensures.steps

pub returns-clause-count : goal.returns-clause-count
returns-clause-count c = c.search_with.ensures.count

pub returns-clause-rises : goal.returns-clause-rises
returns-clause-rises c = c.search_with.ensures.rises

pub returns-clause-budget : goal.returns-clause-budget
returns-clause-budget c = c.search_with.ensures.budget

pub returns-clause-store : goal.returns-clause-store
returns-clause-store c = c.search_with.ensures.store

pub returns-clause-spare : goal.returns-clause-spare
returns-clause-spare c = c.search_with.ensures.spare
