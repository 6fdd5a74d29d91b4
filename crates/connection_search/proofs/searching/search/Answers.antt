use Rattle.std.proofs.Common.{[], arith}
use Rattle.connection_search.proofs.searching.search.Goals as goal

pub returns-in_err-store-clause-count : goal.returns-in_err-store-clause-count
returns-in_err-store-clause-count c = ([], record { rising = tt; members = tt }, omega arith)

pub returns-in_err-store-clause-rises : goal.returns-in_err-store-clause-rises
returns-in_err-store-clause-rises c = omega arith

pub search_in-requires : goal.search_in-requires
search_in-requires c = c.requires

pub returns-clause-outcome : goal.returns-clause-outcome
returns-clause-outcome c = c.search_in.ensures.outcome

pub returns-clause-steps : goal.returns-clause-steps
returns-clause-steps c = c.search_in.ensures.steps

pub returns-clause-count : goal.returns-clause-count
returns-clause-count c = c.search_in.ensures.count

pub returns-clause-rises : goal.returns-clause-rises
returns-clause-rises c = c.search_in.ensures.rises

pub returns-clause-budget : goal.returns-clause-budget
returns-clause-budget c = c.search_in.ensures.budget
