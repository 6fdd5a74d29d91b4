use Rattle.tableau_reading.proofs.solving.solve_system.Goals as goal

pub returns-in-Constant-clause-found : goal.returns-in-Constant-clause-found
returns-in-Constant-clause-found c = c.solve_by.ensures.found

pub returns-in-Cumulative-clause-found : goal.returns-in-Cumulative-clause-found
returns-in-Cumulative-clause-found c = c.solve_by-in-Cumulative.ensures.found

pub returns-in-Varying-clause-found : goal.returns-in-Varying-clause-found
returns-in-Varying-clause-found c = c.solve_by-in-Varying.ensures.found
