use Rattle.std.proofs.Common.{subst}
use Rattle.command_line.specs.CommandView.{the_bounds}
use Rattle.leancop_top.specs.Commands.Make.{derived, fruitless}
use Rattle.leancop_top.specs.TableauSearch.{IsSearched}
use Rattle.tableau_core.specs.Numbered.TableauView.{the_tableau}
use Rattle.leancop_top.proofs.commands.make.prove_made.Goals as goal

pub returns-in_ok-accept-in-Found : goal.returns-in_ok-accept-in-Found
returns-in_ok-accept-in-Found c = λ g made.
    let found = subst (IsSearched c.args.problem.now (the_bounds c.args.bounds)) c.in-Found.is c.in_ok-limit.ensures in
    let written = c.in_ok-accept-in-Found.ensures in
    derived c.args.problem.now c.in-Found.limit written.0 made (record {
      closed = record { tableau = the_tableau c.in-Found.tableau; closed = found.closed };
      limit_is = found.limit_is;
      written = written.1;
    })

pub returns-in-Fruitless : goal.returns-in-Fruitless
returns-in-Fruitless c = λ g made.
    fruitless c.args.problem.now c.in-Fruitless.status made (subst (IsSearched c.args.problem.now (the_bounds c.args.bounds)) c.in-Fruitless.is c.in_ok-limit.ensures)
