use Rattle.std.proofs.Common.{subst}
use Rattle.command_line.specs.CommandView.{the_bounds}
use Rattle.leancop_top.proofs.Ends.{line-counted, line-ends, search-counted, search-tells}
use Rattle.leancop_top.specs.Commands.Tableau.{TableauEnds, found, fruitless}
use Rattle.leancop_top.specs.TableauSearch.{IsSearched}
use Rattle.tableau_core.specs.Numbered.TableauView.{the_tableau}
use Rattle.leancop_top.proofs.commands.tableau.tableau.Goals as goal

pub line_reply-requires : goal.line_reply-requires
line_reply-requires c =
    let b = the_bounds c.args.bounds in
    search-tells c.args.problem.now b c.in-Fruitless.status (subst (IsSearched c.args.problem.now b) c.in-Fruitless.is c.in_ok-limit.ensures)

pub returns-in_ok-output-in-Found-clause-ends : goal.returns-in_ok-output-in-Found-clause-ends
returns-in_ok-output-in-Found-clause-ends c =
    let searched = subst (IsSearched c.args.problem.now (the_bounds c.args.bounds)) c.in-Found.is c.in_ok-limit.ensures in
    found c.in-Found.limit c.in_ok-output-in-Found.output.items (record {
      limit_is = searched.limit_is;
      tableau = the_tableau c.in-Found.tableau;
      written = c.in_ok-output-in-Found.ensures;
    })

pub returns-in-Fruitless-clause-ends : goal.returns-in-Fruitless-clause-ends
returns-in-Fruitless-clause-ends c =
    let b = the_bounds c.args.bounds in
    line-ends (TableauEnds c.args.problem.now b) c.in-Fruitless.status c.line_reply.result c.line_reply.ensures.same c.line_reply.ensures.line
    (fruitless c.in-Fruitless.status (subst (IsSearched c.args.problem.now b) c.in-Fruitless.is c.in_ok-limit.ensures))

pub returns-in-Fruitless-clause-counted : goal.returns-in-Fruitless-clause-counted
returns-in-Fruitless-clause-counted c = λ m n f g after.
    let b = the_bounds c.args.bounds in
    line-counted m n f g after c.in-Fruitless.status c.line_reply.result c.line_reply.ensures.same
    (search-counted c.args.problem.now b m n f g after c.in-Fruitless.status (subst (IsSearched c.args.problem.now b) c.in-Fruitless.is c.in_ok-limit.ensures))
