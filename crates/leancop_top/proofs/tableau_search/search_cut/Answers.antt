use Rattle.std.proofs.Common.{◌-◌, ap, subst}
use Rattle.std.specs.Option.{option_map}
use Rattle.command_line.specs.CommandView.{the_bounds}
use Rattle.connection_search.specs.CutOutcomes.{IsCutAnswer}
use Rattle.leancop_top.proofs.Cuts.{cut-closed, cut-found, missed-open, missed-steps}
use Rattle.leancop_top.proofs.tableau_search.search_cut.Goals as goal

pub returns-in-Closed-clause-least : goal.returns-in-Closed-clause-least
returns-in-Closed-clause-least c =
    let n = c.args.ledger.now.budget - c.args.ledger.now.used in
    let m = c.min-number.result in
    cut-found c.args.problem.now (the_bounds c.args.bounds) c.in-Some.cut.number m n c.in-Closed.limit c.in-Closed.tableau (ap (option_map (λ l. l.number)) c.in-Some.is) c.min-number.ensures
    (subst (IsCutAnswer c.args.problem.now m n) c.in-Closed.is c.in_ok-limit.ensures.answer)

pub returns-in-Closed-clause-closed : goal.returns-in-Closed-clause-closed
returns-in-Closed-clause-closed c =
    let n = c.args.ledger.now.budget - c.args.ledger.now.used in
    let m = c.min-number.result in
    cut-closed c.args.problem.now m n c.in-Closed.limit c.in-Closed.tableau
    (subst (IsCutAnswer c.args.problem.now m n) c.in-Closed.is c.in_ok-limit.ensures.answer)

pub returns-in-Open-clause-missed : goal.returns-in-Open-clause-missed
returns-in-Open-clause-missed c = λ _.
    let n = c.args.ledger.now.budget - c.args.ledger.now.used in
    let m = c.min-number.result in
    missed-open c.args.problem.now (the_bounds c.args.bounds) c.in-Some.cut.number m n (ap (option_map (λ l. l.number)) c.in-Some.is) c.min-number.ensures
    (subst (IsCutAnswer c.args.problem.now m n) c.in-Open.is c.in_ok-limit.ensures.answer)

pub returns-in-Steps-clause-missed : goal.returns-in-Steps-clause-missed
returns-in-Steps-clause-missed c = λ _.
    let n = c.args.ledger.now.budget - c.args.ledger.now.used in
    let m = c.min-number.result in
    missed-steps c.args.problem.now (the_bounds c.args.bounds) c.in-Some.cut.number m n (ap (option_map (λ l. l.number)) c.in-Some.is) c.min-number.ensures c.requires.budget
    (subst (IsCutAnswer c.args.problem.now m n) c.in-Steps.is c.in_ok-limit.ensures.answer)
